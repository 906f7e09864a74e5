use Rattle.std.proofs.Common.{ap, sym, subst, ◌∙◌}
use Rattle.lin_history.specs.Stream.{Told, maps_in, told_by}
use Rattle.lin_history.specs.inner.Reads.{IsTold}
use Rattle.lin_history.proofs.follow.tell.Goals as goal

pub returns-in-Some-clause-told : goal.returns-in-Some-clause-told
returns-in-Some-clause-told c = λ m is.
    subst (λ (t : Told). IsTold t c.args.ready.now.items c.tell_all.new.ready.items c.tell_all.result)
    (sym (ap (λ v. told_by m (maps_in v)) (sym c.bare-element.ensures) ∙ ap (told_by m) c.in-Some.ensures)) (c.tell_all.ensures.told m is)

pub returns-in-None-clause-told : goal.returns-in-None-clause-told
returns-in-None-clause-told c = λ m is.
    subst (λ (t : Told). IsTold t c.args.ready.now.items c.tell_one.new.ready.items c.tell_one.result)
    (sym (ap (λ v. told_by m (maps_in v)) (sym c.bare-element.ensures) ∙ ap (told_by m) c.in-None.ensures)) (c.tell_one.ensures.told m is)
