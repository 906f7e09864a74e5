use Rattle.std.proofs.Common.{◌≡◌, ◌≤◌, length, slice_get, Some, refl, sym, ap, arith}
use Rattle.std.proofs.lemmas.Option.{slice_get_read}
use Rattle.lin_events.specs.declared.events.Event.{Event}
use Rattle.lin_objects.specs.Kinds.{kind_of}
use Rattle.lin_session.specs.Objects.{split_in}
use Rattle.lin_session.proofs.kept.Objects.split_next.Goals as goal

pub returns-in_err-pick_all-in-Some-clause-right : goal.returns-in_err-pick_all-in-Some-clause-right
returns-in_err-pick_all-in-Some-clause-right c = c.pick_all.ensures.right (kind_of c.args.kinds.now)

pub returns-in_err-add-in-None-clause-within : goal.returns-in_err-add-in-None-clause-within
returns-in_err-add-in-None-clause-within c = omega (arith, c.in_err-add-in-None.ensures.refused, c.requires.more)

pub returns-in_err-add-in-None-clause-right : goal.returns-in_err-add-in-None-clause-right
returns-in_err-add-in-None-clause-right c = λ budget kept. c.in_err-add-in-None.ensures.same (kind_of c.args.kinds.now) budget c.args.events.now kept

pub returns-in_ok-pick_all-in-Some-clause-right : goal.returns-in_ok-pick_all-in-Some-clause-right
returns-in_ok-pick_all-in-Some-clause-right c = c.pick_all.ensures.right (kind_of c.args.kinds.now)

pub returns-in_ok-add-in-None-clause-right : goal.returns-in_ok-add-in-None-clause-right
returns-in_ok-add-in-None-clause-right c = λ budget kept.
    let events = c.args.events.now in
    let event = c.index-events-self.result in
    let stands = slice_get_read events (length events) c.args.self.now.split event refl c.requires.more c.index-events-self.is in
    c.in_ok-add-in-None.ensures.next (kind_of c.args.kinds.now) budget events event stands (ap (λ (e : Event). e.key) c.index-events-self.is) (sym c.of.ensures) kept
