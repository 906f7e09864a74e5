use Rattle.std.proofs.Common.{subst, sym, ap, ◌∙◌, ◌++◌, ◌∷◌, [], ◌==◌, not, filter, length, arith}
use Rattle.lin_queues.specs.Members.{Told, View}
use Rattle.lin_queues.proofs.Lists.{on_ok}
use Rattle.lin_queues.specs.Gains.{Gains}
use Rattle.lin_queues.specs.Reaching.{Sinks}
use Rattle.lin_queues.proofs.gathered.Gathered.put_early.Goals as goal

pub returns-clause-told : goal.returns-clause-told
returns-clause-told c =
    let same = sym (c.in_ok-lose.ensures ∙ ap (λ (v : View). record v { gone = v.gone ++ c.args.at ∷ []; early = filter (λ f. not (f == c.args.place)) v.early }) c.in_ok-next.ensures) in
    on_ok c.push_sunk.result (λ told' h whole order is_whole paying enqueues told.
    told' h whole order is_whole paying enqueues (subst (Told whole order (length h) c.args.elements.now) same told) (λ i x at by inside. absurd (omega (arith, by)))) c.push_sunk.ensures.told

pub returns-clause-gains : goal.returns-clause-gains
returns-clause-gains c =
    let same = sym (c.in_ok-lose.ensures ∙ ap (λ (v : View). record v { gone = v.gone ++ c.args.at ∷ []; early = filter (λ f. not (f == c.args.place)) v.early }) c.in_ok-next.ensures) in
    on_ok c.push_sunk.result (λ gains. subst (λ (v : View). Gains c.args.self.now c.push_sunk.new.self (Sinks c.args.elements.now 0 0 v)) (sym same) gains) c.push_sunk.ensures.gains
