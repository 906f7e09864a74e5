use Rattle.std.proofs.Common.{◌≡◌, ◌&&◌, false, nat_eq, sym, ◌∙◌}
use Rattle.std.proofs.lemmas.List.Folds.{list_any_none}
use Rattle.std.proofs.lemmas.List.Elements.{All-more}
use Rattle.lin_frontier.specs.declared.pending.Open.{Open}
use Rattle.lin_frontier.specs.lemmas.Each.{all_end}
use Rattle.lin_members.proofs.watching.is_observing.Goals as goal

pub loop-operation-preserved : goal.loop-operation-preserved
loop-operation-preserved g c =
    All-more (λ (o : Open). (nat_eq o.process c.args.process && g.O.SeqObject.observing c.args.object.now o.call) ≡ false) c.args.pending.now c.loop-operation.operation-index _
    c.loop-operation-test.true c.loop-operation.invariant (sym c.does_observe.ensures ∙ c.if-does_observe.false)

pub returns : goal.returns
returns g c =
    sym (list_any_none (λ (o : Open). nat_eq o.process c.args.process && g.O.SeqObject.observing c.args.object.now o.call) c.args.pending.now
    (all_end (λ (o : Open). (nat_eq o.process c.args.process && g.O.SeqObject.observing c.args.object.now o.call) ≡ false) c.args.pending.now c.loop-operation.operation-index c.loop-operation-test.false
    c.loop-operation.invariant))
