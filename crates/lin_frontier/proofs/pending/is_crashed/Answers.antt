use Rattle.std.proofs.Common.{◌≡◌, ◌&&◌, false, nat_eq, sym}
use Rattle.std.proofs.lemmas.List.Folds.{list_any_none}
use Rattle.lin_frontier.specs.declared.pending.Open.{Open}
use Rattle.lin_frontier.specs.lemmas.Each.{all_end}
use Rattle.lin_frontier.proofs.pending.is_crashed.Goals as goal

pub returns : goal.returns
returns c =
    sym (list_any_none (λ (o : Open). nat_eq o.process c.args.process && o.crashed) c.args.operations.now
    (all_end (λ (o : Open). (nat_eq o.process c.args.process && o.crashed) ≡ false) c.args.operations.now c.loop-operation.operation-index c.loop-operation-test.false c.loop-operation.invariant))
