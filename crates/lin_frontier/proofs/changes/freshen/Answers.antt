use Rattle.std.proofs.Common.{false, List, get_or, set, ap, ◌∙◌}
use Rattle.lin_events.specs.declared.calls.Call.TheVariants.{Read}
use Rattle.lin_frontier.specs.declared.pending.Open.{Open}
use Rattle.lin_frontier.specs.Opens.{fresh}
use Rattle.lin_frontier.proofs.Freshening.{partly_get, partly_set, partly_all}
use Rattle.lin_frontier.proofs.changes.freshen.Goals as goal

pub loop-operation-preserved : goal.loop-operation-preserved
loop-operation-preserved c =
    let none : Open = record { process = 0; at = 0; call = Read; crashed = false } in
    let i = c.loop-operation.operation-index in
    ap (λ (xs : List Open). set xs i (fresh (get_or xs i (record { process = 0; at = 0; call = Read; crashed = false })))) c.loop-operation.invariant
    ∙ partly_set fresh i c.args.operations.now none _ c.loop-operation-test.true (ap fresh (partly_get fresh i c.args.operations.now none))

pub returns : goal.returns
returns c = c.loop-operation.invariant ∙ partly_all fresh c.loop-operation.operation-index c.args.operations.now c.loop-operation-test.false
