use Rattle.std.proofs.Common.{◌≡◌, All, take}
use Rattle.lin_frontier.proofs.pending.open_of.Given as goal

abbrev pub invariant-loop-operation : goal.invariant-loop-operation
invariant-loop-operation l = All (λ o. o.process ≡ l.process → ⊥) (take l.operation-index l.pending)
