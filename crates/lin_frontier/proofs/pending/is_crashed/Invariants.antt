use Rattle.std.proofs.Common.{◌≡◌, ◌&&◌, false, nat_eq, All, take}
use Rattle.lin_frontier.proofs.pending.is_crashed.Given as goal

abbrev pub invariant-loop-operation : goal.invariant-loop-operation
invariant-loop-operation l = All (λ o. (nat_eq o.process l.process && o.crashed) ≡ false) (take l.operation-index l.operations)
