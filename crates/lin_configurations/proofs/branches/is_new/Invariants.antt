use Rattle.std.proofs.Common.{◌≢◌, All, take}
use Rattle.lin_configurations.proofs.branches.is_new.Given as goal

abbrev pub invariant-loop-operation : goal.invariant-loop-operation
invariant-loop-operation l = All (λ o. o.call ≢ l.call) (take l.operation-index l.operations)
