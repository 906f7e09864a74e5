use Rattle.std.proofs.Common.{◌≡◌, take}
use Rattle.lin_configurations.specs.inner.Branches.{ArePicked}
use Rattle.lin_configurations.proofs.branches.with_call.Given as goal

abbrev pub invariant-loop-operation : goal.invariant-loop-operation
invariant-loop-operation l = ArePicked (λ o. o.call ≡ l.call) (take l.operation-index l.operations) l.out.items
