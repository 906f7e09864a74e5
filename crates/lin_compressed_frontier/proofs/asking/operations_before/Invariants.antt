use Rattle.std.proofs.Common.{◌≡◌, take}
use Rattle.lin_members.specs.Asking.{early_of}
use Rattle.lin_compressed_frontier.proofs.asking.operations_before.Given as goal

abbrev pub invariant-loop-operation : goal.invariant-loop-operation
invariant-loop-operation l = l.out.items ≡ early_of l.until (take l.operation-index l.pending)
