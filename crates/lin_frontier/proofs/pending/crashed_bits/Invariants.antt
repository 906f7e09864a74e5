use Rattle.std.proofs.Common.{◌≡◌, take}
use Rattle.lin_frontier.specs.Masks.{crashed_bits}
use Rattle.lin_frontier.proofs.pending.crashed_bits.Given as goal

abbrev pub invariant-loop-operation : goal.invariant-loop-operation
invariant-loop-operation l = l.bits ≡ crashed_bits (take l.operation-index l.operations)
