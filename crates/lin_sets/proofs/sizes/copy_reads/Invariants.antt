use Rattle.std.proofs.Common.{◌≡◌, take}
use Rattle.lin_sets.proofs.sizes.copy_reads.Given as goal

abbrev pub invariant-loop-read : goal.invariant-loop-read
invariant-loop-read l = l.copy.items ≡ take l.read-index l.reads
