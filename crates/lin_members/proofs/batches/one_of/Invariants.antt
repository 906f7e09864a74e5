use Rattle.std.proofs.Common.{◌≡◌, take}
use Rattle.lin_members.specs.Batches.{all_of}
use Rattle.lin_members.proofs.batches.one_of.Given as goal

abbrev pub invariant-loop-batch : goal.invariant-loop-batch
invariant-loop-batch l = l.one ≡ all_of (take l.batch-index l.batches)
