use Rattle.std.proofs.Common.{◌≡◌, take}
use Rattle.lin_members.specs.Batches.{all_of}
use Rattle.lin_members.specs.Searching.{watched}
use Rattle.lin_members.proofs.batches.are_all_watched.Given as goal

abbrev pub invariant-loop-batch : goal.invariant-loop-batch
invariant-loop-batch g l = watched (g.O.SeqObject.observing l.object) l.pending (all_of (take l.batch-index l.batches)) ≡ all_of (take l.batch-index l.batches)
