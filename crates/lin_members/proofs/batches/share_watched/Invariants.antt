use Rattle.std.proofs.Common.{◌≡◌, ◌++◌, take}
use Rattle.lin_members.specs.Batches.{all_of}
use Rattle.lin_members.specs.Searching.{watched}
use Rattle.lin_members.proofs.batches.share_watched.Given as goal

abbrev pub invariant-loop-other : goal.invariant-loop-other
invariant-loop-other g l = all_of l.batches.items ≡ all_of l.fn.batches.items ++ watched (g.O.SeqObject.observing l.object) l.pending (all_of (take l.other-index l.others))
