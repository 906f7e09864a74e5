use Rattle.std.proofs.Common.{vec_len}
use Rattle.lin_configurations.proofs.Merging.{IsMerging}
use Rattle.lin_configurations.proofs.listing.merge.Given as goal

abbrev pub invariant-loop-member : goal.invariant-loop-member
invariant-loop-member g l = IsMerging (g.O.SeqObject.observing l.object) l.pending l.fn.others l.rest.items l.fn.members l.members

abbrev pub decreases-loop-member : goal.decreases-loop-member
decreases-loop-member g l = vec_len l.rest
