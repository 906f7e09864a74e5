use Rattle.std.proofs.Common.{take, Contains}
use Rattle.lin_members.specs.Searching.{rest_of}
use Rattle.lin_compressed_frontier.proofs.Making.{IsMadeBehind}
use Rattle.lin_compressed_frontier.proofs.compressed.push_all_taken_out.Given as goal

abbrev pub invariant-loop-member : goal.invariant-loop-member
invariant-loop-member g l = IsMadeBehind (λ m. Contains m.0.placed (l.ended.0, l.ended.1.now)) (rest_of (g.O.SeqObject.observing l.object) l.pending l.ended.0) l.fn.out.items (take l.member-index l.members) l.out.items
