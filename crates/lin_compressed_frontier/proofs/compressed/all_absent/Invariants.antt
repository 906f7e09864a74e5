use Rattle.std.proofs.Common.{take}
use Rattle.lin_frontier.specs.Placing.{IsAbsent}
use Rattle.lin_members.specs.Searching.{copy_of, IsMade}
use Rattle.lin_compressed_frontier.proofs.compressed.all_absent.Given as goal

abbrev pub invariant-loop-member : goal.invariant-loop-member
invariant-loop-member g l = IsMade (λ m. IsAbsent l.process m.0.placed) (copy_of (g.O.SeqObject.observing l.object) l.pending) (take l.member-index l.members) l.out.items
