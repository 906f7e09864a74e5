use Rattle.std.proofs.Common.{take}
use Rattle.lin_members.specs.Searching.{copy_of, IsMade}
use Rattle.lin_compressed_frontier.proofs.compressed.all_copied.Given as goal

abbrev pub invariant-loop-member : goal.invariant-loop-member
invariant-loop-member g l = IsMade (λ m. Unit {0}) (copy_of (g.O.SeqObject.observing l.object) l.pending) (take l.member-index l.members) l.out.items
