use Rattle.std.proofs.Common.{map, take}
use Rattle.lin_frontier.specs.Placing.{IsAbsent}
use Rattle.lin_members.specs.Searching.{IsMade}
use Rattle.lin_compressed_frontier.proofs.compressed.absent_ones.Given as goal

abbrev pub invariant-loop-member : goal.invariant-loop-member
invariant-loop-member g l = IsMade (λ m. IsAbsent l.process m.0.placed) (λ m. m) (take l.member-index l.members) (map (λ m. m.now) l.out.items)
