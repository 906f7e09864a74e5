use Rattle.std.proofs.Common.{◌≡◌, All, take}
use Rattle.lin_compressed_frontier.proofs.within.are_alone.Given as goal

abbrev pub invariant-loop-member : goal.invariant-loop-member
invariant-loop-member g l = All (λ m. m.1.until ≡ 0) (take l.member-index l.members)
