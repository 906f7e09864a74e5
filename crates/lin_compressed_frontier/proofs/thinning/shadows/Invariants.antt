use Rattle.std.proofs.Common.{length, ◌-◌}
use Rattle.lin_compressed_frontier.proofs.Shadowing.{AreShadows}
use Rattle.lin_compressed_frontier.proofs.thinning.shadows.Given as goal

abbrev pub invariant-loop-member : goal.invariant-loop-member
invariant-loop-member g l = AreShadows l.pending l.members l.at l.out.items

abbrev pub decreases-loop-member : goal.decreases-loop-member
decreases-loop-member g l = length l.members - l.at
