use Rattle.std.proofs.Common.{◌≤◌, length}
use Rattle.lin_members.proofs.batches.first_small.Given as goal

abbrev pub invariant-loop-at : goal.invariant-loop-at
invariant-loop-at l = l.at ≤ length l.batches

abbrev pub decreases-loop-at : goal.decreases-loop-at
decreases-loop-at l = l.at
