use Rattle.std.proofs.Common.{◌≤◌, ◌-◌, length}
use Rattle.lin_compressed_frontier.proofs.compressed.place_of.Given as goal

abbrev pub invariant-loop-operation : goal.invariant-loop-operation
invariant-loop-operation l = l.place ≤ length l.pending

abbrev pub decreases-loop-operation : goal.decreases-loop-operation
decreases-loop-operation l = length l.pending - l.place
