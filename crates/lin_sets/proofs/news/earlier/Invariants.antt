use Rattle.std.proofs.Common.{◌≡◌, ◌≤◌, length}
use Rattle.lin_sets.proofs.news.earlier.Given as goal

abbrev pub invariant-loop-at : goal.invariant-loop-at
invariant-loop-at l = (l.at ≤ l.end) × (l.end ≡ length l.reads)

abbrev pub decreases-loop-at : goal.decreases-loop-at
decreases-loop-at l = l.at
