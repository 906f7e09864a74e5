use Rattle.std.proofs.Common.{◌≡◌, ◌≤◌, ℕ, List, Some, length, slice_get}
use Rattle.lin_events.specs.declared.items.Item.{Item}
use Rattle.lin_sets.specs.Levels.{IsBelow}
use Rattle.lin_sets.proofs.levels.rank_of.Given as goal

abbrev pub invariant-loop-place : goal.invariant-loop-place
invariant-loop-place l = (l.place ≤ length l.levels) × ((k : ℕ) (t : List Item) → l.place ≤ k → slice_get l.levels k ≡ Some t → IsBelow l.set t)

abbrev pub decreases-loop-place : goal.decreases-loop-place
decreases-loop-place l = l.place
