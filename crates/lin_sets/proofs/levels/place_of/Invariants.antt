use Rattle.std.proofs.Common.{◌≡◌, ◌<◌, ◌≤◌, ℕ, List, length, get_or}
use Rattle.lin_events.specs.declared.items.Item.{Item}
use Rattle.lin_sets.proofs.levels.place_of.Given as goal

abbrev pub invariant-loop-place : goal.invariant-loop-place
invariant-loop-place l = (l.place ≤ length l.levels) × ((k : ℕ) (d : List Item) → l.place ≤ k → k < length l.levels → get_or l.levels k d ≡ l.set → ⊥)

abbrev pub decreases-loop-place : goal.decreases-loop-place
decreases-loop-place l = l.place
