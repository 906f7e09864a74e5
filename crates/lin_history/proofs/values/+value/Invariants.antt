use Rattle.std.proofs.Common.{◌+◌, ◌-◌, ◌*◌, ◌≤◌, drop, length, map}
use Rattle.lin_edn.specs.Grammar.{Row}
use Rattle.lin_edn.specs.View.{view}
use Rattle.lin_history.proofs.values.+value.Given as goal

abbrev pub invariant-items_at-loop-at : goal.invariant-items_at-loop-at
invariant-items_at-loop-at l = (l.inner ≤ l.at) × (l.at ≤ length l.text) × Row l.levels l.inner (drop l.inner l.text) (map view l.items.items) l.at (drop l.at l.text)

abbrev pub decreases-items_at-loop-at : goal.decreases-items_at-loop-at
decreases-items_at-loop-at l = length l.text - l.at

abbrev pub decreases-items_at : goal.decreases-items_at
decreases-items_at l = 2 * l.levels + 1

abbrev pub decreases-value_at : goal.decreases-value_at
decreases-value_at l = 2 * l.levels
