use Rattle.std.proofs.Common.{◌<◌, ℕ, List, Contains, get_or}
use Rattle.lin_events.specs.declared.items.Item.{Item}
use Rattle.lin_sets.proofs.intervals.Intervals.may_begin.Given as goal

abbrev pub invariant-loop-level : goal.invariant-loop-level
invariant-loop-level l = (k : ℕ) (d : List Item) → k < l.level-index → Contains (get_or l.level-items k d) l.item → ⊥
