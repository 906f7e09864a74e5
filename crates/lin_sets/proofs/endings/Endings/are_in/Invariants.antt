use Rattle.std.proofs.Common.{◌<◌, ◌≤◌, ℕ, Contains, length, get_or}
use Rattle.lin_sets.specs.declared.endings.Ending.{Ending}
use Rattle.lin_sets.proofs.endings.Endings.are_in.Given as goal

abbrev pub invariant-loop-at : goal.invariant-loop-at
invariant-loop-at l = (l.at ≤ length l.self.listed.items)
    × ((k : ℕ) (d : Ending) → l.at ≤ k → k < length l.self.listed.items → (get_or l.self.listed.items k d).end < l.place → Contains l.set (get_or l.self.listed.items k d).item)

abbrev pub decreases-loop-at : goal.decreases-loop-at
decreases-loop-at l = l.at
