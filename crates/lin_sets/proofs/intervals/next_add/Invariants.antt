use Rattle.std.proofs.Common.{◌<◌, ℕ}
use Rattle.lin_sets.specs.Parts.{Stands}
use Rattle.lin_sets.proofs.intervals.next_add.Given as goal

abbrev pub invariant-loop-at : goal.invariant-loop-at
invariant-loop-at l = (k : ℕ) → l.after < k → k < l.at → Stands l.adds k l.item → ⊥
