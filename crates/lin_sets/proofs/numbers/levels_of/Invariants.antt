use Rattle.std.proofs.Common.{◌≤◌, length}
use Rattle.lin_events.specs.declared.items.Item.{Item}
use Rattle.lin_sets.specs.Points.{HasFound, IsLeast, number_of}
use Rattle.lin_sets.proofs.numbers.levels_of.Given as goal

abbrev pub invariant-loop-at : goal.invariant-loop-at
invariant-loop-at l = record {
  within : l.at ≤ length l.reads;
  least : (n : Item) → IsLeast (λ k. (l.at ≤ k) × HasFound l.reads n k) (number_of l.levels.entries n);
}

abbrev pub decreases-loop-at : goal.decreases-loop-at
decreases-loop-at l = l.at
