use Rattle.std.proofs.Common.{◌≤◌, length}
use Rattle.lin_events.specs.declared.items.Item.{Item}
use Rattle.lin_sets.specs.Acts.{IsAdd}
use Rattle.lin_sets.specs.Points.{IsLeast, number_of}
use Rattle.lin_sets.proofs.numbers.first_adds.Given as goal

abbrev pub invariant-loop-at : goal.invariant-loop-at
invariant-loop-at l = record {
  within : l.at ≤ length l.adds;
  least : (n : Item) → IsLeast (λ k. (l.at ≤ k) × IsAdd l.adds k n) (number_of l.first.entries n);
}

abbrev pub decreases-loop-at : goal.decreases-loop-at
decreases-loop-at l = l.at
