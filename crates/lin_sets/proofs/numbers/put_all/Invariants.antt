use Rattle.std.proofs.Common.{◌≡◌, Contains, Some, take}
use Rattle.lin_events.specs.declared.items.Item.{Item}
use Rattle.lin_sets.specs.Points.{number_of}
use Rattle.lin_sets.proofs.numbers.put_all.Given as goal

abbrev pub invariant-loop-item : goal.invariant-loop-item
invariant-loop-item l = record {
  those : (n : Item) → Contains (take l.item-index l.items) n → number_of l.numbers.entries n ≡ Some l.number;
  others : (n : Item) → (Contains (take l.item-index l.items) n → ⊥) → number_of l.numbers.entries n ≡ number_of l.initial.numbers.entries n;
}
