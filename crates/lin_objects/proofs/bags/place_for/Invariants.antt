use Rattle.std.proofs.Common.{ℕ, ◌<◌, get_or}
use Rattle.lin_events.specs.declared.items.Item.{Item}
use Rattle.lin_objects.specs.lemmas.Order.{◌⊏◌}
use Rattle.lin_objects.proofs.bags.place_for.Given as goal

abbrev pub invariant-loop-at : goal.invariant-loop-at
invariant-loop-at l = (k : ℕ) (d : Item) → k < l.at → get_or l.items k d ⊏ l.item
