use Rattle.std.proofs.Common.{◌≡◌, ℕ, ◌+◌, ◌<◌, false, get_or}
use Rattle.std.specs.Ordering.{is_gt}
use Rattle.lin_events.specs.declared.items.Item.{Item}
use Rattle.lin_names.specs.Spelled.{spelled, spelled_cmp}
use Rattle.lin_names.proofs.printed.is_in_print.Given as goal

abbrev pub invariant-loop-at : goal.invariant-loop-at
invariant-loop-at l = (k : ℕ) (d : Item) → k + 1 < l.at → is_gt (spelled_cmp (spelled l.names (get_or l.items k d)) (spelled l.names (get_or l.items (k + 1) d))) ≡ false
