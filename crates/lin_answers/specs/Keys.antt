-- The keys of a history.
use Rattle.std.specs.Prelude.{◌≡◌, ◌↔◌, ℕ, List, Contains, map}
use Rattle.std.specs.List.{IsDistinct}
use Rattle.lin_events.specs.declared.items.Item.{Item}
use Rattle.lin_events.specs.Items.{item_eq}
use Rattle.lin_events.specs.declared.events.Event.{Event}
use Rattle.lin_names.specs.Spelled.{printed, spelled}

-- an event of the history is of the key
abbrev pub Occurs : List Event → Item → Type 0
Occurs h key = (event : Event) × Contains h event × (event.key ≡ key)

-- just the keys of the history, each once, in the order in which they are printed with these spellings
pub record AreKeys (names : List (List ℕ)) (h : List Event) (keys : List Item) : Type 0 where
  pub in_print : map (spelled names) keys ≡ printed names keys
  pub once : IsDistinct item_eq keys
  pub each : (key : Item) → Contains keys key ↔ Occurs h key
