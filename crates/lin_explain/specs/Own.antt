-- The events of one object.
use Rattle.std.specs.Prelude.{◌≡◌, ◌-◌, ℕ, List, Option, length, take}
use Rattle.lin_events.specs.declared.items.Item.{Item}
use Rattle.lin_events.specs.declared.events.Event.{Event}
use Rattle.lin_order.specs.Parts.{ArePositionsOf, part}
use Rattle.lin_texts.specs.declared.place.Place.{Place}
use Rattle.lin_tables.specs.WindowTables.{Told}

-- the events of the key in the history, with the spellings of words, and where they stand and are found
pub record IsStretch (names : List (List ℕ)) (key : Item) (h : List Event) (places : Option (List Place)) (stretch : Told) : Type 0 where
  pub names_of : stretch.names ≡ names
  pub events_of : stretch.events ≡ part key h
  pub positions : ArePositionsOf key h stretch.picks
  pub places_of : stretch.places ≡ places

-- all events but the last one
abbrev pub without_last : List Event → List Event
without_last h = take (length h - 1) h
