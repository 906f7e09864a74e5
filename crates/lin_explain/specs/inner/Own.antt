-- The events of one object, as they are gathered: words of private contracts.
use Rattle.std.specs.Prelude.{◌≡◌, ℕ, List, Option}
use Rattle.lin_events.specs.declared.items.Item.{Item}
use Rattle.lin_events.specs.declared.events.Event.{Event}
use Rattle.lin_order.specs.Parts.{ArePositionsOf, part}
use Rattle.lin_texts.specs.declared.place.Place.{Place}
use Rattle.lin_tables.specs.WindowTables.{Told}
use Rattle.lin_explain.specs.declared.own.Own.{Own}

-- just the events of the key in the history, and where they stand
pub record IsOwn (key : Item) (h : List Event) (own : Own) : Type 0 where
  pub events_of : own.events.items ≡ part key h
  pub positions : ArePositionsOf key h own.picks.items

-- its events, with the spellings of words, and where they stand and are found
abbrev pub stretch_of : List (List ℕ) → Own → Option (List Place) → Told
stretch_of names own places = record { names = names; events = own.events.items; picks = own.picks.items; places = places }
