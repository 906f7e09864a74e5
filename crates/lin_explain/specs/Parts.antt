-- What is told beside the text of an explanation, in parts.
use Rattle.std.specs.Prelude.{◌≡◌, ℕ, List, Option, Some, None, slice_get}
use Rattle.lin_events.specs.declared.items.Item.{Item}
use Rattle.lin_events.specs.declared.events.Event.{Event}
use Rattle.lin_objects.specs.declared.kinds.Kind.{Kind}
use Rattle.lin_texts.specs.declared.place.Place.{Place}
use Rattle.lin_answers.specs.Answers.{kinds_in}
use Rattle.lin_answers.specs.Edits.{Present}
use Rattle.lin_explain.specs.Events.{whole_event}
use Rattle.lin_explain.specs.declared.parts.Spot.{Spot}

-- where the event at the position stands in the recording, if there is one
abbrev pub place_of : Option (List Place) → ℕ → Option Place
place_of None at = None
place_of (Some places) at = slice_get places at

-- the event, which stands at the position: its whole words, and where it stands in the recording
pub record IsSpot (names : List (List ℕ)) (places : Option (List Place)) (at : ℕ) (event : Event) (spot : Spot) : Type 0 where
  pub position : spot.at ≡ at
  pub words_of : spot.words.items ≡ whole_event names event
  pub stands : spot.place ≡ place_of places at

-- the object that was asked about with its kind, if one was
abbrev pub object_in : Present → Option Item → Option (Item × Kind)
object_in now None = None
object_in now (Some key) = Some (key, kinds_in now key)
