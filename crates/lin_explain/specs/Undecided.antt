-- What is told where more configurations would have to be kept than the budget allows.
use Rattle.std.specs.Prelude.{◌≡◌, ◌+◌, ◌-◌, ◌++◌, ◌||◌, ℕ, nat_lt, not, Bool, true, false, List, [], Option, codes, decimal, take}
use Rattle.lin_events.specs.declared.events.Event.{Event}
use Rattle.lin_events.specs.Operations.{IsCrashed, IsEvent}
use Rattle.lin_objects.specs.declared.kinds.Kind.{Kind}
use Rattle.lin_texts.specs.declared.place.Place.{Place}
use Rattle.lin_answers.specs.Answers.{kinds_in}
use Rattle.lin_answers.specs.Edits.{Present}
use Rattle.lin_tables.specs.WindowOperations.{Exactly, IsOpenAt}
use Rattle.lin_tables.specs.WindowTables.{IsTable, Told, open_ones}
use Rattle.lin_tables.specs.Operations.{event_text}
use Rattle.lin_tables.specs.Spots.{event_spot_text}
use Rattle.lin_explain.specs.Certain.{IsCertainText}
use Rattle.lin_explain.specs.Heads.{object_text}
use Rattle.lin_explain.specs.Own.{IsStretch}
use Rattle.lin_explain.specs.Parts.{IsSpot}
use Rattle.lin_explain.specs.declared.parts.Parts.{Parts}
use Rattle.lin_explain.specs.declared.parts.Parts.TheVariants as Part
use Rattle.lin_explain.specs.declared.parts.Spot.{Spot}
use Rattle.lin_explain.specs.declared.parts.Why.{Why}

-- the event with which there are too many
abbrev pub event_line : List (List ℕ) → Kind → ℕ → Option (List Place) → ℕ → Event → List ℕ
event_line names kind budget places at event = object_text names event.key kind ++ codes "more than " ++ decimal budget ++ codes " configurations after "
    ++ event_spot_text places at ++ codes ": " ++ event_text names event ++ codes "\n"

abbrev pub open_line : ℕ → ℕ → List ℕ
open_line running crashed = codes "operations open then: " ++ decimal running ++ codes ", crashed of them: " ++ decimal crashed ++ codes "\n"

abbrev pub front_text : Bool → List ℕ
front_text false = codes "what may help: "
front_text true = codes "; "

-- one more thing that may help, if it may, behind others or none
abbrev pub help_text : Bool → Bool → List ℕ → List ℕ
help_text false others words = []
help_text true others words = front_text others ++ words

abbrev pub end_text : Bool → List ℕ
end_text false = []
end_text true = codes "\n"

-- what may help: a larger budget, keys, fewer operations that crash, and fewer clients
abbrev pub helps_text : Bool → Bool → Bool → Bool → List ℕ
helps_text larger keys crashes clients = (((help_text larger false (codes "a larger --budget (up to 1000000)")
    ++ help_text keys larger (codes "--keyed, if values are pairs of a key and a value"))
    ++ help_text crashes (larger || keys) (codes "fewer operations that crash"))
    ++ help_text clients ((larger || keys) || crashes) (codes "fewer clients at once"))
    ++ end_text (((larger || keys) || crashes) || clients)

-- a larger budget where there is one; keys where none are read; and fewer operations that are open
abbrev pub helps : ℕ → Bool → ℕ → ℕ → List ℕ
helps budget keyed running crashed = helps_text (nat_lt budget 1000000) (not keyed) (nat_lt 0 crashed) (nat_lt 1 (running - crashed))

-- how many operations of the object are open, how many of these crashed, a table of them, and what may help
pub record IsOpenText (stretch : Told) (budget : ℕ) (keyed : Bool) (lines : List ℕ) : Type 0 where
  pub running : ℕ
  pub crashed : ℕ
  pub table : List ℕ
  pub are_open : Exactly running (IsOpenAt stretch.events)
  pub did_crash : Exactly crashed (IsCrashed stretch.events)
  pub is_table : IsTable stretch open_ones table
  pub says : lines ≡ (open_line running crashed ++ table) ++ helps budget keyed running crashed

-- The lines: the event with which there are too many, which operations of its object are open behind it, and a certificate of all events of the
-- object, if one is told. The parts have the object, the event, and what the certificate says.
pub record IsUndecidedText (names : List (List ℕ)) (now : Present) (keyed : Bool) (places : Option (List Place)) (at : ℕ) (lines : List ℕ) (parts : Parts) : Type 0 where
  pub event : Event
  pub stretch : Told
  pub back : List ℕ
  pub whole : Told
  pub certain : List ℕ
  pub why : Option Why
  pub spot : Spot
  pub stands : IsEvent now.history at event
  pub own : IsStretch names event.key (take (at + 1) now.history) places stretch
  pub is_open : IsOpenText stretch now.budget keyed back
  pub whole_own : IsStretch names event.key now.history places whole
  pub is_certain : IsCertainText (kinds_in now event.key) whole certain why
  pub says : lines ≡ (event_line names (kinds_in now event.key) now.budget places at event ++ back) ++ certain
  pub is_spot : IsSpot names places at event spot
  pub parts_told : parts ≡ Part.Undecided event.key (kinds_in now event.key) spot why
