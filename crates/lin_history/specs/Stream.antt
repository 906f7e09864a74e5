-- The events of a byte text, read as a stream of elements.
use Rattle.std.specs.Prelude.{◌≡◌, ◌≢◌, ℕ, ◌+◌, Bool, List, [], ◌∷◌, ◌++◌, drop, Option, Some, None, Result, Ok, Err}
use Rattle.lin_edn.specs.Value.{Value, list, vector, Values, no_values, value}
use Rattle.lin_edn.specs.Grammar.{Spells, ShortBlanks, IsBlankText, IsUnfinished}
use Rattle.lin_edn.specs.Reading.{Refuses}
use Rattle.lin_edn.specs.declared.EdnCause.{EdnCause}
use Rattle.lin_edn.specs.declared.EdnCause.TheVariants as edn
use Rattle.lin_history.specs.Reading.{Reading, IsReading}
use Rattle.lin_history.specs.Table.{event, bare}
use Rattle.lin_events.specs.declared.events.Event.{Event}
use Rattle.lin_history.specs.declared.table.EventFault.{EventFault}
use Rattle.lin_history.specs.declared.follow.FollowFault.{FollowFault}
use Rattle.lin_history.specs.declared.follow.FollowFault.TheVariants as fault

-- events, and the fault that ends them, if any
pub record Told : Type 0 where
  pub events : List Event
  pub ends : Option EventFault

-- what a map tells, before what the maps behind it tell
abbrev pub before : Result (Option Event) EventFault → Told → Told
before (Ok (Some e)) rest = record { events = e ∷ rest.events; ends = rest.ends }
before (Ok None) rest = rest
before (Err f) rest = record { events = []; ends = Some f }

-- the events of maps, one after another, up to the first fault
abbrev pub told_by : Reading → Values → Told
told_by m no_values = record { events = []; ends = None }
told_by m (value v vs) = before (event m v) (told_by m vs)

-- the maps that an element stands for: those of a vector or list, else itself
abbrev pub maps_in : Value → Values
maps_in (vector vs) = vs
maps_in (list vs) = vs
maps_in v = value v no_values

-- the events of a top-level element, and its fault, if any; tags in front are read over
abbrev pub told : Reading → Value → Told
told m v = told_by m (maps_in (bare v))

-- From the beginning up to a place the text is blanks and whole elements without fault, and these are their events.
pub data Gives : Reading → List ℕ → List Event → ℕ → Type 0 where
  nothing : {m : Reading} {s : List ℕ} → Gives m s [] 0
  blanks : {m : Reading} {s t : List ℕ} {es : List Event} {p n : ℕ} → Gives m s es p → ShortBlanks (drop p s) n t → Gives m s es (p + n)
  element : {m : Reading} {s : List ℕ} {es fs : List Event} {v : Value} {p at used : ℕ} →
      Gives m s es p → Spells (drop p s) v at used → told m v ≡ record { events = fs; ends = None } → Gives m s (es ++ fs) (p + used)

-- The events of a text up to its first fault, and how it ends: blank (an unfinished comment aside), in an unfinished
-- element or discard at a place, with a fault of EDN at a place, or with a fault in the element at a place.
pub data IsStream : Reading → List ℕ → List Event → Result (Unit {0}) FollowFault → Type 0 where
  blank : {m : Reading} {s : List ℕ} {es : List Event} {p used : ℕ} →
      Gives m s es p → IsBlankText (drop p s) used → IsStream m s es (Ok tt)
  unfinished : {m : Reading} {s : List ℕ} {es : List Event} {p : ℕ} (at : ℕ) →
      Gives m s es p → IsUnfinished (drop p s) at → IsStream m s es (Err (fault.Truncated (p + at)))
  no_element : {m : Reading} {s : List ℕ} {es : List Event} {p : ℕ} (at : ℕ) (cause : EdnCause) →
      Gives m s es p → Refuses (drop p s) at cause → cause ≢ edn.OutOfMemory → IsStream m s es (Err (fault.Edn (p + at) cause))
  no_event : {m : Reading} {s : List ℕ} {es fs : List Event} {v : Value} {p at used : ℕ} {cause : EventFault} →
      Gives m s es p → Spells (drop p s) v at used → told m v ≡ record { events = fs; ends = Some cause } →
      IsStream m s (es ++ fs) (Err (fault.Event (p + at) cause))

-- a text has one stream
abbrev pub StreamsAreUnique : Type 0
StreamsAreUnique = (m : Reading) (s : List ℕ) (a b : List Event) (x y : Result (Unit {0}) FollowFault) → IsStream m s a x → IsStream m s b y → (a ≡ b) × (x ≡ y)

-- the events of a text and its end by these names, whatever numbers words have that have none so far
abbrev pub IsStreamBy : Bool → List (List ℕ) → List ℕ → List Event → Result (Unit {0}) FollowFault → Type 0
IsStreamBy keyed names s es o = (m : Reading) → IsReading keyed names m → IsStream m s es o
