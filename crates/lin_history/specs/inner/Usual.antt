-- What is read of a usual map without its elements: cited by the contracts of private functions alone.
use Rattle.std.specs.Prelude.{◌≡◌, ℕ, suc, ◌+◌, ◌<◌, ◌≤◌, Bool, true, false, List, [], ◌∷◌, length, drop, Option, Some, None, Ok, codes}
use Rattle.lin_edn.specs.Grammar.{Element, Row, ShortBlanks, longest}
use Rattle.std.specs.List.{slice_range}
use Rattle.std.specs.Str.{bytes_eq}
use Rattle.lin_bytes.specs.Bytes.{Kind, a_set, a_vector}
use Rattle.lin_edn.specs.Run.{run_value}
use Rattle.lin_edn.specs.Value.{Value, vector, map, Entries, values_of, entries_of}
use Rattle.lin_names.specs.Spelled.{Spelled}
use Rattle.lin_history.specs.PassedMaps.{keyword_of}
use Rattle.lin_history.specs.Reading.{Reading, IsReading}
use Rattle.lin_history.specs.Table.{bare, is_word, under, process_of, type_of, function_of, body_of, said_of, parts_said, or_nil, is_several, event, event_with}
use Rattle.lin_events.specs.declared.calls.Name.{Name}
use Rattle.lin_history.specs.declared.table.EventType.{EventType}
use Rattle.lin_history.specs.declared.usual.Field.{Field}
use Rattle.lin_history.specs.declared.usual.Field.TheVariants as field
use Rattle.lin_history.specs.declared.usual.Extent.{Extent}
use Rattle.lin_history.specs.declared.usual.ValueExtents.{ValueExtents}
use Rattle.lin_history.specs.declared.usual.Process.{Process}
use Rattle.lin_history.specs.declared.usual.Process.TheVariants.{Number, Nemesis}
use Rattle.lin_history.specs.declared.usual.Taken.{Taken}
use Rattle.lin_events.specs.declared.events.Event.{Event}

-- a set, or a vector
abbrev pub kind_of : Bool → Kind
kind_of true = a_set
kind_of false = a_vector

-- from a place on an element with so many levels at most stands, up to another place; where the run there ends is kept, if it is one
abbrev pub IsValueAt : List ℕ → ℕ → Extent → Value → ℕ → Type 0
IsValueAt s levels p v used = Element levels p.at (drop p.at s) v used (drop used s) × (p.at < p.until → v ≡ run_value p.at (slice_range s p.at p.until))

-- these are the values under a key, without their tags; the place of the element is kept
abbrev pub IsPlaced : List ℕ → ℕ → List Value → Option Extent → Type 0
IsPlaced s levels vs None = vs ≡ []
IsPlaced s levels vs (Some p) = (v : Value) × (used : ℕ) × (vs ≡ bare v ∷ []) × IsValueAt s levels p v used

-- from one place to another stands the vector of two, with so many levels at most, the first of which says this item
abbrev pub IsPair : ℕ → List ℕ → ℕ → Spelled → Value → ℕ → Type 0
IsPair levels s from key v used = (k : Value) × (bare k ≡ k) × (said_of k ≡ Some key) × Element levels from (drop from s) (vector (values_of (k ∷ v ∷ []))) used (drop used s)

-- two values tell the same with each type and function
abbrev pub TellSame : Value → Value → Type 0
TellSame w v = (m : Reading) (t : EventType) (f : Name) → body_of m t f w ≡ body_of m t f v

-- the values under a key are one, or none, and say the object's key and a value that tells what this one does
abbrev pub AreParts : Bool → List Value → Spelled → Value → Type 0
AreParts keyed vs key v = (is_several vs ≡ false) × (w : Value) × (parts_said keyed (or_nil vs) ≡ Some (key, w)) × TellSame w v

-- a map with this process, type and function, and these values under `:value`, tells this
abbrev pub TellsWith : Reading → ℕ → EventType → Name → List Value → Option Event → Type 0
TellsWith m n t f vs told = (is_several vs ≡ false) × ((process type function : Value) →
    process_of process ≡ Some n → type_of type ≡ Some t → function_of function ≡ Some f → event_with m process type function (or_nil vs) ≡ Ok told)

-- a value says the process: its number, or that it is a nemesis
abbrev pub IsProcess : Value → Process → Type 0
IsProcess v (Number n) = process_of v ≡ Some n
IsProcess v Nemesis = is_word (codes ":nemesis") v ≡ true

-- the places of the values under the four keys of a map are kept
pub record ArePlaced (s : List ℕ) (levels : ℕ) (es : Entries) (ps : ValueExtents) : Type 0 where
  pub process : IsPlaced s levels (under (codes ":process") es) ps.process
  pub types : IsPlaced s levels (under (codes ":type") es) ps.event_type
  pub function : IsPlaced s levels (under (codes ":f") es) ps.function
  pub values : IsPlaced s levels (under (codes ":value") es) ps.value

-- a key is that of a field
abbrev pub IsKeyOf : Field → List ℕ → Type 0
IsKeyOf field.Process key = bytes_eq key (codes ":process") ≡ true
IsKeyOf field.EventType key = bytes_eq key (codes ":type") ≡ true
IsKeyOf field.Function key = bytes_eq key (codes ":f") ≡ true
IsKeyOf field.Value key = bytes_eq key (codes ":value") ≡ true
IsKeyOf field.Other key = (bytes_eq key (codes ":process") ≡ false) × (bytes_eq key (codes ":type") ≡ false)
    × (bytes_eq key (codes ":f") ≡ false) × (bytes_eq key (codes ":value") ≡ false)

-- a place is kept where none was, if the key is the one that counts
abbrev pub IsPut : Bool → Option Extent → Extent → Option Extent → Type 0
IsPut true old p new = (old ≡ None) × (new ≡ Some p)
IsPut false old p new = new ≡ old

-- the place of the value of a key is kept, if the key counts
pub record IsAdded (old : ValueExtents) (k : Value) (p : Extent) (new : ValueExtents) : Type 0 where
  pub process : IsPut (is_word (codes ":process") k) old.process p new.process
  pub types : IsPut (is_word (codes ":type") k) old.event_type p new.event_type
  pub function : IsPut (is_word (codes ":f") k) old.function p new.function
  pub values : IsPut (is_word (codes ":value") k) old.value p new.value

-- keys and values in reading order
abbrev pub in_turn : List (Value × Value) → List Value
in_turn [] = []
in_turn (e ∷ es) = e.0 ∷ e.1 ∷ in_turn es

-- between an opening byte and a place stand entries with so many levels, and the places of the values that count are kept
abbrev pub IsUpTo : List ℕ → ℕ → ℕ → ℕ → ValueExtents → Type 0
IsUpTo s from levels at ps = (es : List (Value × Value)) × ArePlaced s levels (entries_of es) ps ×
    Row levels (from + 1) (drop (from + 1) s) (in_turn es) at (drop at s)

-- from one place to another stands a map with so many levels inside, and the places of the values that count are kept
abbrev pub IsMapAt : List ℕ → ℕ → ℕ → ValueExtents → ℕ → Type 0
IsMapAt s from levels ps until = (es : Entries) × ArePlaced s levels es ps × Element (suc levels) from (drop from s) (map es) until (drop until s)

-- behind white a map stands, with a tag or none and with so many levels, that tells this, and isn't passed over for a keyword but that of the nemesis
pub record IsTaken (keyed : Bool) (names : List (List ℕ)) (s : List ℕ) (from levels : ℕ) (taken : Taken) : Type 0 where
  pub entries : Entries
  pub at : ℕ
  pub begun : from ≤ at
  pub some : at < taken.used
  pub inside : taken.used ≤ length s
  pub reached : taken.used ≤ longest
  pub short : ShortBlanks s from (drop from s) → ShortBlanks s at (drop at s)
  pub row : (n p : ℕ) (t : List ℕ) (vs : List Value) → Row n p t vs from (drop from s) → Row n p t vs at (drop at s)
  pub value : Value
  pub is_map : bare value ≡ map entries
  pub element : Element levels at (drop at s) value taken.used (drop taken.used s)
  pub told : (m : Reading) → IsReading keyed names m → event m (map entries) ≡ Ok taken.event
  pub over : keyword_of (map entries) ≡ []

-- the event that is told, if any
abbrev pub events_of : Option Event → List Event
events_of None = []
events_of (Some e) = e ∷ []
