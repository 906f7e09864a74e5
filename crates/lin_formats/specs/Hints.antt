-- What is told besides of a file that is refused: hints at what to do.
use Rattle.std.specs.Prelude.{◌≡◌, ◌&&◌, ◌||◌, ℕ, Bool, not, if◌then◌else◌, List, [], ◌∷◌, ◌++◌, Option, Some, None, codes, drop, filter, nat_eq, take}
use Rattle.std.specs.List.{starts_with}
use Rattle.lin_bytes.specs.Bytes.{is_white}
use Rattle.lin_edn.specs.Grammar.{Spells}
use Rattle.lin_edn.specs.Value.{Value}
use Rattle.lin_edn.specs.declared.EdnCause.{EdnCause}
use Rattle.lin_edn.specs.declared.EdnCause.TheVariants as edn
use Rattle.lin_history.specs.declared.table.EventFault.{EventFault}
use Rattle.lin_history.specs.declared.table.EventFault.TheVariants as event
use Rattle.lin_formats.specs.declared.inputs.History.{History}
use Rattle.lin_formats.specs.declared.inputs.History.TheVariants.{Whole, Refused}
use Rattle.lin_formats.specs.declared.verdicts.Refusal.{Refusal}
use Rattle.lin_formats.specs.declared.verdicts.Refusal.TheVariants.{Edn, Event, Truncated, Full, BadPair, Few}
use Rattle.lin_formats.specs.Places.{Marked, bad_of}
use Rattle.lin_formats.specs.Elements.{has_pair, has_string}
use Rattle.lin_texts.specs.declared.place.Place.{Place}

-- the element in front of a text, if one stands there
abbrev pub IsInFront : List ℕ → Option Value → Type 0
IsInFront text None = (value : Value) (used : ℕ) → Spells text value 0 used → ⊥
IsInFront text (Some value) = (used : ℕ) × Spells text value 0 used

-- the element at a place, if there is a place, and one stands there
abbrev pub IsAt : List ℕ → Option Place → Option Value → Type 0
IsAt bytes None element = element ≡ None
IsAt bytes (Some place) element = IsInFront (drop place.offset bytes) element

-- the first bytes of a file
abbrev pub beginning : List ℕ → List ℕ
beginning bytes = take 64 bytes

-- white aside, the file begins as JSON does: with a map whose first key is a string, or a vector of such maps
abbrev pub is_json : List ℕ → Bool
is_json first = let dark = filter (λ b. not (is_white b)) first in starts_with nat_eq dark (codes "{\"") || starts_with nat_eq dark (codes "[{\"")

abbrev pub if_so : Bool → List ℕ → List ℕ
if_so holds line = if holds then line else []

abbrev pub pair_line : List ℕ
pair_line = codes "the value is of two parts: if it is a key and a value, say --keyed\n"

abbrev pub strings_line : List ℕ
strings_line = codes "its keys are strings: is it JSON? (examples/from_json.py makes a history of JSON lines)\n"

abbrev pub full_line : List ℕ
full_line = codes "check a beginning of it, or its keys apart\n"

-- what is told of a map that is no event
abbrev pub map_hint : Bool → EventFault → Value → List ℕ
map_hint keyed event.NotAMap v = []
map_hint keyed event.DuplicateKey v = []
map_hint keyed event.Missing v = if_so (has_string v) strings_line
map_hint keyed event.BadProcess v = []
map_hint keyed event.BadType v = []
map_hint keyed event.BadFunction v = []
map_hint keyed event.BadKey v = []
map_hint keyed event.BadValue v = if_so (not keyed && has_pair v) pair_line
map_hint keyed event.OutOfMemory v = []

abbrev pub element_hint : Bool → EventFault → Option Value → List ℕ
element_hint keyed cause None = []
element_hint keyed cause (Some v) = map_hint keyed cause v

-- what is told of a fault of EDN, by the first bytes of the file
abbrev pub edn_hint : EdnCause → List ℕ → List ℕ
edn_hint edn.Unbalanced first = []
edn_hint edn.OddMap first = if_so (is_json first) strings_line
edn_hint edn.TooDeep first = []
edn_hint edn.TooLong first = []
edn_hint edn.OutOfMemory first = []

-- what is told by the first bytes of the file alone
abbrev pub first_hint : List ℕ → List ℕ
first_hint first =
    if starts_with nat_eq first (239 ∷ 187 ∷ 191 ∷ []) then codes "the file begins with a byte order mark: take it away\n"
    else if starts_with nat_eq first (31 ∷ 139 ∷ []) then codes "the file is compressed (gzip): unpack it first\n"
    else if starts_with nat_eq first (255 ∷ 254 ∷ []) || starts_with nat_eq first (254 ∷ 255 ∷ []) then codes "the file is UTF-16: make it UTF-8\n"
    else []

-- The lines that are put of bytes that are refused: for a map that is no event by the element that stands at its place, and by the first bytes
-- of the file.
abbrev pub IsHint : Bool → List ℕ → Marked → Refusal → List ℕ → Type 0
IsHint keyed bytes marked (Edn at cause) hint = hint ≡ edn_hint cause (beginning bytes) ++ first_hint (beginning bytes)
IsHint keyed bytes marked (Event at cause) hint = (element : Option Value) × IsAt bytes (bad_of marked.stop) element
    × (hint ≡ element_hint keyed cause element ++ first_hint (beginning bytes))
IsHint keyed bytes marked (Truncated at) hint = hint ≡ first_hint (beginning bytes)
IsHint keyed bytes marked Full hint = hint ≡ full_line
IsHint keyed bytes marked (BadPair at) hint = hint ≡ []
IsHint keyed bytes marked (Few count wanted) hint = hint ≡ []

-- the lines that are put of what was read
abbrev pub IsHinted : Bool → List ℕ → Marked → History → List ℕ → Type 0
IsHinted keyed bytes marked (Whole events) hint = hint ≡ []
IsHinted keyed bytes marked (Refused refusal) hint = IsHint keyed bytes marked refusal hint
