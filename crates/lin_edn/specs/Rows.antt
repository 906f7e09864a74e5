-- A list or vector that is read element by element, in words of the grammar.
use Rattle.std.specs.Prelude.{◌≡◌, ℕ, ◌<◌, ◌≤◌, Bool, true, false, List, [], ◌∷◌, ◌++◌, length, drop, slice_index}
use Rattle.lin_bytes.specs.Bytes.{Kind, a_list, a_vector, closing, is_white}
use Rattle.lin_edn.specs.Grammar.{longest, Blanks, Element, Spells, Frame, frame, tagging, Open}
use Rattle.lin_edn.specs.Value.{Value, list, vector, tagged, values_of}
use Rattle.lin_edn.specs.View.{view}
use Rattle.lin_edn.specs.declared.series.Inside.{Inside}
use Rattle.lin_edn.specs.declared.series.Inside.TheVariants as inside
use Rattle.lin_edn.specs.declared.series.Series.{Series}

abbrev pub bracket_of : Bool → Kind
bracket_of true = a_vector
bracket_of false = a_list

-- the vector or list of some elements
abbrev pub value_in : Bool → List Value → Value
value_in true vs = vector (values_of vs)
value_in false vs = list (values_of vs)

-- how many levels a list or vector has inside, behind a tag or none
abbrev pub levels_behind : Bool → ℕ
levels_behind true = 62
levels_behind false = 63

-- a value behind a tag or none
abbrev pub IsBehind : Bool → Value → Value → Type 0
IsBehind true v w = (i : ℕ) × (name : List ℕ) × (w ≡ tagged i name v)
IsBehind false v w = w ≡ v

-- a bracket stands behind a tag that begins at a place, or begins there
abbrev pub IsRound : Bool → ℕ → ℕ → List Frame → Type 0
IsRound true begun o st = (i : ℕ) × (name : List ℕ) × (st ≡ tagging begun i name ∷ [])
IsRound false begun o st = (o ≡ begun) × (st ≡ [])

-- where it begins, at its tag if it has one
abbrev pub row_begun : Series → ℕ
row_begun r = r.begun

-- how far a text is read
abbrev pub row_end : Series → ℕ
row_end r = r.at

-- how many levels it has inside
abbrev pub row_levels : Series → ℕ
row_levels r = levels_behind r.is_tagged

-- The bytes of a text up to where it is read to, no more than the longest element has, leave just a list or vector open, with a
-- tag in front of it or none; in it stand these elements so far, and blanks.
abbrev pub IsRow : Series → List ℕ → List Value → Type 0
IsRow r s vs = (r.at ≤ length s) × (r.at ≤ longest) × (o : ℕ) × (st : List Frame) × IsRound r.is_tagged r.begun o st
    × Open s (row_levels r) (frame (bracket_of r.is_vector) o vs ∷ st) r.at (drop r.at s)

-- in a list or vector with so many levels inside, blanks and an element stand from a place up to another, within the longest length
abbrev pub IsElementAt : ℕ → List ℕ → ℕ → Value → ℕ → Type 0
IsElementAt levels s from v used = (p : ℕ) × (t : List ℕ) × Blanks levels from (drop from s) p t × Element levels p t v used (drop used s) × (used ≤ longest)

-- in one no element stands there, be it behind blanks
abbrev pub IsNoElementAt : ℕ → List ℕ → ℕ → Type 0
IsNoElementAt levels s from = (v : Value) (used : ℕ) → IsElementAt levels s from v used → ⊥

-- neither a whole element nor white nor the closing byte stands where a text is read to
abbrev pub IsAtNothing : Series → List ℕ → Type 0
IsAtNothing r s = IsNoElementAt (row_levels r) s r.at
    × (r.at < length s → r.at < longest → slice_index s r.at ≡ closing (bracket_of r.is_vector) → ⊥)
    × (r.at < length s → r.at < longest → is_white (slice_index s r.at) ≡ false)

-- the list or vector of these elements, whole and with its tag if it has one, ends before a place
abbrev pub IsClosed : Series → List ℕ → List Value → ℕ → Type 0
IsClosed r s vs used = (v : Value) × IsBehind r.is_tagged (value_in r.is_vector vs) v × Spells s v r.begun used

-- what comes next in a list or vector that is read so far
abbrev pub IsNext : Series → Series → List ℕ → List Value → Inside → Type 0
IsNext old new s vs (inside.Element e) = IsRow new s (vs ++ view e ∷ []) × (row_end old < row_end new)
IsNext old new s vs (inside.Closed used) = IsClosed new s vs used
IsNext old new s vs inside.Unknown = IsRow new s vs × IsAtNothing new s
IsNext old new s vs inside.OutOfMemory = IsRow new s vs

-- a text begins with neither bracket, be it behind white
abbrev pub IsBracketless : List ℕ → Type 0
IsBracketless s = (at : ℕ) → at < length s → at < longest → ((i : ℕ) → i < at → is_white (slice_index s i) ≡ true) →
    (slice_index s at ≡ 91 → ⊥) × (slice_index s at ≡ 40 → ⊥)
