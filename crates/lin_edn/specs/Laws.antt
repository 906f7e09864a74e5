-- Laws of what stands in front of a text.
use Rattle.std.specs.Prelude.{◌≡◌, ℕ, ◌+◌, ◌≤◌, List, drop}
use Rattle.lin_edn.specs.Grammar.{Element, ShortBlanks, Spells}
use Rattle.lin_edn.specs.Reading.{Reading, an_element, unfinished, blanks, refused, Allows, IsWantOfMemory}
use Rattle.lin_edn.specs.Value.{Value, nil, bool, int, atom, keyword, text, list, vector, set, map, tagged, Values, no_values, value, Entries, no_entries, entry}

-- a text allows one answer, want of memory aside
abbrev pub ReadingsAreUnique : Type 0
ReadingsAreUnique = (s : List ℕ) (a b : Reading) → Allows s a → Allows s b → (IsWantOfMemory a → ⊥) → (IsWantOfMemory b → ⊥) → a ≡ b

-- a text spells one value, from one place to another
abbrev pub ValuesAreUnique : Type 0
ValuesAreUnique = (s : List ℕ) (v w : Value) (at from used until : ℕ) → Spells s v at used → Spells s w from until → (v ≡ w) × (at ≡ from) × (used ≡ until)

-- whatever stands behind it, at a place stands one element
abbrev pub ElementsAreUnique : Type 0
ElementsAreUnique = (n m p q r : ℕ) (s t u : List ℕ) (v w : Value) → n ≤ 64 → m ≤ 64 → Element n p s v q t → Element m p s w r u → (v ≡ w) × (q ≡ r)

-- a value whose bytes stand so many places later
abbrev mutual
  pub later : ℕ → Value → Value
  later n nil = nil
  later n (bool b) = bool b
  later n (int i) = int i
  later n (atom at w) = atom (n + at) w
  later n (keyword at w) = keyword (n + at) w
  later n (text at w) = text (n + at) w
  later n (list vs) = list (later_values n vs)
  later n (vector vs) = vector (later_values n vs)
  later n (set vs) = set (later_values n vs)
  later n (map es) = map (later_entries n es)
  later n (tagged at w v) = tagged (n + at) w (later n v)

  pub later_values : ℕ → Values → Values
  later_values n no_values = no_values
  later_values n (value v vs) = value (later n v) (later_values n vs)

  pub later_entries : ℕ → Entries → Entries
  later_entries n no_entries = no_entries
  later_entries n (entry k v es) = entry (later n k) (later n v) (later_entries n es)

-- an answer so many places later
abbrev pub reading_later : ℕ → Reading → Reading
reading_later n (an_element v at used) = an_element (later n v) (n + at) (n + used)
reading_later n (unfinished at) = unfinished (n + at)
reading_later n (blanks used) = blanks (n + used)
reading_later n (refused at cause) = refused (n + at) cause

-- what a text allows behind blanks, it allows with them, so many places later
abbrev pub BlanksAreSkipped : Type 0
BlanksAreSkipped = (s t : List ℕ) (n : ℕ) (a : Reading) → ShortBlanks s n t → Allows (drop n s) a → (IsWantOfMemory a → ⊥) → Allows s (reading_later n a)
