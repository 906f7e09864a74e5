-- What an element is, apart from where it lies in memory.
use Rattle.std.specs.Prelude.{ℕ, ℤ, Bool, List, [], ◌∷◌, Option, Some, None, option_map}
use Rattle.lin_bytes.specs.Bytes.{Kind, a_list, a_vector, a_set, a_map}

mutual
  -- An atom, keyword, text or tag carries the place of its first byte, and its bytes.
  pub data Value : Type 0 where
    nil : Value
    bool : Bool → Value
    int : ℤ → Value
    atom : ℕ → List ℕ → Value
    keyword : ℕ → List ℕ → Value
    text : ℕ → List ℕ → Value
    list : Values → Value
    vector : Values → Value
    set : Values → Value
    map : Entries → Value
    tagged : ℕ → List ℕ → Value → Value

  -- values in reading order
  pub data Values : Type 0 where
    no_values : Values
    value : Value → Values → Values

  -- keys with their values, in reading order
  pub data Entries : Type 0 where
    no_entries : Entries
    entry : Value → Value → Entries → Entries

-- a list of values as the values of a collection
abbrev pub values_of : List Value → Values
values_of [] = no_values
values_of (v ∷ vs) = value v (values_of vs)

-- a list of pairs as the entries of a map
abbrev pub entries_of : List (Value × Value) → Entries
entries_of [] = no_entries
entries_of (e ∷ es) = entry e.0 e.1 (entries_of es)

-- elements taken in pairs, where a key may wait for its value; none if a key is left over
abbrev pub pairs_from : Option Value → List Value → Option Entries
pairs_from None [] = Some no_entries
pairs_from (Some k) [] = None
pairs_from None (v ∷ vs) = pairs_from (Some v) vs
pairs_from (Some k) (v ∷ vs) = option_map (entry k v) (pairs_from None vs)

-- what brackets of a kind make of what stands in them; none for a map whose last key has no value
abbrev pub made : Kind → List Value → Option Value
made a_list vs = Some (list (values_of vs))
made a_vector vs = Some (vector (values_of vs))
made a_set vs = Some (set (values_of vs))
made a_map vs = option_map map (pairs_from None vs)
