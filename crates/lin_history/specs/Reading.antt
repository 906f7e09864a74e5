-- Ways to read a text.
use Rattle.std.specs.Prelude.{◌≡◌, ℕ, Bool, List}
use Rattle.lin_names.specs.Names.{AgreesWith, Numbering}

-- whether values are pairs with keys, and the numbers of words: what a text says is defined for any
pub record Reading : Type 0 where
  pub keyed : Bool
  pub number : Numbering

-- one with keys or without, by which a text is read where these are the names
abbrev pub IsReading : Bool → List (List ℕ) → Reading → Type 0
IsReading keyed names m = (m.keyed ≡ keyed) × AgreesWith names m.number
