-- The maps of a text that are no events since a keyword other than that of the nemesis is their process.
use Rattle.std.specs.Prelude.{◌≡◌, ℕ, ◌+◌, ◌-◌, ◌^◌, min, if◌then◌else◌, List, [], ◌∷◌, ◌++◌, length, take, drop, Option, Some, None, codes}
use Rattle.std.specs.Str.{bytes_eq}
use Rattle.lin_edn.specs.Value.{Value, keyword, map, Values, no_values, value}
use Rattle.lin_edn.specs.Grammar.{Spells, ShortBlanks, IsBlankText}
use Rattle.lin_history.specs.Counts.{Passed}
use Rattle.lin_history.specs.Table.{bare, or_nil, under}
use Rattle.lin_history.specs.Stream.{maps_in}

-- the keyword that a value is, unless it is that of the nemesis
abbrev pub other_keyword : Value → List (List ℕ)
other_keyword (keyword at w) = if bytes_eq w (codes ":nemesis") then [] else w ∷ []
other_keyword _ = []

-- the keyword for which a map is passed over, if it is
abbrev pub keyword_of : Value → List (List ℕ)
keyword_of (map es) = other_keyword (or_nil (under (codes ":process") es))
keyword_of _ = []

-- those of several maps
abbrev pub keywords_of : Values → List (List ℕ)
keywords_of no_values = []
keywords_of (value v vs) = keyword_of (bare v) ++ keywords_of vs

-- those of a top-level element
abbrev pub keywords_in : Value → List (List ℕ)
keywords_in v = keywords_of (maps_in (bare v))

-- From the beginning up to a place the text is blanks and whole elements, and for these keywords maps are passed over.
pub data PassesOver : List ℕ → List (List ℕ) → ℕ → Type 0 where
  nothing : {s : List ℕ} → PassesOver s [] 0
  blanks : {s t : List ℕ} {ws : List (List ℕ)} {p n : ℕ} → PassesOver s ws p → ShortBlanks (drop p s) n t → PassesOver s ws (p + n)
  element : {s : List ℕ} {ws : List (List ℕ)} {v : Value} {p at used : ℕ} →
      PassesOver s ws p → Spells (drop p s) v at used → PassesOver s (ws ++ keywords_in v) (p + used)

-- behind the last of them nothing stands but blanks, and an unfinished comment
abbrev pub ArePassedOver : List ℕ → List (List ℕ) → Type 0
ArePassedOver text ws = (p : ℕ) × (used : ℕ) × PassesOver text ws p × IsBlankText (drop p text) used

abbrev pub first_of : List (List ℕ) → Option (List ℕ)
first_of [] = None
first_of (w ∷ ws) = Some (take 40 w)

-- how many there are, and how the first begins
abbrev pub counted : List (List ℕ) → Passed
counted ws = record { count = min (length ws) (2 ^ 64 - 1); first = first_of ws }

-- so many maps of a text that is whole are passed over, for a keyword that begins so at the first of them
abbrev pub IsPassed : List ℕ → Passed → Type 0
IsPassed text passed = (ws : List (List ℕ)) × ArePassedOver text ws × (passed ≡ counted ws)
