-- What reads found, one set inside the next.
use Rattle.std.specs.Prelude.{◌≡◌, ◌<◌, ◌≤◌, ◌-◌, ◌⊎◌, ℕ, Bool, false, IsTrue, List, Option, None, Some, Contains, AllPairs, length, slice_get, slice_index_or}
use Rattle.std.specs.List.{insert}
use Rattle.std.specs.declared.cmp.Ordering.TheVariants.{Less}
use Rattle.lin_events.specs.declared.items.Item.{Item}
use Rattle.lin_events.specs.Items.{item_cmp}
use Rattle.lin_sets.specs.declared.changes.Change.{Change}
use Rattle.lin_sets.specs.declared.changes.Change.TheVariants.{Found, FoundAgain}
use Rattle.lin_sets.specs.declared.levels.Pass.{Pass}
use Rattle.lin_sets.specs.declared.levels.Order.{Order}
use Rattle.lin_sets.specs.declared.levels.Order.TheVariants as Ordered
use Rattle.lin_sets.specs.declared.levels.Rank.{Rank}
use Rattle.lin_sets.specs.declared.levels.Rank.TheVariants.{Apart, There, At}

-- each member of the one set is one of the other
abbrev pub IsInside : List Item → List Item → Type 0
IsInside s t = (item : Item) → Contains s item → Contains t item

-- some member of the one set isn't one of the other
abbrev pub IsOutside : List Item → List Item → Type 0
IsOutside s t = (item : Item) × Contains s item × (Contains t item → ⊥)

-- the one set is inside the other, which is more
abbrev pub IsBelow : List Item → List Item → Type 0
IsBelow s t = IsInside s t × IsOutside t s

-- the first so many of a rising list were looked for in another one, of which so many were passed, and whether one of them isn't there
pub record IsLookedFor (xs ys : List Item) (at to : ℕ) (seen : Bool) : Type 0 where
  pub within : at ≤ length xs
  pub out : IsTrue seen → IsOutside xs ys
  pub found : seen ≡ false → (k : ℕ) (d : Item) → k < at → Contains ys (slice_index_or xs k d)
  pub below : (k : ℕ) (d e : Item) → k < to → at < length xs → item_cmp (slice_index_or ys k d) (slice_index_or xs at e) ≡ Less

-- each of the two lists was looked for in the other
abbrev pub IsPassed : List Item → List Item → Pass → Type 0
IsPassed xs ys pass = IsLookedFor xs ys pass.at pass.to pass.more × IsLookedFor ys xs pass.to pass.at pass.lacks

-- how the one set stands to the other
abbrev pub Stand : List Item → List Item → Order → Type 0
Stand s t Ordered.Apart = IsOutside s t × IsOutside t s
Stand s t Ordered.Same = s ≡ t
Stand s t Ordered.Below = IsBelow s t
Stand s t Ordered.Above = IsBelow t s

-- the set stands apart from one of those, or is one of them, or belongs at the place
abbrev pub IsRank : List (List Item) → List Item → Rank → Type 0
IsRank levels s Apart = (t : List Item) × Contains levels t × IsOutside s t × IsOutside t s
IsRank levels s There = Contains levels s
IsRank levels s (At place) = (place ≤ length levels)
    × ((k : ℕ) (t : List Item) → place ≤ k → slice_get levels k ≡ Some t → IsBelow s t)
    × (0 < place → (t : List Item) × (slice_get levels (place - 1) ≡ Some t) × IsBelow t s)

-- the set is one of the levels, or was put among them
abbrev pub IsRanked : List (List Item) → List (List Item) → List Item → Change → Type 0
IsRanked old new s change = ((new ≡ old) × Contains old s × (change ≡ FoundAgain)) ⊎ ((place : ℕ) × IsRank old s (At place) × (new ≡ insert old place s) × (change ≡ Found s))

-- the set is one of them no more, and the others stay
pub record AreWithout (old new : List (List Item)) (s : List Item) : Type 0 where
  pub left : (t : List Item) → Contains new t → Contains old t × (t ≡ s → ⊥)
  pub kept : (t : List Item) → Contains old t → (t ≡ s → ⊥) → Contains new t
  pub rising : AllPairs IsBelow new

-- the set is one of them at the place, or it is none of them
abbrev pub IsPlace : List (List Item) → List Item → Option ℕ → Type 0
IsPlace levels s None = (k : ℕ) (d : List Item) → k < length levels → slice_index_or levels k d ≡ s → ⊥
IsPlace levels s (Some place) = (place < length levels) × (s ≡ slice_index_or levels place s)

-- they are the same sets
pub record AreSameLevels (old new : List (List Item)) : Type 0 where
  pub left : (t : List Item) → Contains new t → Contains old t
  pub kept : (t : List Item) → Contains old t → Contains new t
  pub rising : AllPairs IsBelow new
