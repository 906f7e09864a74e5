-- How many places are such, and that one of several items is.
use Rattle.std.specs.Prelude.{◌≡◌, ◌≢◌, ℕ, List, All, AllPairs, Contains, length}
use Rattle.lin_events.specs.declared.items.Item.{Item}

-- at least so many places are such
abbrev pub AtLeast : ℕ → (ℕ → Type 0) → Type 0
AtLeast k P = (places : List ℕ) × (length places ≡ k) × AllPairs ◌≢◌ places × All P places

-- at most so many places are such
abbrev pub AtMost : ℕ → (ℕ → Type 0) → Type 0
AtMost k P = (places : List ℕ) × (length places ≡ k) × ((at : ℕ) → P at → Contains places at)

-- one of the items is such
abbrev pub OfOne : List Item → (Item → Type 0) → Type 0
OfOne items P = (n : Item) × Contains items n × P n
