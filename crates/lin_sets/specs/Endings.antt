-- Which items are known to be in a set, and since when.
use Rattle.std.specs.Prelude.{◌≡◌, ◌<◌, ◌≤◌, ℕ, List, Option, None, Some, Contains, AllPairs, All}
use Rattle.lin_events.specs.declared.items.Item.{Item}
use Rattle.lin_sets.specs.Places.{place_in}
use Rattle.lin_sets.specs.declared.endings.Ending.{Ending}
use Rattle.lin_sets.specs.declared.endings.Endings.{Endings}

-- where the item was known first
abbrev pub known_in : Endings → Item → Option ℕ
known_in endings item = place_in endings.known item

-- of two items the one was known no later than the other
abbrev pub IsAhead : Ending → Ending → Type 0
IsAhead x y = (x.end ≤ y.end) × (x.item ≡ y.item → ⊥)

-- listed is each item that is known, once, with where it was known first, in the order of these places
pub record AreListed (endings : Endings) : Type 0 where
  pub all : (item : Item) (end : ℕ) → known_in endings item ≡ Some end → Contains endings.listed.items (record { item = item; end = end })
  pub each : (ending : Ending) → Contains endings.listed.items ending → known_in endings ending.item ≡ Some ending.end
  pub rising : AllPairs IsAhead endings.listed.items

-- all were known by then
abbrev pub AreBy : ℕ → Endings → Type 0
AreBy end endings = All (λ (x : Ending). x.end ≤ end) endings.listed.items

-- these items are known since then, if they weren't known before; and the others stay
pub record AreLearned (old new : Endings) (items : List Item) (end : ℕ) : Type 0 where
  pub stays : (item : Item) (known : ℕ) → known_in old item ≡ Some known → known_in new item ≡ Some known
  pub learned : (item : Item) → known_in old item ≡ None → Contains items item → known_in new item ≡ Some end
  pub others : (item : Item) (since : ℕ) → known_in old item ≡ None → known_in new item ≡ Some since → Contains items item × (since ≡ end)

-- what was known before the place is still known, and nothing that wasn't known
pub record AreKept (old new : Endings) (place : ℕ) : Type 0 where
  pub kept : (item : Item) (end : ℕ) → known_in old item ≡ Some end → end < place → known_in new item ≡ Some end
  pub left : (item : Item) (end : ℕ) → known_in new item ≡ Some end → known_in old item ≡ Some end

-- nothing was known at the place or later
abbrev pub AreBefore : ℕ → Endings → Type 0
AreBefore place endings = (item : Item) (end : ℕ) → known_in endings item ≡ Some end → end < place

-- the same items are known, since the same places
abbrev pub AreSame : Endings → Endings → Type 0
AreSame old new = (item : Item) → known_in new item ≡ known_in old item
