-- Places that items have.
use Rattle.std.specs.Prelude.{◌≡◌, ◌<◌, ◌≤◌, ◌⊎◌, ℕ, List, Option, None, Some, IsSome, unwrap_or, if◌then◌else◌}
use Rattle.std.specs.Map.{lookup}
use Rattle.lin_events.specs.declared.items.Item.{Item}
use Rattle.lin_events.specs.Items.{item_eq}

-- the place that the item has, if it has one
abbrev pub place_in : List (Item × Option ℕ) → Item → Option ℕ
place_in listed item = unwrap_or (lookup (item_eq item) listed) None

-- what it is once a place was put at an item
abbrev pub IsPut : List (Item × Option ℕ) → List (Item × Option ℕ) → Item → Option ℕ → Type 0
IsPut old new item place = (other : Item) → lookup (item_eq other) new ≡ (if item_eq item other then Some place else lookup (item_eq other) old)

-- the item has an entry, with a place or none
abbrev pub IsListed : List (Item × Option ℕ) → Item → Type 0
IsListed listed item = IsSome (lookup (item_eq item) listed)

-- and once one was put there only if the item had none
abbrev pub IsNoted : List (Item × Option ℕ) → List (Item × Option ℕ) → Item → ℕ → Type 0
IsNoted old new item place = ((known : ℕ) × (place_in old item ≡ Some known) × (new ≡ old)) ⊎ ((place_in old item ≡ None) × IsPut old new item (Some place))

-- once it has none where it had this one
abbrev pub IsLeft : List (Item × Option ℕ) → List (Item × Option ℕ) → Item → ℕ → Type 0
IsLeft old new item place = ((place_in old item ≡ Some place → ⊥) × (new ≡ old)) ⊎ ((place_in old item ≡ Some place) × IsPut old new item None)

-- once it has this one, unless it had an earlier one
abbrev pub IsLowered : List (Item × Option ℕ) → List (Item × Option ℕ) → Item → ℕ → Type 0
IsLowered old new item place = ((first : ℕ) × (place_in old item ≡ Some first) × (first < place) × (new ≡ old))
    ⊎ (((first : ℕ) → place_in old item ≡ Some first → place ≤ first) × (IsListed old item → IsPut old new item (Some place)))

-- once the item is listed
pub record IsListing (old new : List (Item × Option ℕ)) (item : Item) : Type 0 where
  pub listed : IsListed new item
  pub stays : IsListed old item → new ≡ old
  pub over : (later : List (Item × Option ℕ)) (place : Option ℕ) → IsPut new later item place → IsPut old later item place
