-- The elements of each item, from the latest one back.
use Rattle.std.specs.Prelude.{◌≡◌, ◌<◌, ◌≤◌, ℕ, List, Some, slice_get}
use Rattle.std.specs.Map.{lookup}
use Rattle.lin_events.specs.declared.items.Item.{Item}
use Rattle.lin_events.specs.Items.{item_eq}
use Rattle.lin_queues.specs.declared.elements.Element.{Element}

-- the elements of an item that stand ahead of one of its elements all stand ahead of the index that this one has for them
abbrev pub IsLinked : List Element → Type 0
IsLinked all = (i j : ℕ) (x y : Element) → slice_get all i ≡ Some x → slice_get all j ≡ Some y → j < i → y.item ≡ x.item → j < x.earlier

pub record AreChained (all : List Element) (latest : List (Item × ℕ)) : Type 0 where
  -- no element of an item stands behind its latest one
  pub known : (i : ℕ) (x : Element) → slice_get all i ≡ Some x → (last : ℕ) × (lookup (item_eq x.item) latest ≡ Some last) × (i ≤ last)
  pub linked : IsLinked all
