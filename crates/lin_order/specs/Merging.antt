-- Orders for the objects of a history, merged into one order of the whole (locality: Herlihy and Wing 1990, section 3).
use Rattle.std.specs.Prelude.{◌≡◌, ◌≢◌, ◌≤◌, ◌<◌, ◌↔◌, ◌==◌, ℕ, List, [], map, filter, length, AllPairs, Contains, slice_index_or}
use Rattle.std.specs.List.{AllZip}
use Rattle.std.specs.Global.{Vec}
use Rattle.lin_events.specs.declared.items.Item.{Item}
use Rattle.lin_events.specs.declared.events.Event.{Event}
use Rattle.lin_events.specs.Operations.{IsEvent}
use Rattle.lin_objects.specs.declared.kinds.Kind.{Kind}
use Rattle.lin_order.specs.declared.placed.Placed.{Placed}
use Rattle.lin_order.specs.Linearizable.{IsLegalOrder, IsLegalOrderFor, IsLinearizable, IsLinearizableFor}

-- of operations that have the number of a part each, those that have this number
abbrev pub numbered_with : ℕ → List (ℕ × Placed) → List Placed
numbered_with number operations = map (λ p. p.1) (filter (λ p. p.0 == number) operations)

-- The order has the operations of the parts, those of each part in their sequence, as if the head that was invoked first were taken again
-- and again: where x stands ahead of y, some operation of y's part that stands no later than y was not invoked before x.
pub record IsMerged (parts : List (List Placed)) (order : List Placed) : Type 0 where
  -- the operations of the order, with the number of the part that each is of
  pub operations : List (ℕ × Placed)
  pub order_of : map (λ p. p.1) operations ≡ order
  pub parts_of : (number : ℕ) → numbered_with number operations ≡ slice_index_or parts number []
  pub in_time : (i j : ℕ) (d : ℕ × Placed) → i < j → j < length operations
      → (k : ℕ) × (k ≤ j) × ((slice_index_or operations k d).0 ≡ (slice_index_or operations j d).0) × ((slice_index_or operations i d).1.at ≤ (slice_index_or operations k d).1.at)

-- each part is a legal order for a key of its own, and each key of the history has its part
pub record AreLegalParts (kinds : Item → Kind) (h : List Event) (parts : List (List Placed)) : Type 0 where
  pub keys : List Item
  pub distinct : AllPairs (λ x y. x ≢ y) keys
  pub legal : AllZip (λ key order. IsLegalOrderFor kinds key h order) keys parts
  pub complete : (at : ℕ) (event : Event) → IsEvent h at event → Contains keys event.key

-- legal orders for the objects, merged, are a legal order of the whole
abbrev pub MergedOrdersAreLegal : Type 0
MergedOrdersAreLegal = (kinds : Item → Kind) (h : List Event) (parts : List (List Placed)) (order : List Placed) → AreLegalParts kinds h parts → IsMerged parts order → IsLegalOrder kinds h order

-- the empty order is a legal one for an object that has no event
abbrev pub AbsentKeysAreLegal : Type 0
AbsentKeysAreLegal = (kinds : Item → Kind) (h : List Event) (key : Item) → ((at : ℕ) (event : Event) → IsEvent h at event → event.key ≢ key) → IsLegalOrderFor kinds key h []

-- locality: a history is linearizable exactly when it is so for each object
abbrev pub IsLocal : Type 0
IsLocal = (kinds : Item → Kind) (h : List Event) → IsLinearizable kinds h ↔ ((key : Item) → IsLinearizableFor kinds key h)

-- the operations of each part
abbrev pub lists_of : List (Vec Placed) → List (List Placed)
lists_of parts = map (λ part. part.items) parts
