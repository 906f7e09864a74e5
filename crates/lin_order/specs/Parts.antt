-- The part of a history that is of one object (Herlihy and Wing 1990, section 2), and where its events stand in the whole.
use Rattle.std.specs.Prelude.{◌≡◌, ◌<◌, ◌↔◌, ℕ, List, Some, All, AllPairs, Contains, IsTrue, filter, filter_map, map, slice_get, slice_index}
use Rattle.std.specs.List.{AllZip}
use Rattle.lin_events.specs.declared.items.Item.{Item}
use Rattle.lin_events.specs.Items.{item_eq}
use Rattle.lin_events.specs.declared.events.Event.{Event}
use Rattle.lin_order.specs.declared.placed.Placed.{Placed}
use Rattle.lin_order.specs.Orders.{is_of_key}

-- the events of the key, in their order
abbrev pub part : Item → List Event → List Event
part key h = filter (λ event. item_eq event.key key) h

-- just the positions of the events of the key, strictly rising
pub record ArePositionsOf (key : Item) (h : List Event) (positions : List ℕ) : Type 0 where
  pub rising : AllPairs (λ i j. i < j) positions
  pub sound : All (λ at. IsTrue (is_of_key h key at)) positions
  pub complete : (at : ℕ) → IsTrue (is_of_key h key at) → Contains positions at

-- the events that stand at the positions
abbrev pub events_at : List Event → List ℕ → List Event
events_at h positions = filter_map (λ at. slice_get h at) positions

-- the position with this number, counted from 0: where in the whole the event stands that stands there in the part
abbrev pub IsNth : List ℕ → ℕ → ℕ → Type 0
IsNth positions n at = slice_get positions n ≡ Some at

-- the first `count` positions are those below n
abbrev pub IsCut : List ℕ → ℕ → ℕ → Type 0
IsCut positions count n = (k at : ℕ) → IsNth positions k at → (k < count) ↔ (at < n)

-- an order that names operations by their positions in the part, and the same one by those in the whole
abbrev pub IsRenamed : List ℕ → List Placed → List Placed → Type 0
IsRenamed positions inner outer = AllZip (λ p q. IsNth positions p.at q.at × (p.reply ≡ q.reply)) inner outer

-- the order with each position in the part replaced by the one in the whole
abbrev pub renamed : List ℕ → List Placed → List Placed
renamed positions order = map (λ p. record { at = slice_index positions p.at; reply = p.reply }) order
