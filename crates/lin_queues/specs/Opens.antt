-- The operations that are open after some events.
use Rattle.std.specs.Prelude.{◌≡◌, ◌<◌, ℕ, List, Some, slice_get}
use Rattle.lin_events.specs.declared.items.Item.{Item}
use Rattle.lin_events.specs.declared.events.Event.{Event}
use Rattle.lin_events.specs.declared.calls.Call.{Call}
use Rattle.lin_events.specs.Operations.{IsOpen}
use Rattle.lin_queues.specs.Debts.{IsOpenDequeue}
use Rattle.lin_queues.specs.declared.opens.OpenCall.{OpenCall}

-- exactly the open operations, by rising place
pub record AreOpen (h : List Event) (open' : List OpenCall) : Type 0 where
  pub rising : (j k : ℕ) (o p : OpenCall) → j < k → slice_get open' j ≡ Some o → slice_get open' k ≡ Some p → o.place < p.place
  pub sound : (k : ℕ) (o : OpenCall) → slice_get open' k ≡ Some o → (key : Item) × IsOpen h o.place o.process key o.call
  pub complete : (place process : ℕ) (key : Item) (call : Call) → IsOpen h place process key call → (k : ℕ) × (o : OpenCall) × (slice_get open' k ≡ Some o) × (o.place ≡ place)

-- exactly the open dequeues, by rising place
pub record AreDequeues (h : List Event) (dequeues : List ℕ) : Type 0 where
  pub rising : (j k x y : ℕ) → j < k → slice_get dequeues j ≡ Some x → slice_get dequeues k ≡ Some y → x < y
  pub sound : (k place : ℕ) → slice_get dequeues k ≡ Some place → IsOpenDequeue h place
  pub complete : (place : ℕ) → IsOpenDequeue h place → (k : ℕ) × (slice_get dequeues k ≡ Some place)
