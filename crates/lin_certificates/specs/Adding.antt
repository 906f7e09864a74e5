-- Operations that add an item to a set, or put it into a queue.
use Rattle.std.specs.Prelude.{◌≡◌, ◌≤◌, ◌⊎◌, ℕ, List}
use Rattle.lin_events.specs.declared.items.Item.{Item}
use Rattle.lin_events.specs.declared.calls.Call.{Call}
use Rattle.lin_events.specs.declared.calls.Call.TheVariants.{Enqueue, Add}
use Rattle.lin_events.specs.declared.events.Event.{Event}
use Rattle.lin_events.specs.Operations.{IsFailed}
use Rattle.lin_order.specs.Orders.{IsCall}

-- the call adds the item to a set, or puts it into a queue
abbrev pub Adds : Call → Item → Type 0
Adds (Add x) n = x ≡ n
Adds (Enqueue x) n = x ≡ n
Adds _ n = ⊥

-- all that add the item and were invoked up to and with the place failed
abbrev pub IsNotAddedBy : List Event → Item → ℕ → Type 0
IsNotAddedBy h n place = (at : ℕ) (call : Call) → at ≤ place → IsCall h at call → Adds call n → IsFailed h at

-- all that add the item failed, but for this operation
abbrev pub IsAddedOnce : List Event → ℕ → Item → Type 0
IsAddedOnce h add n = (at : ℕ) (call : Call) → IsCall h at call → Adds call n → (at ≡ add) ⊎ IsFailed h at
