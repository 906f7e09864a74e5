-- Operations of a queue that can't stand in one legal order: what is put in first is taken out first, and once.
use Rattle.std.specs.Prelude.{◌≡◌, ◌≢◌, ◌<◌, ◌≤◌, ◌⊎◌, ℕ, List}
use Rattle.lin_events.specs.declared.items.Item.{Item}
use Rattle.lin_events.specs.declared.calls.Call.{Call}
use Rattle.lin_events.specs.declared.calls.Call.TheVariants.{Dequeue}
use Rattle.lin_events.specs.declared.calls.Reply.{Reply}
use Rattle.lin_events.specs.declared.calls.Reply.TheVariants as Replied
use Rattle.lin_events.specs.declared.calls.Val.TheVariants.{Nil, Item as Held}
use Rattle.lin_events.specs.declared.events.Event.{Event}
use Rattle.lin_events.specs.Operations.{IsOk, IsFailed}
use Rattle.lin_order.specs.Orders.{IsCall}
use Rattle.lin_certificates.specs.Adding.{Adds, IsNotAddedBy}

-- the call with this reply takes the item out
abbrev pub Takes : Call → Reply → Item → Type 0
Takes Dequeue (Replied.Value (Held x)) n = x ≡ n
Takes _ _ n = ⊥

-- the operation is known to be ok at `end`, and put the item in
abbrev pub PutAt : List Event → ℕ → Item → ℕ → Type 0
PutAt h at n end = (call : Call) × (reply : Reply) × IsCall h at call × IsOk h at end reply × Adds call n

-- the operation is known to be ok at `end`, and took the item out
abbrev pub TookAt : List Event → ℕ → Item → ℕ → Type 0
TookAt h at n end = (call : Call) × (reply : Reply) × IsCall h at call × IsOk h at end reply × Takes call reply n

-- What the dequeue with this reply found can't have been ahead of the item, which was in the queue at the place: it was invoked later
-- and found nothing, or it found another item, and all that put that one in were invoked later
abbrev pub IsBehind : List Event → ℕ → Reply → Item → ℕ → Type 0
IsBehind h at (Replied.Value Nil) n place = place < at
IsBehind h at (Replied.Value (Held x)) n place = (x ≢ n) × IsNotAddedBy h x place
IsBehind h at _ n place = ⊥

-- the dequeue is known to be ok at `end`, and what it found can't have been ahead of the item
abbrev pub IsPassing : List Event → ℕ → Item → ℕ → ℕ → Type 0
IsPassing h at n place end = (reply : Reply) × IsCall h at Dequeue × IsOk h at end reply × IsBehind h at reply n place

-- the dequeue failed, or is ok and did not take the item out
abbrev pub IsLeftAt : List Event → Item → ℕ → Type 0
IsLeftAt h n at = IsFailed h at ⊎ ((end : ℕ) × (reply : Reply) × IsOk h at end reply × (Takes Dequeue reply n → ⊥))

-- each dequeue that was invoked up to and with the place left the item there
abbrev pub IsNotTakenBy : List Event → Item → ℕ → Type 0
IsNotTakenBy h n place = (at : ℕ) → at ≤ place → IsCall h at Dequeue → IsLeftAt h n at
