-- Ranks of a fifo queue's operations. In a legal order the k-th dequeue that takes something out takes what the k-th enqueue put in. The
-- rank of an operation is how many of its sort stand ahead of it: all that are before it in real time, and some that aren't behind it.
use Rattle.std.specs.Prelude.{◌+◌, ◌<◌, ◌≤◌, ℕ, List, take}
use Rattle.lin_events.specs.declared.items.Item.{Item}
use Rattle.lin_events.specs.declared.calls.Call.TheVariants.{Enqueue, Dequeue}
use Rattle.lin_events.specs.declared.calls.Reply.{Reply}
use Rattle.lin_events.specs.declared.calls.Reply.TheVariants.{Value}
use Rattle.lin_events.specs.declared.calls.Val.TheVariants.{Nil, Item as Held}
use Rattle.lin_events.specs.declared.events.Event.{Event}
use Rattle.lin_events.specs.Operations.{IsOk, IsFailed}
use Rattle.lin_objects.specs.declared.kinds.Kind.TheVariants.{Fifo}
use Rattle.lin_order.specs.Orders.{IsBefore, IsCall}
use Rattle.lin_order.specs.Linearizable.{IsLinearizableAs}
use Rattle.lin_certificates.specs.Numbers.{AtLeast, AtMost}

abbrev pub IsEnqueue : List Event → ℕ → Type 0
IsEnqueue h at = (item : Item) × IsCall h at (Enqueue item)

-- an enqueue that is known to have put its item in
abbrev pub HasPut : List Event → ℕ → Type 0
HasPut h at = IsEnqueue h at × ((end : ℕ) × (reply : Reply) × IsOk h at end reply)

-- an enqueue that may put its item in
abbrev pub MayPut : List Event → ℕ → Type 0
MayPut h at = IsEnqueue h at × (IsFailed h at → ⊥)

-- a dequeue that is known to have taken something out
abbrev pub HasTaken : List Event → ℕ → Type 0
HasTaken h at = IsCall h at Dequeue × ((end : ℕ) × (item : Item) × IsOk h at end (Value (Held item)))

-- a dequeue that may take something out
abbrev pub MayTake : List Event → ℕ → Type 0
MayTake h at = IsCall h at Dequeue × (IsFailed h at → ⊥) × ((end : ℕ) → IsOk h at end (Value Nil) → ⊥)

-- a dequeue that is known to have taken this item out, and an enqueue that may put it in
abbrev pub HasTakenItem : List Event → Item → ℕ → Type 0
HasTakenItem h item at = IsCall h at Dequeue × ((end : ℕ) × IsOk h at end (Value (Held item)))

abbrev pub MayPutItem : List Event → Item → ℕ → Type 0
MayPutItem h item at = IsCall h at (Enqueue item) × (IsFailed h at → ⊥)

-- so many of a sort are before the operation
abbrev pub RanksFrom : List Event → (ℕ → Type 0) → ℕ → ℕ → Type 0
RanksFrom h Has at k = AtLeast k (λ x. Has x × IsBefore h x at)

-- so many of a sort, the operation among them, aren't behind it
abbrev pub RanksBelow : List Event → (ℕ → Type 0) → ℕ → ℕ → Type 0
RanksBelow h May at k = AtMost k (λ x. May x × (IsBefore h at x → ⊥))

-- so the rank of the operation is at least k, and less than k
abbrev pub IsRankedFrom : List Event → (ℕ → Type 0) → ℕ → ℕ → Type 0
IsRankedFrom h Has at k = (many : ℕ) × (k ≤ many) × RanksFrom h Has at many

abbrev pub IsRankedBelow : List Event → (ℕ → Type 0) → ℕ → ℕ → Type 0
IsRankedBelow h May at k = (few : ℕ) × (few ≤ k) × RanksBelow h May at few

-- between two ranks the item was taken out more often than it can have been put in
pub record IsOvertaken (h : List Event) (item : Item) : Type 0 where
  pub low : ℕ
  pub high : ℕ
  pub few : ℕ
  pub many : ℕ
  pub fewer : few < many
  pub taken : AtLeast many (λ x. HasTakenItem h item x × IsRankedFrom h (HasTaken h) x low × IsRankedBelow h (MayTake h) x high)
  pub put : AtMost few (λ x. MayPutItem h item x × (IsRankedBelow h (MayPut h) x low → ⊥) × (IsRankedFrom h (HasPut h) x high → ⊥))

-- some item was, by what is known up to and with this event
abbrev pub IsOvertakenAt : List Event → ℕ → Type 0
IsOvertakenAt h at = (item : Item) × IsOvertaken (take (at + 1) h) item

-- then the events have no legal order
abbrev pub RankLaw : Type 0
RankLaw = (h : List Event) (item : Item) → IsOvertaken h item → IsLinearizableAs Fifo h → ⊥
