-- What one more event makes of a debtor that tells what a legal order of a fifo queue is. The events may go on in any way behind it.
use Rattle.std.specs.Prelude.{◌≡◌, ◌≢◌, ◌<◌, ◌≤◌, ◌+◌, ℕ, Bool, List, [], length, All, AllPairs, Contains}
use Rattle.lin_events.specs.declared.items.Item.{Item}
use Rattle.lin_events.specs.declared.events.Body.TheVariants.{Invoke, Ok, Fail, Info}
use Rattle.lin_events.specs.declared.events.Event.{Event}
use Rattle.lin_events.specs.declared.calls.Call.{Call}
use Rattle.lin_events.specs.declared.calls.Call.TheVariants.{Enqueue, Dequeue}
use Rattle.lin_events.specs.declared.calls.Name.{Name}
use Rattle.lin_events.specs.declared.calls.Reply.{Reply}
use Rattle.lin_events.specs.declared.calls.Reply.TheVariants.{Done, Value}
use Rattle.lin_events.specs.declared.calls.Val.TheVariants.{Nil, Item as Held}
use Rattle.lin_events.specs.Operations.{IsOpen}
use Rattle.lin_events.specs.WellFormed.{IsWellFormed}
use Rattle.lin_objects.specs.declared.kinds.Kind.TheVariants.{Fifo}
use Rattle.lin_order.specs.declared.placed.Placed.{Placed}
use Rattle.lin_order.specs.Orders.{Places}
use Rattle.lin_order.specs.Linearizable.{IsLinearizableAs}
use Rattle.lin_order.specs.ConfigurationLaws.{with_event}
use Rattle.lin_queues.specs.Debts.{Debtor, nothing_done, IsWhole, Owes, Follows, AreDebts, IsOpenDequeue, Dominates, IsSunk, IsEnqueued, IsDequeued, FoundNothing}

-- a whole history begins with fewer events too
abbrev pub BeginningLaw : Type 0
BeginningLaw = (h : List Event) (event : Event) (whole : List Event) (order : List Placed) → IsWhole (with_event h event) whole order → IsWhole h whole order

-- before any event
abbrev pub StartLaw : Type 0
StartLaw = (whole : List Event) (order : List Placed) → Follows whole order 0 nothing_done

-- events that no debtor tells of have no legal order
abbrev pub NoneLaw : Type 0
NoneLaw = (h : List Event) → AreDebts h [] → IsLinearizableAs Fifo h → ⊥

-- an invocation and an info change nothing
abbrev pub InvocationLaw : Type 0
InvocationLaw = (h : List Event) (event : Event) (call : Call) (whole : List Event) (order : List Placed) (d : Debtor) → event.body ≡ Invoke call → IsWhole (with_event h event) whole order
    → Follows whole order (length h) d → Follows whole order (length (with_event h event)) d

abbrev pub InfoLaw : Type 0
InfoLaw = (h : List Event) (event : Event) (name : Name) (whole : List Event) (order : List Placed) (d : Debtor) → event.body ≡ Info name → IsWhole (with_event h event) whole order
    → Follows whole order (length h) d → Follows whole order (length (with_event h event)) d

-- the event completes this open operation
pub record Completes (functions : Item → Name → Bool) (h : List Event) (event : Event) (x : ℕ) (call : Call) : Type 0 where
  pub well_formed : IsWellFormed functions (with_event h event)
  pub key : Item
  pub is_open : IsOpen h x event.process key call

-- neither does a fail, and its operation isn't early
abbrev pub FailLaw : Type 0
FailLaw = (functions : Item → Name → Bool) (h : List Event) (event : Event) (x : ℕ) (call : Call) (name : Name) (whole : List Event) (order : List Placed) (d : Debtor)
    → Completes functions h event x call → event.body ≡ Fail name → IsWhole (with_event h event) whole order
    → Follows whole order (length h) d → Follows whole order (length (with_event h event)) d × (Contains d.early x → ⊥)

-- after an ok of an enqueue
abbrev pub EnqueuedLaw : Type 0
EnqueuedLaw = (functions : Item → Name → Bool) (h : List Event) (event : Event) (x : ℕ) (item : Item) (name : Name) (reply : Reply) (whole : List Event) (order : List Placed) (d : Debtor)
    → Completes functions h event x (Enqueue item) → event.body ≡ Ok name reply → IsWhole (with_event h event) whole order
    → Follows whole order (length h) d → IsEnqueued whole order h (with_event h event) x d

-- after an ok of a dequeue that has an item
abbrev pub DequeuedLaw : Type 0
DequeuedLaw = (functions : Item → Name → Bool) (h : List Event) (event : Event) (x : ℕ) (item : Item) (name : Name) (whole : List Event) (order : List Placed) (d : Debtor)
    → Completes functions h event x Dequeue → event.body ≡ Ok name (Value (Held item)) → IsWhole (with_event h event) whole order
    → Follows whole order (length h) d → IsDequeued whole order h (with_event h event) x item d

-- after an ok of a dequeue that found nothing
abbrev pub NothingLaw : Type 0
NothingLaw = (functions : Item → Name → Bool) (h : List Event) (event : Event) (x : ℕ) (name : Name) (whole : List Event) (order : List Placed) (d : Debtor)
    → Completes functions h event x Dequeue → event.body ≡ Ok name (Value Nil) → IsWhole (with_event h event) whole order
    → Follows whole order (length h) d → FoundNothing whole order h (with_event h event) x d

-- an ok that a queue never gives has no legal order: of another call, or with another reply
abbrev pub OtherCallLaw : Type 0
OtherCallLaw = (functions : Item → Name → Bool) (h : List Event) (event : Event) (x : ℕ) (call : Call) (name : Name) (reply : Reply) (whole : List Event) (order : List Placed)
    → Completes functions h event x call → event.body ≡ Ok name reply → IsWhole (with_event h event) whole order
    → ((item : Item) → call ≡ Enqueue item → ⊥) → (call ≢ Dequeue) → ⊥

abbrev pub OtherPutLaw : Type 0
OtherPutLaw = (functions : Item → Name → Bool) (h : List Event) (event : Event) (x : ℕ) (item : Item) (name : Name) (reply : Reply) (whole : List Event) (order : List Placed)
    → Completes functions h event x (Enqueue item) → event.body ≡ Ok name reply → IsWhole (with_event h event) whole order → (reply ≢ Done) → ⊥

abbrev pub OtherReplyLaw : Type 0
OtherReplyLaw = (functions : Item → Name → Bool) (h : List Event) (event : Event) (x : ℕ) (name : Name) (reply : Reply) (whole : List Event) (order : List Placed)
    → Completes functions h event x Dequeue → event.body ≡ Ok name reply → IsWhole (with_event h event) whole order
    → ((item : Item) → reply ≡ Value (Held item) → ⊥) → (reply ≢ Value Nil) → ⊥

-- an element inside that is owed may go into debt
abbrev pub SinkLaw : Type 0
SinkLaw = (whole : List Event) (order : List Placed) (n element time : ℕ) (d next : Debtor) → Contains d.inside element → Owes whole order n element time → IsSunk element time d next
    → Follows whole order n d → Follows whole order n next

-- a debtor that dominates one tells of the same order
abbrev pub DominationLaw : Type 0
DominationLaw = (whole : List Event) (order : List Placed) (n : ℕ) (c d : Debtor) → Dominates c d → Follows whole order n d → Follows whole order n c

-- these are debts with times up to t, of different elements; and these are all open dequeues that were invoked before t
pub record AreDue (h : List Event) (d : Debtor) (t : ℕ) (owed : List (ℕ × ℕ)) (dequeues : List ℕ) : Type 0 where
  pub debts : All (Contains d.debts) owed
  pub once : AllPairs (λ p q. p.0 ≢ q.0) owed
  pub times : All (λ p. p.1 ≤ t) owed
  pub complete : (dequeue : ℕ) → IsOpenDequeue h dequeue → dequeue < t → Contains dequeues dequeue

-- there are no more debts with times up to t than open dequeues that were invoked before t (the easy half of Hall's condition)
abbrev pub PaymentLaw : Type 0
PaymentLaw = (h whole : List Event) (order : List Placed) (d : Debtor) (t : ℕ) (owed : List (ℕ × ℕ)) (dequeues : List ℕ) → IsWhole h whole order → Follows whole order (length h) d
    → AreDue h d t owed dequeues → length owed ≤ length dequeues

-- and fewer, where one of these dequeues finds nothing
abbrev pub SpareLaw : Type 0
SpareLaw = (h whole : List Event) (order : List Placed) (d : Debtor) (t : ℕ) (owed : List (ℕ × ℕ)) (dequeues : List ℕ) (found : ℕ) → IsWhole h whole order → Follows whole order (length h) d
    → AreDue h d t owed dequeues → IsOpenDequeue h found → found < t → Places order found (Value Nil) → length owed + 1 ≤ length dequeues
