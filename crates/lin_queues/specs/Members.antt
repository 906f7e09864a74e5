-- What the members of a queue's list of debtors tell.
use Rattle.std.specs.Prelude.{◌≡◌, ◌↔◌, ◌<◌, ◌≤◌, ℕ, List, [], Some, length, map, slice_get, Contains}
use Rattle.lin_events.specs.declared.events.Event.{Event}
use Rattle.lin_events.specs.declared.calls.Call.TheVariants.{Enqueue}
use Rattle.lin_order.specs.declared.placed.Placed.{Placed}
use Rattle.lin_order.specs.Orders.{IsCall}
use Rattle.lin_queues.specs.Debts.{Debtor, Follows, Owes}
use Rattle.lin_queues.specs.declared.elements.Element.{Element}
use Rattle.lin_queues.specs.declared.members.Debt.{Debt}
use Rattle.lin_queues.specs.declared.members.QueueMember.{QueueMember}

-- what a member has
pub record View : Type 0 where
  pub low : ℕ
  pub gone : List ℕ
  pub debts : List Debt
  pub early : List ℕ
  pub emptied : ℕ

abbrev pub view_of : QueueMember → View
view_of m = record { low = m.low; gone = m.gone.items; debts = m.debts.items; early = m.early.items; emptied = m.emptied }

-- the first member
abbrev pub at_first : View
at_first = record { low = 0; gone = []; debts = []; early = []; emptied = 0 }

-- a debt, as an element with a time
abbrev pub owed : Debt → ℕ × ℕ
owed debt = (debt.element, debt.before)

-- the element as a debt
abbrev pub first_debt : Element → ℕ → Debt
first_debt x time = record { element = x.place; before = time; item = x.item }

-- the element is in the queue: it stands at an index from `low` on that isn't gone
abbrev pub IsInside : List Element → View → ℕ → Type 0
IsInside all v element = (i : ℕ) × (x : Element) × (v.low ≤ i) × (slice_get all i ≡ Some x) × (x.place ≡ element) × (Contains v.gone i → ⊥)

-- the member tells of the order what it makes of the first n events
pub record Told (whole : List Event) (order : List Placed) (n : ℕ) (all : List Element) (v : View) : Type 0 where
  pub debtor : Debtor
  pub inside : (element : ℕ) → Contains debtor.inside element ↔ IsInside all v element
  pub debts : debtor.debts ≡ map owed v.debts
  pub early : debtor.early ≡ v.early
  pub emptied : debtor.emptied ≡ v.emptied
  pub items : (debt : Debt) → Contains v.debts debt → IsCall whole debt.element (Enqueue debt.item)
  pub low_within : v.low ≤ length all
  pub gone_within : (i : ℕ) → Contains v.gone i → i < length all
  pub follows : Follows whole order n debtor

-- the elements are enqueues of the history, each once
pub record AreEnqueues (whole : List Event) (all : List Element) : Type 0 where
  pub called : (i : ℕ) (x : Element) → slice_get all i ≡ Some x → IsCall whole x.place (Enqueue x.item)
  pub once : (i j : ℕ) (x y : Element) → slice_get all i ≡ Some x → slice_get all j ≡ Some y → x.place ≡ y.place → i ≡ j

-- those in the queue that returned before this place were taken by dequeues invoked before this time, which aren't ok
abbrev pub AreOwed : List Event → List Placed → ℕ → List Element → View → ℕ → ℕ → Type 0
AreOwed whole order n all v by time = (i : ℕ) (x : Element) → slice_get all i ≡ Some x → x.returned < by → IsInside all v x.place → Owes whole order n x.place time

-- some debtor that tells of the order has more debts than so many
abbrev pub HasMore : List Event → List Placed → ℕ → ℕ → Type 0
HasMore whole order n most = (d : Debtor) × Follows whole order n d × (most < length d.debts)

-- the one has the same as the other, with later times
pub record IsAtLeast (a b : View) : Type 0 where
  pub low : a.low ≡ b.low
  pub gone : a.gone ≡ b.gone
  pub early : a.early ≡ b.early
  pub many : length a.debts ≡ length b.debts
  pub debts : (i : ℕ) (x y : Debt) → slice_get a.debts i ≡ Some x → slice_get b.debts i ≡ Some y → (x.element ≡ y.element) × (x.item ≡ y.item) × (y.before ≤ x.before)
  pub emptied : b.emptied ≤ a.emptied

-- so many debts are due by a time, and fewer dequeues can pay them: they are listed by rising place
pub record AreUnpaid (debts : List Debt) (dequeues : List ℕ) : Type 0 where
  pub at : ℕ
  pub time : ℕ
  pub within : at < length debts
  pub due : (k : ℕ) (debt : Debt) → k ≤ at → slice_get debts k ≡ Some debt → debt.before ≤ time
  pub late : (dequeue : ℕ) → slice_get dequeues at ≡ Some dequeue → time ≤ dequeue
