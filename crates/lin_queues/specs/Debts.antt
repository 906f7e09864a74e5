-- Queues told by their debts. A debtor tells what a legal order of a fifo queue has made of the enqueues so far. An element is the
-- position of its enqueue. A legal order is one of the whole history, of which the first events are looked at, one after the other.
use Rattle.std.specs.Prelude.{◌≡◌, ◌≢◌, ◌⊎◌, ◌↔◌, ◌<◌, ◌≤◌, ℕ, Bool, true, false, List, [], ◌∷◌, ◌++◌, length, take, filter, Some, slice_get, AllPairs, Contains}
use Rattle.lin_events.specs.declared.items.Item.{Item}
use Rattle.lin_events.specs.declared.events.Event.{Event}
use Rattle.lin_events.specs.declared.calls.Call.TheVariants.{Enqueue, Dequeue}
use Rattle.lin_events.specs.declared.calls.Reply.{Reply}
use Rattle.lin_events.specs.declared.calls.Reply.TheVariants.{Done, Value, Members}
use Rattle.lin_events.specs.declared.calls.Val.TheVariants.{Nil, Item as Held}
use Rattle.lin_events.specs.Operations.{IsOk, IsOpen}
use Rattle.lin_objects.specs.declared.kinds.Kind.TheVariants.{Fifo}
use Rattle.lin_order.specs.declared.placed.Placed.{Placed}
use Rattle.lin_order.specs.Orders.{IsBefore, IsCall, Places}
use Rattle.lin_order.specs.Linearizable.{IsLegalOrderAs}

-- what is told of the elements after some events
pub record Debtor : Type 0 where
  -- the elements in the queue: their enqueue is ok, and no dequeue that is ok took them
  pub inside : List ℕ
  -- the debts, each an element with a time: a dequeue that isn't ok, invoked before that time, took it
  pub debts : List (ℕ × ℕ)
  -- the elements whose enqueue isn't ok, which a dequeue that is ok took
  pub early : List ℕ
  -- the queue may have been empty up to this time
  pub emptied : ℕ

-- of a queue that nothing was done to
abbrev pub nothing_done : Debtor
nothing_done = record { inside = []; debts = []; early = []; emptied = 0 }

-- whether a reply is an enqueue's, or a dequeue's that has an item
abbrev pub puts : Reply → Bool
puts Done = true
puts (Value v) = false
puts (Members s) = false

abbrev pub gets : Reply → Bool
gets Done = false
gets (Value Nil) = false
gets (Value (Held item)) = true
gets (Members s) = false

-- how many enqueues the order has, and how many dequeues that have an item
abbrev pub enqueues : List Placed → ℕ
enqueues order = length (filter (λ (p : Placed). puts p.reply) order)

abbrev pub dequeues : List Placed → ℕ
dequeues order = length (filter (λ (p : Placed). gets p.reply) order)

-- the operation stands there in the order, with this reply
abbrev pub Stands : List Placed → ℕ → ℕ → Reply → Type 0
Stands order where_it at reply = slice_get order where_it ≡ Some (record { at = at; reply = reply })

-- the one operation stands ahead of the other
pub record IsAhead (order : List Placed) (first then : ℕ) : Type 0 where
  pub first_at : ℕ
  pub then_at : ℕ
  pub first_reply : Reply
  pub then_reply : Reply
  pub first_stands : Stands order first_at first first_reply
  pub then_stands : Stands order then_at then then_reply
  pub ahead : first_at < then_at

-- the dequeue takes the element: as many elements were taken ahead of it as were put ahead of the element
pub record Takes (order : List Placed) (dequeue element : ℕ) : Type 0 where
  pub item : Item
  pub put : ℕ
  pub taken : ℕ
  pub enqueued : Stands order put element Done
  pub dequeued : Stands order taken dequeue (Value (Held item))
  pub turn : enqueues (take put order) ≡ dequeues (take taken order)

-- the operation is ok within the first n events
abbrev pub IsOkWithin : List Event → ℕ → ℕ → Type 0
IsOkWithin h n at = (end : ℕ) × (reply : Reply) × IsOk h at end reply × (end < n)

-- the whole history begins with these events, and this is a legal order of the whole
pub record IsWhole (h whole : List Event) (order : List Placed) : Type 0 where
  pub more : List Event
  pub whole_is : whole ≡ h ++ more
  pub legal : IsLegalOrderAs Fifo whole order

-- a dequeue that isn't ok within the first n events, and was invoked before the time, takes the element
abbrev pub Owes : List Event → List Placed → ℕ → ℕ → ℕ → Type 0
Owes whole order n element time = (dequeue : ℕ) × Takes order dequeue element × (dequeue < time) × (dequeue < n) × (IsOkWithin whole n dequeue → ⊥)

-- the debtor tells what the order makes of the enqueues within the first n events
pub record Follows (whole : List Event) (order : List Placed) (n : ℕ) (d : Debtor) : Type 0 where
  -- each element whose enqueue is ok is inside, or owed, or taken by a dequeue that is ok
  pub each : (element : ℕ) → Places order element Done → IsOkWithin whole n element
      → Contains d.inside element ⊎ ((time : ℕ) × Contains d.debts (element, time)) ⊎ ((dequeue : ℕ) × IsOkWithin whole n dequeue × Takes order dequeue element)
  -- those inside are ok, and not taken by a dequeue that is ok
  pub inside_ok : (element : ℕ) → Contains d.inside element → IsOkWithin whole n element × Places order element Done
  pub inside_left : (element dequeue : ℕ) → Contains d.inside element → IsOkWithin whole n dequeue → Takes order dequeue element → ⊥
  -- debts are of other elements, each of one
  pub inside_free : (element time : ℕ) → Contains d.inside element → Contains d.debts (element, time) → ⊥
  pub debts_once : AllPairs (λ p q. p.0 ≢ q.0) d.debts
  pub debts_ok : (element time : ℕ) → Contains d.debts (element, time) → IsOkWithin whole n element
  pub debts_owed : (element time : ℕ) → Contains d.debts (element, time) → Owes whole order n element time
  -- the early ones are those whose enqueue isn't ok, and which a dequeue that is ok took
  pub early_taken : (element : ℕ) → Contains d.early element → (IsOkWithin whole n element → ⊥) × ((dequeue : ℕ) × IsOkWithin whole n dequeue × Takes order dequeue element)
  pub early_each : (element dequeue : ℕ) → (IsOkWithin whole n element → ⊥) → IsOkWithin whole n dequeue → Takes order dequeue element → Contains d.early element
  -- a dequeue that found nothing was invoked before the queue was last empty, or stands behind all that is inside
  pub found_nothing : (dequeue : ℕ) → dequeue < n → Places order dequeue (Value Nil) → (dequeue < d.emptied) ⊎ ((element : ℕ) → Contains d.inside element → IsAhead order element dequeue)
  pub returned_nothing : (dequeue : ℕ) → IsOkWithin whole n dequeue → Places order dequeue (Value Nil) → dequeue < d.emptied

-- some debtor of the list tells of each legal order of the events, whatever comes behind them
abbrev pub AreDebts : List Event → List Debtor → Type 0
AreDebts h members = (whole : List Event) (order : List Placed) → IsWhole h whole order → (d : Debtor) × Contains members d × Follows whole order (length h) d

-- a dequeue that is neither ok nor failed
abbrev pub IsOpenDequeue : List Event → ℕ → Type 0
IsOpenDequeue h at = (process : ℕ) × (key : Item) × IsOpen h at process key Dequeue

-- the one tells the same as the other, with later times
pub record Dominates (c d : Debtor) : Type 0 where
  pub inside : (element : ℕ) → Contains c.inside element ↔ Contains d.inside element
  pub early : (element : ℕ) → Contains c.early element ↔ Contains d.early element
  pub many : length c.debts ≡ length d.debts
  pub owes : (element time : ℕ) → Contains d.debts (element, time) → (later : ℕ) × (time ≤ later) × Contains c.debts (element, later)
  pub owed : (element later : ℕ) → Contains c.debts (element, later) → (time : ℕ) × (time ≤ later) × Contains d.debts (element, time)
  pub emptied : d.emptied ≤ c.emptied

-- moves from a debtor to the next
abbrev pub SameInside : Debtor → Debtor → Type 0
SameInside d next = (element : ℕ) → Contains next.inside element ↔ Contains d.inside element

abbrev pub SameEarly : Debtor → Debtor → Type 0
SameEarly d next = (element : ℕ) → Contains next.early element ↔ Contains d.early element

-- the element is put in the queue, which may have been empty up to this time
pub record IsPut (x since : ℕ) (d next : Debtor) : Type 0 where
  pub inside : (element : ℕ) → Contains next.inside element ↔ (Contains d.inside element ⊎ (element ≡ x))
  pub debts : next.debts ≡ d.debts
  pub early : SameEarly d next
  pub emptied : next.emptied ≡ since

-- the element is taken out of the queue
pub record IsTaken (x : ℕ) (d next : Debtor) : Type 0 where
  pub inside : (element : ℕ) → Contains next.inside element ↔ (Contains d.inside element × (element ≢ x))
  pub debts : next.debts ≡ d.debts
  pub early : SameEarly d next
  pub emptied : next.emptied ≡ d.emptied

-- the element goes into debt
pub record IsSunk (x time : ℕ) (d next : Debtor) : Type 0 where
  pub inside : (element : ℕ) → Contains next.inside element ↔ (Contains d.inside element × (element ≢ x))
  pub debts : next.debts ≡ d.debts ++ (x, time) ∷ []
  pub early : SameEarly d next
  pub emptied : next.emptied ≡ d.emptied

-- the debt between these is paid
pub record IsPaid (x time : ℕ) (before behind : List (ℕ × ℕ)) (d next : Debtor) : Type 0 where
  pub inside : SameInside d next
  pub was : d.debts ≡ before ++ (x, time) ∷ behind
  pub debts : next.debts ≡ before ++ behind
  pub early : SameEarly d next
  pub emptied : next.emptied ≡ d.emptied

-- an early element more, and one less
pub record GainsEarly (x : ℕ) (d next : Debtor) : Type 0 where
  pub inside : SameInside d next
  pub debts : next.debts ≡ d.debts
  pub early : (element : ℕ) → Contains next.early element ↔ (Contains d.early element ⊎ (element ≡ x))
  pub emptied : next.emptied ≡ d.emptied

pub record LosesEarly (x : ℕ) (d next : Debtor) : Type 0 where
  pub inside : SameInside d next
  pub debts : next.debts ≡ d.debts
  pub early : (element : ℕ) → Contains next.early element ↔ (Contains d.early element × (element ≢ x))
  pub emptied : next.emptied ≡ d.emptied

-- the queue may have been empty up to this time
pub record IsEmptied (time : ℕ) (d next : Debtor) : Type 0 where
  pub inside : SameInside d next
  pub debts : next.debts ≡ d.debts
  pub early : SameEarly d next
  pub emptied : next.emptied ≡ time

-- what an ok of the enqueue, behind the events h, makes of the debtor; `after` are the events with it
pub data IsEnqueued (whole : List Event) (order : List Placed) (h after : List Event) (x : ℕ) (d : Debtor) : Type 0 where
  -- its element was taken early
  was_early : Contains d.early x → ((next : Debtor) → LosesEarly x d next → Follows whole order (length after) next) → IsEnqueued whole order h after x d
  -- or is in the queue behind what is there
  put : (Contains d.early x → ⊥) → ((next : Debtor) → IsPut x d.emptied d next → Follows whole order (length after) next) → IsEnqueued whole order h after x d
  -- or all that is there was taken ahead of it, and an open dequeue found nothing then
  put_alone : (Contains d.early x → ⊥) → (found : ℕ) → found < length h → d.emptied ≤ found → Places order found (Value Nil) → IsOpenDequeue after found
      → ((element : ℕ) → Contains d.inside element → Owes whole order (length after) element (length h))
      → ((next : Debtor) → IsPut x (length h) d next → Follows whole order (length after) next) → IsEnqueued whole order h after x d

-- what an ok of the dequeue with the item makes of the debtor
pub data IsDequeued (whole : List Event) (order : List Placed) (h after : List Event) (x : ℕ) (item : Item) (d : Debtor) : Type 0 where
  -- it pays a debt from after its invocation
  paid : (element time : ℕ) → Contains d.debts (element, time) → x < time → IsCall h element (Enqueue item)
      → ((before behind : List (ℕ × ℕ)) (next : Debtor) → IsPaid element time before behind d next → Follows whole order (length after) next) → IsDequeued whole order h after x item d
  -- or takes an element in the queue: those put before it were taken ahead
  taken : (element : ℕ) → Contains d.inside element → IsCall h element (Enqueue item)
      → ((other : ℕ) → Contains d.inside other → IsBefore h other element → Owes whole order (length after) other (length h))
      → ((next : Debtor) → IsTaken element d next → Follows whole order (length after) next) → IsDequeued whole order h after x item d
  -- or one whose enqueue is open
  taken_early : (element process : ℕ) (key : Item) → IsOpen h element process key (Enqueue item) → (Contains d.early element → ⊥)
      → ((other : ℕ) → Contains d.inside other → IsBefore h other element → Owes whole order (length after) other (length h))
      → ((next : Debtor) → GainsEarly element d next → Follows whole order (length after) next) → IsDequeued whole order h after x item d

-- what an ok of the dequeue that found nothing makes of the debtor
pub data FoundNothing (whole : List Event) (order : List Placed) (h after : List Event) (x : ℕ) (d : Debtor) : Type 0 where
  -- the queue may have been empty after its invocation
  stays : x < d.emptied → Follows whole order (length after) d → FoundNothing whole order h after x d
  -- or all that is there was taken ahead of it
  emptied : d.emptied ≤ x → ((element : ℕ) → Contains d.inside element → Owes whole order (length after) element (length h))
      → ((next : Debtor) → IsEmptied (length h) d next → Follows whole order (length after) next) → FoundNothing whole order h after x d
