-- Which members the engine comes to, event by event, and when these are too many to go on with.
use Rattle.std.specs.Prelude.{◌≡◌, ◌≢◌, ◌<◌, ◌≤◌, ◌+◌, ◌==◌, ◌++◌, ◌∷◌, ℕ, List, [], Some, filter, length, not, slice_get, Contains}
use Rattle.std.specs.List.{remove}
use Rattle.lin_events.specs.declared.items.Item.{Item}
use Rattle.lin_events.specs.declared.events.Event.{Event}
use Rattle.lin_events.specs.declared.events.Body.TheVariants.{Invoke, Ok, Fail, Info}
use Rattle.lin_events.specs.declared.calls.Call.{Call}
use Rattle.lin_events.specs.declared.calls.Call.TheVariants.{Enqueue, Dequeue}
use Rattle.lin_events.specs.declared.calls.Name.{Name}
use Rattle.lin_events.specs.declared.calls.Reply.TheVariants.{Done, Value}
use Rattle.lin_events.specs.declared.calls.Val.TheVariants.{Nil, Item as Held}
use Rattle.lin_events.specs.Operations.{IsOpen}
use Rattle.lin_order.specs.ConfigurationLaws.{with_event}
use Rattle.lin_queues.specs.declared.elements.Element.{Element}
use Rattle.lin_queues.specs.declared.members.Debt.{Debt}
use Rattle.lin_queues.specs.declared.opens.OpenCall.{OpenCall}
use Rattle.lin_queues.specs.Members.{AreUnpaid, IsAtLeast, View, at_first, first_debt}
use Rattle.lin_queues.specs.Opens.{AreDequeues, AreOpen}

-- the first element is no longer in the queue
abbrev pub passed : View → View
passed v = record v { low = v.low + 1; gone = filter (λ i. not (i == v.low)) v.gone }

-- it is in debt
abbrev pub sunk : View → Element → ℕ → View
sunk v first time = record v { low = v.low + 1; gone = filter (λ i. not (i == v.low)) v.gone; debts = v.debts ++ first_debt first time ∷ [] }

-- the first elements in the queue go into debt, all that returned before the place, and no other
pub data Sinks (all : List Element) (by time : ℕ) : View → View → Type 0 where
  rests : {v : View} → ((first : Element) → slice_get all v.low ≡ Some first → (Contains v.gone v.low → ⊥) × (by ≤ first.returned)) → Sinks all by time v v
  passes : {v w : View} → v.low < length all → Contains v.gone v.low → Sinks all by time (passed v) w → Sinks all by time v w
  owes : {v w : View} (first : Element) → slice_get all v.low ≡ Some first → (Contains v.gone v.low → ⊥) → first.returned < by → Sinks all by time (sunk v first time) w → Sinks all by time v w

-- what an ok of the enqueue makes of a member; its element stands at the index
pub data PutsIn (all : List Element) (place at time : ℕ) (v w : View) : Type 0 where
  -- its element was taken early
  was_early : Contains v.early place → Sinks all 0 0 (record v { gone = v.gone ++ at ∷ []; early = filter (λ f. not (f == place)) v.early }) w → PutsIn all place at time v w
  -- or is in the queue behind what is there
  behind : (Contains v.early place → ⊥) → w ≡ v → PutsIn all place at time v w
  -- or all that is there was taken ahead of it
  alone : (Contains v.early place → ⊥) → Sinks all time time (record v { emptied = time }) w → PutsIn all place at time v w

-- what an ok of a dequeue that found nothing makes of it
pub data FindsNothing (all : List Element) (dequeue time : ℕ) (v w : View) : Type 0 where
  stays : dequeue < v.emptied → w ≡ v → FindsNothing all dequeue time v w
  empties : v.emptied ≤ dequeue → Sinks all time time (record v { emptied = time }) w → FindsNothing all dequeue time v w

-- what an ok of a dequeue with an item makes of it: it pays a debt
pub record Pays (dequeue : ℕ) (item : Item) (v w : View) : Type 0 where
  pub at : ℕ
  pub debt : Debt
  pub stands : slice_get v.debts at ≡ Some debt
  pub item_is : debt.item ≡ item
  pub before : dequeue < debt.before
  pub becomes : w ≡ record v { debts = remove v.debts at }

-- or takes an element in the queue
pub record Takes (all : List Element) (item : Item) (time : ℕ) (v w : View) : Type 0 where
  pub at : ℕ
  pub element : Element
  pub stands : slice_get all at ≡ Some element
  pub item_is : element.item ≡ item
  pub from_low : v.low ≤ at
  pub kept : Contains v.gone at → ⊥
  pub becomes : Sinks all element.place time (record v { gone = v.gone ++ at ∷ [] }) w

-- or that of an open enqueue
pub record TakesEarly (all : List Element) (open' : List OpenCall) (item : Item) (time : ℕ) (v w : View) : Type 0 where
  pub at : ℕ
  pub operation : OpenCall
  pub stands : slice_get open' at ≡ Some operation
  pub call : operation.call ≡ Enqueue item
  pub absent : Contains v.early operation.place → ⊥
  pub becomes : Sinks all operation.place time (record v { early = v.early ++ operation.place ∷ [] }) w

pub data Finds (all : List Element) (open' : List OpenCall) (dequeue : ℕ) (item : Item) (time : ℕ) (v w : View) : Type 0 where
  pays : Pays dequeue item v w → Finds all open' dequeue item time v w
  takes : Takes all item time v w → Finds all open' dequeue item time v w
  takes_early : TakesEarly all open' item time v w → Finds all open' dequeue item time v w

-- a fail leaves those that didn't take its element
abbrev pub Fails : ℕ → View → View → Type 0
Fails place v w = (Contains v.early place → ⊥) × (w ≡ v)

-- the open dequeues can pay its debts
abbrev pub IsPayable : List Event → View → Type 0
IsPayable h v = (dequeues : List ℕ) × AreDequeues h dequeues × (AreUnpaid v.debts dequeues → ⊥)

-- the engine comes to the member, with these elements, by the events
pub data Reached : List Event → List Element → View → Type 0 where
  at_start : Reached [] [] at_first
  invoked : {h : List Event} {all : List Element} {v : View} (event : Event) (call : Call) → event.body ≡ Invoke call → Reached h all v → Reached (with_event h event) all v
  informed : {h : List Event} {all : List Element} {v : View} (event : Event) (name : Name) → event.body ≡ Info name → Reached h all v → Reached (with_event h event) all v
  failed : {h : List Event} {all : List Element} {v w : View} (event : Event) (name : Name) (place : ℕ) (key : Item) (call : Call) → event.body ≡ Fail name
      → IsOpen h place event.process key call → Reached h all v → Fails place v w → IsPayable (with_event h event) w → Reached (with_event h event) all w
  put : {h : List Event} {all : List Element} {v w : View} (event : Event) (name : Name) (key : Item) (new : Element) → event.body ≡ Ok name Done
      → IsOpen h new.place event.process key (Enqueue new.item) → new.returned ≡ length h → Reached h all v → PutsIn (all ++ new ∷ []) new.place (length all) (length h) v w
      → IsPayable (with_event h event) w → Reached (with_event h event) (all ++ new ∷ []) w
  found_nothing : {h : List Event} {all : List Element} {v w : View} (event : Event) (name : Name) (place : ℕ) (key : Item) → event.body ≡ Ok name (Value Nil)
      → IsOpen h place event.process key Dequeue → Reached h all v → FindsNothing all place (length h) v w → IsPayable (with_event h event) w → Reached (with_event h event) all w
  found : {h : List Event} {all : List Element} {v w : View} (event : Event) (name : Name) (place : ℕ) (key item : Item) (open' : List OpenCall) → event.body ≡ Ok name (Value (Held item))
      → IsOpen h place event.process key Dequeue → AreOpen (with_event h event) open' → Reached h all v → Finds all open' place item (length h) v w
      → IsPayable (with_event h event) w → Reached (with_event h event) all w

-- the engine comes to more than 128 members by the events, none of which is as good as another one
pub record AreTooMany (h : List Event) : Type 0 where
  pub all : List Element
  pub views : List View
  pub many : 128 < length views
  pub reached : (i : ℕ) (v : View) → slice_get views i ≡ Some v → Reached h all v
  pub apart : (i j : ℕ) (v w : View) → slice_get views i ≡ Some v → slice_get views j ≡ Some w → i ≢ j → IsAtLeast v w → ⊥
