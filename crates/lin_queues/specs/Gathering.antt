-- Which legal orders the members tell of that were gathered for the next events.
use Rattle.std.specs.Prelude.{◌≡◌, ◌<◌, ◌≤◌, ◌⊎◌, ◌∷◌, ◌++◌, ℕ, Bool, List, [], IsTrue, Contains}
use Rattle.lin_events.specs.declared.items.Item.{Item}
use Rattle.lin_events.specs.declared.events.Event.{Event}
use Rattle.lin_events.specs.declared.events.Body.TheVariants.{Ok}
use Rattle.lin_events.specs.declared.calls.Call.{Call}
use Rattle.lin_events.specs.declared.calls.Name.{Name}
use Rattle.lin_events.specs.declared.calls.Reply.{Reply}
use Rattle.lin_events.specs.Operations.{IsOk}
use Rattle.lin_order.specs.declared.placed.Placed.{Placed}
use Rattle.lin_order.specs.ConfigurationLaws.{with_event}
use Rattle.lin_queues.specs.Debts.{IsWhole}
use Rattle.lin_queues.specs.Laws.{Completes}
use Rattle.lin_queues.specs.declared.elements.Element.{Element}
use Rattle.lin_queues.specs.declared.members.QueueMember.{QueueMember}
use Rattle.lin_queues.specs.declared.gathered.Gathered.{Gathered}
use Rattle.std.specs.List.{remove}
use Rattle.lin_queues.specs.declared.members.Debt.{Debt}
use Rattle.lin_queues.specs.Members.{AreEnqueues, AreOwed, Told, View, view_of}
use Rattle.std.specs.Prelude.{Some, slice_get}

-- some member tells of the order, or there were too many
abbrev pub IsCovered : List Event → List Placed → ℕ → List Element → List QueueMember → Bool → Type 0
IsCovered whole order n all members full = IsTrue full ⊎ ((m : QueueMember) × Contains members m × Told whole order n all (view_of m))

-- what was told of stays so
abbrev pub Keeps : Gathered → Gathered → Type 0
Keeps old new = (whole : List Event) (order : List Placed) (n : ℕ) (all : List Element) → IsCovered whole order n all old.members.items old.is_full → IsCovered whole order n all new.members.items new.is_full

-- each element is ok since the event at this place
abbrev pub HaveReturned : List Event → List Element → Type 0
HaveReturned h all = (i : ℕ) (x : Element) → slice_get all i ≡ Some x → (reply : Reply) × IsOk h x.place x.returned reply

-- the event is the ok, with this reply, of an open operation; these are the elements with it
pub record IsReturning (functions : Item → Name → Bool) (h : List Event) (event : Event) (place : ℕ) (call : Call) (reply : Reply) (whole : List Event) (order : List Placed)
    (all : List Element) : Type 0 where
  pub completes : Completes functions h event place call
  pub name : Name
  pub body : event.body ≡ Ok name reply
  pub is_whole : IsWhole (with_event h event) whole order
  pub enqueues : AreEnqueues whole all
  pub returned : HaveReturned (with_event h event) all

-- a debt of the item at this index may be paid by the dequeue
pub record MayPay (whole : List Event) (order : List Placed) (n : ℕ) (all : List Element) (v : View) (dequeue : ℕ) (item : Item) (at : ℕ) : Type 0 where
  pub debt : Debt
  pub stands : slice_get v.debts at ≡ Some debt
  pub item_is : debt.item ≡ item
  pub before : dequeue < debt.before
  pub told : Told whole order n all (record v { debts = remove v.debts at })

-- the element of the item at this index may be taken
pub record MayTake (whole : List Event) (order : List Placed) (n : ℕ) (all : List Element) (v : View) (time : ℕ) (item : Item) (at : ℕ) : Type 0 where
  pub element : Element
  pub stands : slice_get all at ≡ Some element
  pub item_is : element.item ≡ item
  pub from_low : v.low ≤ at
  pub kept : Contains v.gone at → ⊥
  pub told : Told whole order n all (record v { gone = v.gone ++ at ∷ [] })
  pub ahead : AreOwed whole order n all (record v { gone = v.gone ++ at ∷ [] }) element.place time

-- or one whose enqueue is open
pub record MayTakeEarly (whole : List Event) (order : List Placed) (n : ℕ) (all : List Element) (v : View) (time : ℕ) (place : ℕ) : Type 0 where
  pub absent : Contains v.early place → ⊥
  pub told : Told whole order n all (record v { early = v.early ++ place ∷ [] })
  pub ahead : AreOwed whole order n all (record v { early = v.early ++ place ∷ [] }) place time
