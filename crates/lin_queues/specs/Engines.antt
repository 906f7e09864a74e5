-- The engine: what it knows of a queue's events, and what one more event makes of that.
use Rattle.std.specs.Prelude.{◌≡◌, ◌<◌, ℕ, Bool, List, length, Contains}
use Rattle.lin_events.specs.declared.items.Item.{Item}
use Rattle.lin_events.specs.declared.events.Event.{Event}
use Rattle.lin_events.specs.declared.calls.Name.{Name}
use Rattle.lin_events.specs.WellFormed.{IsWellFormed}
use Rattle.lin_objects.specs.declared.kinds.Kind.TheVariants.{Fifo}
use Rattle.lin_order.specs.declared.placed.Placed.{Placed}
use Rattle.lin_order.specs.Linearizable.{IsLinearizableAs}
use Rattle.lin_order.specs.ConfigurationLaws.{with_event}
use Rattle.lin_events.specs.declared.events.Body.TheVariants.{Ok}
use Rattle.lin_events.specs.declared.calls.Call.{Call}
use Rattle.lin_events.specs.declared.calls.Reply.{Reply}
use Rattle.lin_queues.specs.Debts.{IsWhole}
use Rattle.lin_queues.specs.Laws.{Completes}
use Rattle.lin_queues.specs.declared.elements.Elements.{Elements}
use Rattle.lin_queues.specs.declared.members.QueueMember.{QueueMember}
use Rattle.lin_queues.specs.declared.debts.Debts.{Debts}
use Rattle.lin_queues.specs.Chains.{AreChained}
use Rattle.lin_queues.specs.Gathering.{HaveReturned}
use Rattle.lin_queues.specs.Members.{AreEnqueues, Told, view_of}
use Rattle.lin_queues.specs.Opens.{AreOpen}
use Rattle.lin_queues.specs.Reaching.{AreTooMany, Reached}

-- the elements are the enqueues that returned, in a chain for each item
pub record AreElements (h : List Event) (elements : Elements) : Type 0 where
  pub chained : AreChained elements.all.items elements.latest.entries
  pub enqueues : AreEnqueues h elements.all.items
  pub returned : HaveReturned h elements.all.items

-- there are members; for each legal order of the events, whatever comes behind them, one of them tells what it made of the elements; and the
-- events come to each of them
pub record AreDebtsOf (debts : Debts) (h : List Event) : Type 0 where
  pub reached : debts.reached ≡ length h
  pub elements : AreElements h debts.elements
  pub opened : AreOpen h debts.pending.items
  pub left : 0 < length debts.members.items
  pub told : (whole : List Event) (order : List Placed) → IsWhole h whole order → (m : QueueMember) × Contains debts.members.items m × Told whole order (length h) debts.elements.all.items (view_of m)
  pub made : (m : QueueMember) → Contains debts.members.items m → Reached h debts.elements.all.items (view_of m)

-- the events so far are known, and the event completes this operation, which isn't listed any more
pub record IsCompleting (debts : Debts) (functions : Item → Name → Bool) (h : List Event) (event : Event) (place : ℕ) (call : Call) (reply : Reply) : Type 0 where
  pub completes : Completes functions h event place call
  pub name : Name
  pub body : event.body ≡ Ok name reply
  pub reached : debts.reached ≡ length h
  pub elements : AreElements h debts.elements
  pub opened : AreOpen (with_event h event) debts.pending.items
  pub told : (whole : List Event) (order : List Placed) → IsWhole h whole order → (m : QueueMember) × Contains debts.members.items m × Told whole order (length h) debts.elements.all.items (view_of m)
  pub made : (m : QueueMember) → Contains debts.members.items m → Reached h debts.elements.all.items (view_of m)

-- how many events were taken in
abbrev pub reached_count : Debts → ℕ
reached_count debts = debts.reached

-- what the engine knows stays right with the event
abbrev pub GoesOn : Debts → Debts → Event → Type 0
GoesOn old new event = (functions : Item → Name → Bool) (h : List Event) → IsWellFormed functions (with_event h event) → AreDebtsOf old h → AreDebtsOf new (with_event h event)

-- with the event there is no legal order
abbrev pub IsFailing : Debts → Event → Type 0
IsFailing old event = (functions : Item → Name → Bool) (h : List Event) → IsWellFormed functions (with_event h event) → AreDebtsOf old h → IsLinearizableAs Fifo (with_event h event) → ⊥

-- with the event there are too many members, if so many events can be counted
abbrev pub IsCrowding : Debts → Event → Type 0
IsCrowding old event = (functions : Item → Name → Bool) (h : List Event) → IsWellFormed functions (with_event h event) → AreDebtsOf old h → length h < 18446744073709551615 → AreTooMany (with_event h event)
