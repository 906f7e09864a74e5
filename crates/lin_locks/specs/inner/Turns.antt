-- What is right of a lock after some events, and what one more event makes of it.
use Rattle.std.specs.Prelude.{◌≡◌, ℕ, Bool, true, List, Option, Some, length}
use Rattle.lin_events.specs.declared.items.Item.{Item}
use Rattle.lin_events.specs.declared.events.Event.{Event}
use Rattle.lin_events.specs.declared.events.Body.TheVariants.{Ok}
use Rattle.lin_events.specs.declared.calls.Call.{Call}
use Rattle.lin_events.specs.declared.calls.Name.{Name}
use Rattle.lin_events.specs.declared.calls.Reply.TheVariants.{Done}
use Rattle.lin_events.specs.Operations.{IsOpen}
use Rattle.lin_events.specs.WellFormed.{IsWellFormed}
use Rattle.lin_objects.specs.declared.kinds.Kind.TheVariants.{Mutex}
use Rattle.lin_order.specs.Linearizable.{IsLinearizableAs}
use Rattle.lin_order.specs.ConfigurationLaws.{with_event}
use Rattle.lin_locks.specs.declared.latest.Running.{Running}
use Rattle.lin_locks.specs.inner.Fillings.{AreFilled, HavePlaces}
use Rattle.lin_locks.specs.inner.Known.{Known}
use Rattle.lin_locks.specs.inner.Sides.{AreSides}

-- each open operation is the one that its process called last
abbrev pub AreRunning : List Event → (ℕ → Option Running) → Type 0
AreRunning h latest = (at process : ℕ) (key : Item) (call : Call) → IsOpen h at process key call → latest process ≡ Some (record { begin = at; call = call })

-- both sides of the lock, and the order that goes with them
pub record HasSides (known : Known) (h : List Event) : Type 0 where
  pub sides : AreSides h true known.acquires known.releases known.held
  pub order : AreFilled h true known.order known.acquires known.releases known.held

-- what is known is right of these events
pub record IsRight (known : Known) (h : List Event) : Type 0 where
  pub running : AreRunning h known.latest
  pub sides : HasSides known h

-- what is owed of both calls has places in the order
abbrev pub HasPlaces : Known → Type 0
HasPlaces known = HavePlaces known.order known.acquires.debts × HavePlaces known.order known.releases.debts

-- the event completes the operation that was invoked there, with this call
pub record IsEnding (functions : Item → Name → Bool) (h : List Event) (event : Event) (begin : ℕ) (call : Call) : Type 0 where
  pub well_formed : IsWellFormed functions (with_event h event)
  pub key : Item
  pub is_open : IsOpen h begin event.process key call

-- the operation with the call returns at the place: what is known of the sides stays right
abbrev pub TurnsOn : Known → Known → Call → ℕ → ℕ → Type 0
TurnsOn old new call begin end = (functions : Item → Name → Bool) (h : List Event) (event : Event) (name : Name) → end ≡ length h → event.body ≡ Ok name Done
    → IsEnding functions h event begin call → HasSides old h → HasSides new (with_event h event)

-- or there is no legal order
abbrev pub TurnsDown : Known → Call → ℕ → ℕ → Type 0
TurnsDown old call begin end = (functions : Item → Name → Bool) (h : List Event) (event : Event) (name : Name) → end ≡ length h → event.body ≡ Ok name Done
    → IsEnding functions h event begin call → HasSides old h → IsLinearizableAs Mutex (with_event h event) → ⊥

-- with the event at the place, what is known stays right
abbrev pub GoesOn : Known → Known → ℕ → Event → Type 0
GoesOn old new at event = (functions : Item → Name → Bool) (h : List Event) → at ≡ length h → IsWellFormed functions (with_event h event) → IsRight old h → IsRight new (with_event h event)

-- or there is no legal order
abbrev pub IsFailing : Known → ℕ → Event → Type 0
IsFailing old at event = (functions : Item → Name → Bool) (h : List Event) → at ≡ length h → IsWellFormed functions (with_event h event) → IsRight old h → IsLinearizableAs Mutex (with_event h event) → ⊥
