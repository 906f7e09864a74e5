-- What a table of ends tells of one position.
use Rattle.std.specs.Prelude.{◌≡◌, Option, Some, None}
use Rattle.lin_events.specs.declared.items.Item.{Item}
use Rattle.lin_events.specs.declared.events.Event.{Event}
use Rattle.lin_events.specs.declared.events.Body.TheVariants.{Invoke}
use Rattle.lin_events.specs.declared.calls.Call.{Call}
use Rattle.lin_events.specs.declared.calls.Reply.{Reply}
use Rattle.lin_objects.specs.declared.kinds.Kind.{Kind}
use Rattle.lin_objects.specs.declared.states.State.{State}
use Rattle.lin_objects.specs.Steps.{Step}
use Rattle.lin_order.specs.Tables.{state_of, Moves}

-- what was found passes, or nothing does
abbrev pub IsFound : {S : Type 0} → (S → Type 0) → Option S → Type 0
IsFound {S} passes None = (other : S) → passes other → ⊥
IsFound passes (Some found) = passes found

-- the object of the invocation took the step that gives this reply
abbrev pub IsTaken : (Item → Kind) → (Item → Option State) → (Item → Option State) → Event → Reply → Type 0
IsTaken kinds old new event reply = (call : Call) × (event.body ≡ Invoke call) × Moves kinds old new event.key call reply

-- the event is no invocation, or its object has no step that gives this reply
abbrev pub IsRefused : (Item → Kind) → (Item → Option State) → Event → Reply → Type 0
IsRefused kinds states event reply = (call : Call) (next : State) → event.body ≡ Invoke call → Step (kinds event.key) (state_of kinds states event.key) call next reply → ⊥
