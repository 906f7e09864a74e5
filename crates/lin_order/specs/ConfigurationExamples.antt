-- Two small histories of a register, of which the laws of configurations speak.
use Rattle.std.specs.Prelude.{◌↔◌, pos, ℕ, Bool, List, [], ◌∷◌, ◌++◌, Contains}
use Rattle.lin_events.specs.declared.items.Item.{Item}
use Rattle.lin_events.specs.declared.items.Item.TheVariants.{Int}
use Rattle.lin_events.specs.declared.calls.Call.TheVariants.{Read, Write}
use Rattle.lin_events.specs.declared.calls.Name.{Name}
use Rattle.lin_events.specs.declared.calls.Name.TheVariants as Named
use Rattle.lin_events.specs.declared.calls.Reply.{Reply}
use Rattle.lin_events.specs.declared.calls.Reply.TheVariants.{Done}
use Rattle.lin_events.specs.declared.calls.Val.TheVariants.{Nil, Item as Held}
use Rattle.lin_events.specs.declared.events.Body.{Body}
use Rattle.lin_events.specs.declared.events.Body.TheVariants.{Invoke, Ok, Fail, Info}
use Rattle.lin_events.specs.declared.events.Event.{Event}
use Rattle.lin_events.specs.WellFormed.{IsWellFormed}
use Rattle.lin_objects.specs.declared.kinds.Kind.TheVariants.{Register}
use Rattle.lin_objects.specs.declared.states.State.{State}
use Rattle.lin_objects.specs.declared.states.State.TheVariants.{Value}
use Rattle.lin_objects.specs.Steps.{Step, allows, start}
use Rattle.lin_order.specs.Configurations.{IsConfiguration}

-- the functions of registers
abbrev pub of_registers : Item → Name → Bool
of_registers key = allows Register

abbrev pub event : ℕ → Body → Event
event process body = record { process = process; key = Int (pos 0); body = body }

-- two processes write at once
abbrev pub two_writes : List Event
two_writes = event 0 (Invoke (Write (Held (Int (pos 1))))) ∷ event 1 (Invoke (Write (Held (Int (pos 2))))) ∷ []

-- one write is ok and the other fails, and a read by the first process crashes
abbrev pub each_completion : List Event
each_completion = two_writes ++ (event 0 (Ok Named.Write Done) ∷ event 1 (Fail Named.Write) ∷ event 0 (Invoke Read) ∷ event 0 (Info Named.Read) ∷ [])

abbrev pub HasEachCompletion : Type 0
HasEachCompletion = IsWellFormed of_registers each_completion

abbrev pub TwoWritesAreWellFormed : Type 0
TwoWritesAreWellFormed = IsWellFormed of_registers two_writes

-- the configurations of the two writes: neither is placed, the one, the other, or both, and of these either last
abbrev pub configurations : List (State × List (ℕ × Reply))
configurations =
    (Value Nil, []) ∷
    (Value (Held (Int (pos 1))), (0, Done) ∷ []) ∷
    (Value (Held (Int (pos 2))), (1, Done) ∷ []) ∷
    (Value (Held (Int (pos 2))), (0, Done) ∷ (1, Done) ∷ []) ∷
    (Value (Held (Int (pos 1))), (0, Done) ∷ (1, Done) ∷ []) ∷ []

abbrev pub HasTheseConfigurations : Type 0
HasTheseConfigurations = (c : State × List (ℕ × Reply)) → IsConfiguration (start Register) (Step Register) two_writes c ↔ Contains configurations c
