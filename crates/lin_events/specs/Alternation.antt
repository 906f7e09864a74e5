-- Well-formed histories, said of operations (Herlihy and Wing 1990, section 2).
use Rattle.std.specs.Prelude.{◌≡◌, ◌⊎◌, ◌<◌, ℕ, Bool, true, List}
use Rattle.lin_events.specs.declared.items.Item.{Item}
use Rattle.lin_events.specs.declared.calls.Call.{Call}
use Rattle.lin_events.specs.declared.calls.Name.{Name}
use Rattle.lin_events.specs.declared.calls.Reply.{Reply}
use Rattle.lin_events.specs.declared.events.Body.TheVariants.{Fail}
use Rattle.lin_events.specs.declared.events.Event.{Event}
use Rattle.lin_events.specs.Names.{name_of}
use Rattle.lin_events.specs.Operations.{IsEvent, IsOperation, IsEnd, IsOk}
use Rattle.lin_events.specs.WellFormed.{Completes}

-- the operation ends there with an ok or a fail
abbrev pub IsReturn : List Event → ℕ → ℕ → Type 0
IsReturn h at end = ((reply : Reply) × IsOk h at end reply) ⊎ ((ending : Event) × IsEnd h at end ending × (name : Name) × (ending.body ≡ Fail name))

-- each invocation is of a function that the object of its key has; a process calls again only after its operation returned; and each completion ends
-- an operation of its process, its key and its function
pub record IsAlternating (functions : Item → Name → Bool) (h : List Event) : Type 0 where
  pub allowed : (at process : ℕ) (key : Item) (call : Call) → IsOperation h at process key call → functions key (name_of call) ≡ true
  pub returned : (at later process : ℕ) (key other : Item) (call again : Call) → at < later → IsOperation h at process key call → IsOperation h later process other again
      → (end : ℕ) × (end < later) × IsReturn h at end
  pub completed : (end : ℕ) (ending : Event) (name : Name) → IsEvent h end ending → Completes ending.body name
      → (at : ℕ) × (call : Call) × IsOperation h at ending.process ending.key call × (name_of call ≡ name) × IsEnd h at end ending
