-- What the parts of `check_refutation` decide: words of private contracts.
use Rattle.std.specs.Prelude.{◌≡◌, ◌+◌, ◌↔◌, ℕ, List, [], Contains, length, take}
use Rattle.lin_events.specs.declared.items.Item.{Item}
use Rattle.lin_events.specs.declared.calls.Call.{Call}
use Rattle.lin_events.specs.declared.calls.Reply.{Reply}
use Rattle.lin_events.specs.declared.events.Body.{Body}
use Rattle.lin_events.specs.declared.events.Body.TheVariants.{Invoke, Ok, Fail, Info}
use Rattle.lin_events.specs.declared.events.Event.{Event}
use Rattle.lin_events.specs.Operations.{IsEvent, IsOpen, IsOperation}
use Rattle.lin_objects.specs.declared.kinds.Kind.{Kind}
use Rattle.lin_objects.specs.declared.states.State.{State}
use Rattle.lin_objects.specs.Steps.{Step, start}
use Rattle.lin_order.specs.Configurations.{IsAdded}
use Rattle.lin_order.specs.Refutations.{Config, IsSet, AreRising, IsClosed, IsLeft, HoldsLeft}

-- an operation that is open begins at the position
abbrev pub IsOpenAt : List Event → ℕ → Type 0
IsOpenAt h at = (process : ℕ) × (key : Item) × (call : Call) × IsOpen h at process key call

-- just the positions of the open operations
abbrev pub AreOpen : List Event → List ℕ → Type 0
AreOpen h pending = (at : ℕ) → Contains pending at ↔ IsOpenAt h at

-- an ok or a fail: what it ends is no longer open
abbrev pub IsReturning : Body → Type 0
IsReturning (Invoke call) = ⊥
IsReturning (Ok name reply) = Unit {0}
IsReturning (Fail name) = Unit {0}
IsReturning (Info name) = ⊥

-- the same members
abbrev pub AreSame : List Config → List Config → Type 0
AreSame members set = (c : Config) → Contains members c ↔ Contains set c

-- the state with the pairs and this one is a member
abbrev pub HoldsWith : List Config → List (ℕ × Reply) → ℕ → State × Reply → Type 0
HoldsWith members placed process outcome = (more : List (ℕ × Reply)) → IsAdded process outcome.1 placed more → Contains members (outcome.0, more)

-- whatever comes of the configuration by a step of an operation of the process with this call is a member
abbrev pub HoldsSteps : Kind → List Config → Config → ℕ → Call → Type 0
HoldsSteps kind members c process call = (next : State) (reply : Reply) → Step kind c.0 call next reply → HoldsWith members c.1 process (next, reply)

-- whatever comes of the configuration by placing the operation at the position is a member
abbrev pub HoldsPlacing : Kind → List Event → List Config → Config → ℕ → Type 0
HoldsPlacing kind h members c at = (process : ℕ) (key : Item) (call : Call) → IsOperation h at process key call → HoldsSteps kind members c process call

-- whatever the event leaves of the configuration is a member
abbrev pub HoldsLeftOf : Event → List Config → Config → Type 0
HoldsLeftOf event members c = (d : Config) → IsLeft event.process event.body c d → Contains members d

-- the one set may follow the other at this event, the last of the history
pub record Follows (kind : Kind) (h : List Event) (event : Event) (before after : List Config) : Type 0 where
  pub kept : HoldsLeft event before after
  pub closed : IsClosed kind h after

-- the sets are as many as they have to be, rise, begin with the start and end empty
pub record IsFramed (h : List Event) (kind : Kind) (sets : List (List Config)) : Type 0 where
  pub count : length sets ≡ length h + 1
  pub rising : (i : ℕ) (set : List Config) → IsSet sets i set → AreRising set
  pub begins : (set : List Config) → IsSet sets 0 set → Contains set (start kind, [])
  pub ends : IsSet sets (length h) []

-- each set follows the one before it
abbrev pub IsCarried : List Event → Kind → List (List Config) → Type 0
IsCarried h kind sets = (i : ℕ) (event : Event) (before after : List Config) → IsEvent h i event → IsSet sets i before → IsSet sets (i + 1) after
    → Follows kind (take (i + 1) h) event before after
