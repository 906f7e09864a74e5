-- What the private functions that find a step answer.
use Rattle.std.specs.Prelude.{◌≡◌, ◌≢◌, List, Option, Some, None, AllPairs, Contains}
use Rattle.lin_events.specs.declared.calls.Call.{Call}
use Rattle.lin_events.specs.declared.calls.Reply.{Reply}
use Rattle.lin_objects.specs.declared.kinds.Kind.{Kind}
use Rattle.lin_objects.specs.declared.states.State.{State}
use Rattle.lin_objects.specs.Steps.{Step}

-- this is the only step that there is, or there is none
abbrev pub IsOnlyStep : Kind → State → Call → Option (State × Reply) → Type 0
IsOnlyStep kind state call None = (next : State) (reply : Reply) → Step kind state call next reply → ⊥
IsOnlyStep kind state call (Some p) = Step kind state call p.0 p.1 × ((next : State) (reply : Reply) → Step kind state call next reply → (next ≡ p.0) × (reply ≡ p.1))

-- these are all steps that there are, each once
pub record AreAllSteps (kind : Kind) (state : State) (call : Call) (steps : List (State × Reply)) : Type 0 where
  pub sound : (next : State) (reply : Reply) → Contains steps (next, reply) → Step kind state call next reply
  pub complete : (next : State) (reply : Reply) → Step kind state call next reply → Contains steps (next, reply)
  pub once : AllPairs (λ p q. p ≢ q) steps
