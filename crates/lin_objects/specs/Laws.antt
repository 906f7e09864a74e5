-- Laws of the steps of objects.
use Rattle.std.specs.Prelude.{◌≡◌, true}
use Rattle.lin_events.specs.declared.calls.Call.{Call}
use Rattle.lin_events.specs.declared.calls.Reply.{Reply}
use Rattle.lin_objects.specs.declared.kinds.Kind.{Kind}
use Rattle.lin_objects.specs.declared.states.State.{State}
use Rattle.lin_events.specs.Names.{name_of}
use Rattle.lin_objects.specs.Steps.{Step, allows}

-- an object takes only calls of functions that its kind has
abbrev pub StepsAreAllowed : Type 0
StepsAreAllowed = (kind : Kind) (state : State) (call : Call) (next : State) (reply : Reply) → Step kind state call next reply → allows kind (name_of call) ≡ true

-- the state before and the reply decide the state after
abbrev pub RepliesDecide : Type 0
RepliesDecide = (kind : Kind) (state : State) (call : Call) (next other : State) (reply : Reply) → Step kind state call next reply → Step kind state call other reply → next ≡ other
