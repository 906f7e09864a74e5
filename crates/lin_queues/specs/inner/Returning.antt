-- Where operations are known to have returned: a word of private contracts.
use Rattle.std.specs.Prelude.{◌≤◌, ◌⊎◌, ℕ, List, length}
use Rattle.lin_events.specs.declared.calls.Reply.{Reply}
use Rattle.lin_events.specs.declared.events.Event.{Event}
use Rattle.lin_events.specs.Operations.{IsOk}

-- the operation is known to be ok by the place, or no event stands there or behind
abbrev pub IsReturnedBy : List Event → ℕ → ℕ → Type 0
IsReturnedBy h at place = (length h ≤ place) ⊎ ((end : ℕ) × (reply : Reply) × IsOk h at end reply × (end ≤ place))
