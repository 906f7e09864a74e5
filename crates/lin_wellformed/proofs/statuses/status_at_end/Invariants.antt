use Rattle.std.proofs.Common.{ℕ, ◌≤◌}
use Rattle.lin_events.specs.Operations.{IsOf}
use Rattle.lin_wellformed.proofs.statuses.status_at_end.Given as goal

-- none of the positions that were passed is of the process
abbrev pub invariant-loop-at : goal.invariant-loop-at
invariant-loop-at l = (k : ℕ) → l.at ≤ k → IsOf l.events l.process k → ⊥
