use Rattle.std.proofs.Common.{ℕ, ◌<◌}
use Rattle.lin_events.specs.WellFormed.{IsBad}
use Rattle.lin_events.specs.declared.shapes.Cause.{Cause}
use Rattle.lin_objects.specs.Kinds.{kind_of, functions_of}
use Rattle.lin_wellformed.proofs.backward.look_back.Given as goal

-- none of the positions that were passed is bad
abbrev pub invariant-loop-at : goal.invariant-loop-at
invariant-loop-at l = (k : ℕ) (cause : Cause) → k < l.at → IsBad (functions_of (kind_of l.kinds)) l.events k cause → ⊥
