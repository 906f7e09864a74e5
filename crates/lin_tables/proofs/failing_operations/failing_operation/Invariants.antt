use Rattle.std.proofs.Common.{ℕ, ◌≤◌}
use Rattle.lin_tables.specs.WindowOperations.{IsFailing}
use Rattle.lin_tables.proofs.failing_operations.failing_operation.Given as goal

abbrev pub invariant-loop-at : goal.invariant-loop-at
invariant-loop-at l = (k : ℕ) → l.at ≤ k → IsFailing l.events k → ⊥
