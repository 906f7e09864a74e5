use Rattle.std.proofs.Common.{◌≤◌}
use Rattle.lin_tables.specs.WindowOperations.{IsOfSort}
use Rattle.lin_tables.proofs.Passing.{CountBelow}
use Rattle.lin_tables.proofs.counts.count_of.Given as goal

abbrev pub invariant-loop-at : goal.invariant-loop-at
invariant-loop-at l = (l.count ≤ l.at) × CountBelow (IsOfSort l.events l.sort) l.at l.count
