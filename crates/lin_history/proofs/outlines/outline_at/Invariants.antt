use Rattle.std.proofs.Common.{◌≤◌}
use Rattle.lin_history.proofs.outlines.outline_at.Given as goal

abbrev pub invariant-loop : goal.invariant-loop
invariant-loop l = l.at ≤ l.end
