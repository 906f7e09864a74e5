use Rattle.std.proofs.Common.{◌<◌}
use Rattle.lin_draw.proofs.choosing.leave_last.Given as goal

abbrev pub invariant-loop-at : goal.invariant-loop-at
invariant-loop-at l = l.last < l.at
