use Rattle.std.proofs.Common.{◌≤◌, length}
use Rattle.lin_draw.proofs.choosing.choose.Given as goal

abbrev pub invariant-loop-at : goal.invariant-loop-at
invariant-loop-at l = length l.chosen.items ≤ l.focus.most
