use Rattle.std.proofs.Common.{◌≤◌, length}
use Rattle.lin_draw.proofs.layouts.bars_of.Given as goal

abbrev pub invariant-loop-one : goal.invariant-loop-one
invariant-loop-one l = length l.bars.items ≤ l.one-index
