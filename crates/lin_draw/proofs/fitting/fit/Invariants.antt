use Rattle.std.proofs.Common.{◌≤◌, length}
use Rattle.lin_draw.proofs.fitting.fit.Given as goal

abbrev pub invariant-loop-layout : goal.invariant-loop-layout
invariant-loop-layout l = length l.layout.bars.items ≤ length l.chosen.items

abbrev pub decreases-loop-layout : goal.decreases-loop-layout
decreases-loop-layout l = length l.chosen.items
