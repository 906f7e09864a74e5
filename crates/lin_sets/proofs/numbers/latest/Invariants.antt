use Rattle.std.proofs.Common.{take}
use Rattle.lin_sets.specs.Points.{IsLatest}
use Rattle.lin_sets.proofs.numbers.latest.Given as goal

abbrev pub invariant-loop-item : goal.invariant-loop-item
invariant-loop-item l = IsLatest l.first.entries l.from (take l.item-index l.items) l.latest
