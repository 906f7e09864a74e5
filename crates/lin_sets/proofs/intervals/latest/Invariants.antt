use Rattle.std.proofs.Common.{Some, take}
use Rattle.lin_sets.specs.Steps.{IsLatest}
use Rattle.lin_sets.proofs.intervals.latest.Given as goal

abbrev pub invariant-loop-item : goal.invariant-loop-item
invariant-loop-item l = IsLatest l.first l.at (take l.item-index l.items) (Some l.latest)
