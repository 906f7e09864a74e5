use Rattle.std.proofs.Common.{◌-◌, ◌<◌, ◌≤◌}
use Rattle.lin_history.specs.inner.Usual.{IsUpTo}
use Rattle.lin_history.proofs.usual.usual_map.Given as goal

abbrev pub invariant-loop-at : goal.invariant-loop-at
invariant-loop-at l = (l.fn.from < l.at) × (l.at ≤ l.end) × IsUpTo l.text l.fn.from l.levels l.at l.places

abbrev pub decreases-loop-at : goal.decreases-loop-at
decreases-loop-at l = l.end - l.at
