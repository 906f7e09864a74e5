use Rattle.std.proofs.Common.{◌≤◌, ◌-◌}
use Rattle.lin_edn.proofs.Clear.{IsClear}
use Rattle.lin_edn.proofs.scan.run_end.Given as goal

abbrev pub invariant-loop-at : goal.invariant-loop-at
invariant-loop-at l = (l.fn.from ≤ l.at) × (l.at ≤ l.end) × IsClear l.input l.fn.from l.at

abbrev pub decreases-loop-at : goal.decreases-loop-at
decreases-loop-at l = l.end - l.at
