use Rattle.std.proofs.Common.{◌≡◌, ◌≤◌, take}
use Rattle.lin_report.specs.Explanations.{line_count}
use Rattle.lin_report.proofs.explaining.line_count.Given as goal

abbrev pub invariant-loop-at : goal.invariant-loop-at
invariant-loop-at l = (l.count ≤ l.at) × (l.count ≡ line_count (take l.at l.text))
