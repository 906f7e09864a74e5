use Rattle.std.proofs.Common.{◌≡◌, take}
use Rattle.lin_report.specs.Failing.{first_failing}
use Rattle.lin_report.proofs.failing.first_failing.Given as goal

abbrev pub invariant-loop-one : goal.invariant-loop-one
invariant-loop-one l = l.first ≡ first_failing (take l.one-index l.found)
