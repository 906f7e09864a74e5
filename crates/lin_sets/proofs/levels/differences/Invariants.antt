use Rattle.std.proofs.Common.{◌+◌, ◌-◌, length}
use Rattle.lin_sets.specs.Levels.{IsPassed}
use Rattle.lin_sets.proofs.levels.differences.Given as goal

abbrev pub invariant-loop-pass : goal.invariant-loop-pass
invariant-loop-pass l = IsPassed l.items l.others l.pass

abbrev pub decreases-loop-pass : goal.decreases-loop-pass
decreases-loop-pass l = length l.items + length l.others - (l.pass.at + l.pass.to)
