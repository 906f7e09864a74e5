use Rattle.std.proofs.Common.{◌≤◌}
use Rattle.lin_configurations.specs.inner.Branches.{power}
use Rattle.lin_configurations.proofs.branches.is_power_above.Given as goal

abbrev pub invariant-loop : goal.invariant-loop
invariant-loop l = l.most ≤ power l.base l.counter
