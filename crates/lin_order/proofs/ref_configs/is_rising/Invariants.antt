use Rattle.std.proofs.Common.{length, ◌-◌, ◌≤◌, take}
use Rattle.lin_order.specs.Configurations.{IsRising}
use Rattle.lin_order.proofs.ref_configs.is_rising.Given as goal

abbrev pub invariant-loop-i : goal.invariant-loop-i
invariant-loop-i l = record { some : 1 ≤ l.i; rising : IsRising (take l.i l.placed) }

abbrev pub decreases-loop-i : goal.decreases-loop-i
decreases-loop-i l = length l.placed - l.i
