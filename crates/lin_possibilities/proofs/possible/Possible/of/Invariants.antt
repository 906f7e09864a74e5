use Rattle.std.proofs.Common.{◌≡◌, ◌≤◌, ◌+◌, ◌-◌}
use Rattle.lin_events.specs.Meters.{ticked}
use Rattle.lin_possibilities.specs.Running.{IsKnown, kind_of}
use Rattle.lin_possibilities.proofs.possible.Possible.of.Given as goal

abbrev pub invariant-loop-at : goal.invariant-loop-at
invariant-loop-at l = record {
  kind : kind_of l.run ≡ kind_of l.fn.run;
  known : IsKnown l.run l.fn.events l.at;
  counted : l.meter.steps ≡ ticked l.fn.meter.steps (l.at - l.from);
  least : l.fn.meter.steps ≤ l.meter.steps;
  most : l.meter.steps ≤ l.fn.meter.steps + (l.at - l.from);
  scans : l.meter.scans ≡ l.fn.meter.scans;
}
