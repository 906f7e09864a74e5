use Rattle.std.proofs.Common.{◌≡◌, ◌≤◌, ◌+◌, ◌-◌}
use Rattle.lin_events.specs.Meters.{ticked}
use Rattle.lin_engines.proofs.searching.rest_of.Given as goal

abbrev pub invariant-loop-at : goal.invariant-loop-at
invariant-loop-at l = record {
  behind : l.of ≤ l.at;
  counted : l.meter.steps ≡ ticked l.initial.meter.steps (l.at - l.of);
  least : l.initial.meter.steps ≤ l.meter.steps;
  most : l.meter.steps + l.of ≤ l.initial.meter.steps + l.at;
  scans : l.meter.scans ≡ l.initial.meter.scans;
}
