use Rattle.std.proofs.Common.{◌≡◌, ◌≤◌, ◌+◌}
use Rattle.lin_events.specs.Meters.{ticked}
use Rattle.lin_explain.proofs.passes.tick_steps.Given as goal

abbrev pub invariant-loop : goal.invariant-loop
invariant-loop l = record {
  counted : l.meter ≡ record l.initial.meter { steps = ticked l.initial.meter.steps l.counter };
  least : l.initial.meter.steps ≤ l.meter.steps;
  most : l.meter.steps ≤ l.initial.meter.steps + l.counter;
}
