use Rattle.std.proofs.Common.{◌≡◌, ◌≤◌, ◌+◌}
use Rattle.lin_events.specs.Meters.{ticked}
use Rattle.lin_search.proofs.depth_first.tick_tries.Given as goal

abbrev pub invariant-loop : goal.invariant-loop
invariant-loop l = record {
  counted : l.meter ≡ record l.initial.meter { tries = ticked l.initial.meter.tries l.counter };
  risen : l.initial.meter.tries ≤ l.meter.tries;
  most : l.meter.tries ≤ l.initial.meter.tries + l.counter;
}
