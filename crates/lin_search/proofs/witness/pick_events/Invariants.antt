use Rattle.std.proofs.Common.{◌≡◌, ◌≤◌, ◌+◌, take}
use Rattle.lin_events.specs.Meters.{ticked}
use Rattle.lin_order.specs.Parts.{events_at}
use Rattle.lin_search.proofs.witness.pick_events.Given as goal

abbrev pub invariant-loop-pick : goal.invariant-loop-pick
invariant-loop-pick l = record {
  own : l.own.items ≡ events_at l.events (take l.pick-index l.picks);
  counted : l.meter ≡ record l.initial.meter { steps = ticked l.initial.meter.steps l.pick-index };
  most : l.meter.steps ≤ l.initial.meter.steps + l.pick-index;
}
