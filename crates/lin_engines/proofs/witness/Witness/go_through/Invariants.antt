use Rattle.std.proofs.Common.{◌≡◌, ◌≤◌, ◌+◌, ◌-◌, length}
use Rattle.lin_events.specs.Meters.{ticked}
use Rattle.lin_order.specs.Parts.{events_at}
use Rattle.lin_engines.specs.Witnesses.{IsWitness}
use Rattle.lin_engines.proofs.witness.Witness.go_through.Given as goal

abbrev pub invariant-loop-self : goal.invariant-loop-self
invariant-loop-self l = record {
  object : l.self.object ≡ l.fn.self.object;
  right : IsWitness l.self (events_at l.events l.picks);
  more : l.fn.self.of ≤ l.self.of;
  counted : ticked l.fn.meter.steps (l.self.of - l.fn.self.of) ≤ l.meter.steps;
  least : l.fn.meter.steps ≤ l.meter.steps;
  steps : l.meter.steps + l.fn.self.of ≤ l.fn.meter.steps + l.self.of;
  scans : l.meter.scans ≡ l.fn.meter.scans;
}

abbrev pub decreases-loop-self : goal.decreases-loop-self
decreases-loop-self l = length l.picks - l.self.of
