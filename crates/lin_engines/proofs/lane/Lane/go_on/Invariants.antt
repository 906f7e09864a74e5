use Rattle.std.proofs.Common.{length, ◌-◌, ◌≡◌, ◌≤◌, ◌<◌, ◌+◌, ℕ}
use Rattle.lin_order.specs.Parts.{events_at}
use Rattle.lin_engines.specs.Lanes.{IsFor, IsLane, IsUnder}
use Rattle.lin_engines.proofs.lane.Lane.go_on.Given as goal

abbrev pub invariant-loop-self : goal.invariant-loop-self
invariant-loop-self g l = record {
  kind : g.E.Engine.kind l.self.engine ≡ g.E.Engine.kind l.initial.self.engine;
  right : IsLane g.E.Engine.sees g.E.Engine.kind g.E.Engine.reach g.E.Engine.says l.self (events_at l.events l.picks);
  retried : IsFor l.budget l.initial.self → IsFor l.budget l.self;
  under : (most : ℕ) → l.budget < most → IsUnder most l.initial.self → IsUnder most l.self;
  no_less : l.initial.self.mark ≤ l.self.mark;
  spent : l.meter.steps + (length l.picks - l.self.mark) ≤ l.initial.meter.steps + (length l.picks - l.initial.self.mark);
  scans : l.meter.scans ≡ l.initial.meter.scans;
}

abbrev pub decreases-loop-self : goal.decreases-loop-self
decreases-loop-self g l = length l.picks - l.self.mark
