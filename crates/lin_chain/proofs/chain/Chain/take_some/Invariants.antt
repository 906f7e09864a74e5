use Rattle.std.proofs.Common.{length, ◌-◌, ◌≡◌, ◌≤◌, ◌+◌}
use Rattle.lin_order.specs.Parts.{events_at}
use Rattle.lin_chain.specs.Chains.{IsKept}
use Rattle.lin_chain.proofs.chain.Chain.take_some.Given as goal

abbrev pub invariant-loop-self : goal.invariant-loop-self
invariant-loop-self l = record {
  kept : IsKept l.budget (events_at l.events l.picks) l.initial.self l.self;
  others : l.self ≡ record l.initial.self { frontier = l.self.frontier };
  spent : l.meter.steps + (length l.picks - l.self.frontier.mark) ≤ l.initial.meter.steps + (length l.picks - l.initial.self.frontier.mark);
  scans : l.meter.scans ≡ l.initial.meter.scans;
}

abbrev pub decreases-loop-self : goal.decreases-loop-self
decreases-loop-self l = length l.picks - l.self.frontier.mark
