use Rattle.std.proofs.Common.{◌+◌, ◌*◌, ◌-◌, ◌≤◌, length}
use Rattle.lin_members.specs.Listed.{placing_tries}
use Rattle.lin_frontier.specs.Walks.{IsTriedAtMost}
use Rattle.lin_configurations.proofs.Expanding.{IsReaching}
use Rattle.lin_configurations.proofs.expansion.Expansion.reach.Given as goal

abbrev pub invariant-loop-member : goal.invariant-loop-member
invariant-loop-member g l = record {
  within : l.at ≤ length l.found;
  small : length l.found ≤ l.budget;
  reaching : IsReaching (g.O.SeqObject.starts l.self.object.now) (g.O.SeqObject.step l.self.object.now) (g.O.SeqObject.observing l.self.object.now) l.self.pending.now l.self.offers.now l.self.places l.fn.nodes l.nodes l.at l.fn.starts l.found;
  tried : IsTriedAtMost (l.at * placing_tries l.self.places l.self.pending.now) l.fn.meter l.meter;
}

abbrev pub decreases-loop-member : goal.decreases-loop-member
decreases-loop-member g l = l.budget + 1 - l.at
