use Rattle.std.proofs.Common.{All, take}
use Rattle.lin_members.specs.Listed.{IsExtended, IsTakenAt}
use Rattle.lin_configurations.proofs.expansion.Expansion.take_all.Given as goal

abbrev pub invariant-loop-offer : goal.invariant-loop-offer
invariant-loop-offer g l = record {
  extended : IsExtended (g.O.SeqObject.starts l.self.object.now) (g.O.SeqObject.step l.self.object.now) (g.O.SeqObject.observing l.self.object.now) l.self.pending.now l.self.offers.now l.fn.nodes l.nodes l.fn.found l.found;
  taken : All (IsTakenAt (g.O.SeqObject.observing l.self.object.now) l.self.pending.now l.found l.config) (take l.offer-index l.self.offers.now);
}
