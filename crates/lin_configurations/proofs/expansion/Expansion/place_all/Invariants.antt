use Rattle.std.proofs.Common.{vec_len, length}
use Rattle.lin_frontier.specs.Walks.{IsTriedAtMost}
use Rattle.lin_configurations.proofs.Expanding.{IsPlacingIn}
use Rattle.lin_configurations.proofs.expansion.Expansion.place_all.Given as goal

abbrev pub invariant-loop-next : goal.invariant-loop-next
invariant-loop-next g l = record {
  placing : IsPlacingIn (g.O.SeqObject.starts l.self.object.now) (g.O.SeqObject.step l.self.object.now) (g.O.SeqObject.observing l.self.object.now) l.self.pending.now l.self.offers.now l.config l.out.items l.fn.nodes l.nodes l.fn.found l.found;
  tried : IsTriedAtMost (length l.self.pending.now) l.fn.meter l.meter;
}

abbrev pub decreases-loop-next : goal.decreases-loop-next
decreases-loop-next g l = vec_len l.out
