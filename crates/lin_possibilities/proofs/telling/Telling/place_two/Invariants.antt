use Rattle.std.proofs.Common.{◌≡◌, vec_len}
use Rattle.lin_possibilities.proofs.Growing.{IsGoingOn}
use Rattle.lin_possibilities.proofs.telling.Telling.place_two.Given as goal

abbrev pub invariant-loop-one : goal.invariant-loop-one
invariant-loop-one g l = record {
  going : IsGoingOn (g.O.SeqObject.starts l.self.object.now) (g.O.SeqObject.step l.self.object.now) (g.O.SeqObject.observing l.self.object.now) l.self.pending.now l.observers l.member l.initial.next.items l.next.items l.fn.nodes l.nodes
      l.fn.out.items l.out.items;
  steps : l.meter.steps ≡ l.fn.meter.steps;
  scans : l.meter.scans ≡ l.fn.meter.scans;
}

abbrev pub decreases-loop-one : goal.decreases-loop-one
decreases-loop-one g l = vec_len l.next
