use Rattle.std.proofs.Common.{◌≡◌, vec_len}
use Rattle.lin_possibilities.proofs.Growing.{IsPlacing}
use Rattle.lin_possibilities.proofs.telling.Telling.place_all.Given as goal

abbrev pub invariant-loop-config : goal.invariant-loop-config
invariant-loop-config g l = record {
  placing : IsPlacing (g.O.SeqObject.starts l.self.object.now) (g.O.SeqObject.step l.self.object.now) (g.O.SeqObject.observing l.self.object.now) l.self.pending.now l.operations l.member l.rest.items l.fn.nodes l.nodes l.fn.out.items l.out.items;
  steps : l.meter.steps ≡ l.fn.meter.steps;
  scans : l.meter.scans ≡ l.fn.meter.scans;
}

abbrev pub decreases-loop-config : goal.decreases-loop-config
decreases-loop-config g l = vec_len l.rest
