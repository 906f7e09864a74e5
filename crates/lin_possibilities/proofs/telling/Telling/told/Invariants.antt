use Rattle.std.proofs.Common.{◌≡◌}
use Rattle.lin_possibilities.proofs.Growing.{IsTelling}
use Rattle.lin_possibilities.proofs.telling.Telling.told.Given as goal

abbrev pub invariant-loop-member : goal.invariant-loop-member
invariant-loop-member g l = record {
  telling : IsTelling (g.O.SeqObject.starts l.self.object.now) (g.O.SeqObject.step l.self.object.now) (g.O.SeqObject.observing l.self.object.now) l.self.pending.now l.observers.items l.members l.member-index l.fn.nodes l.nodes l.out.items;
  steps : l.meter.steps ≡ l.fn.meter.steps;
  scans : l.meter.scans ≡ l.fn.meter.scans;
}
