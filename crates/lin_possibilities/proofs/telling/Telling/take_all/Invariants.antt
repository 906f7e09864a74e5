use Rattle.lin_possibilities.proofs.Growing.{IsTaking}
use Rattle.lin_possibilities.proofs.telling.Telling.take_all.Given as goal

abbrev pub invariant-loop-offer : goal.invariant-loop-offer
invariant-loop-offer g l = IsTaking (g.O.SeqObject.starts l.self.object.now) (g.O.SeqObject.step l.self.object.now) (g.O.SeqObject.observing l.self.object.now) l.self.pending.now l.member l.offer-index l.fn.nodes l.nodes l.fn.out.items l.out.items
