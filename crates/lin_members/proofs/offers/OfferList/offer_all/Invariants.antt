use Rattle.std.proofs.Common.{take}
use Rattle.lin_members.specs.Searching.{GivesOne, IsOffering}
use Rattle.lin_members.specs.inner.Searching.{Knows}
use Rattle.lin_frontier.specs.Walks.{IsTriedAtMost}
use Rattle.lin_members.specs.lemmas.Offering.{IsOver}
use Rattle.lin_members.proofs.offers.OfferList.offer_all.Given as goal

abbrev pub invariant-loop-operation : goal.invariant-loop-operation
invariant-loop-operation g l = record {
  offered : IsOffering (IsOver (GivesOne (g.O.SeqObject.step l.shown.object.now) (g.O.SeqObject.observing l.shown.object.now) l.shown.pending.now l.shown.config.now) (take l.operation-index l.shown.pending.now)) l.shown.round l.fn.self l.self;
  knows : Knows (g.O.SeqObject.step l.shown.object.now) l.shown.config.now.0 l.known l.steps.items;
  tried : IsTriedAtMost l.operation-index l.fn.meter l.meter;
}
