use Rattle.std.proofs.Common.{◌+◌, arith, subst}
use Rattle.std.proofs.lemmas.List.{take_all}
use Rattle.std.proofs.lemmas.Option.{none-some}
use Rattle.std.proofs.lemmas.List.Elements.{Contains-get_or}
use Rattle.lin_members.specs.Searching.{GivesOne, IsOffering}
use Rattle.lin_members.specs.lemmas.Offering.{IsOver, offering_none, offering_nothing, offering_more}
use Rattle.lin_frontier.specs.lemmas.Counting.{tried_none, tried_more}
use Rattle.lin_members.specs.lemmas.Pruned.{crashed_waits_not}
use Rattle.lin_members.proofs.offers.OfferList.offer_all.Goals as goal

pub offer_one-requires : goal.offer_one-requires
offer_one-requires g c = c.loop-operation.invariant.knows

pub loop-operation-init : goal.loop-operation-init
loop-operation-init g c = record { offered = offering_none _ _ _; knows = λ call is. absurd (none-some call is); tried = tried_none _ _ }

-- nobody waits for the reply of one that crashed
pub loop-operation-preserved-then-operation : goal.loop-operation-preserved-then-operation
loop-operation-preserved-then-operation g c =
    let same = c.as_slice-operation-items.ensures in
    let inside = rw same at c.loop-operation-test.true in
    let xs = c.args.shown.now.pending.now in
    let i = c.loop-operation.operation-index in
    let observes = g.O.SeqObject.observing c.args.shown.now.object.now in
    record {
      offered = offering_more (GivesOne (g.O.SeqObject.step c.args.shown.now.object.now) observes xs c.args.shown.now.config.now) c.args.shown.now.round c.args.self.now xs i _ c.loop-operation.self c.loop-operation.self inside
          (offering_nothing _ c.args.shown.now.round c.loop-operation.self (λ x gives. crashed_waits_not observes xs _ (Contains-get_or xs i _ inside) (rw same at c.if-operation.true) gives.1)) c.loop-operation.invariant.offered;
      knows = c.loop-operation.invariant.knows;
      tried = tried_more i 0 (i + 1) _ _ _ (omega arith) c.loop-operation.invariant.tried (tried_none 0 _);
    }

pub loop-operation-preserved : goal.loop-operation-preserved
loop-operation-preserved g c =
    let same = c.as_slice-operation-items.ensures in
    let xs = c.args.shown.now.pending.now in
    let i = c.loop-operation.operation-index in
    record {
      offered = offering_more (GivesOne (g.O.SeqObject.step c.args.shown.now.object.now) (g.O.SeqObject.observing c.args.shown.now.object.now) xs c.args.shown.now.config.now) c.args.shown.now.round c.args.self.now xs
          i _ c.loop-operation.self c.offer_one.new.self (rw same at c.loop-operation-test.true) (rw same at c.in_ok-offer_one.ensures.offered) c.loop-operation.invariant.offered;
      knows = c.in_ok-offer_one.ensures.knows;
      tried = tried_more i 1 (i + 1) _ _ _ (omega arith) c.loop-operation.invariant.tried c.offer_one.ensures.tried;
    }

pub returns-clause-offered : goal.returns-clause-offered
returns-clause-offered g c =
    subst (λ l. IsOffering (IsOver (GivesOne (g.O.SeqObject.step c.args.shown.now.object.now) (g.O.SeqObject.observing c.args.shown.now.object.now) c.args.shown.now.pending.now c.args.shown.now.config.now) l) c.args.shown.now.round c.args.self.now c.loop-operation.self)
    (take_all c.loop-operation.operation-index c.args.shown.now.pending.now (rw c.as_slice-operation-items.ensures at c.loop-operation-test.false)) c.loop-operation.invariant.offered
