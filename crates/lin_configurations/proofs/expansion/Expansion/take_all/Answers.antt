use Rattle.std.proofs.Common.{arith, sym, ◌∙◌}
use Rattle.std.proofs.lemmas.List.Elements.{All-weaker}
use Rattle.lin_members.specs.Listed.{IsTakenAt}
use Rattle.lin_frontier.specs.lemmas.Each.{all_more, all_end}
use Rattle.lin_configurations.proofs.Expanding.{extended_not, extended_both, extended_keeps, taken_still}
use Rattle.lin_configurations.specs.lemmas.Visiting.{grown_grown}
use Rattle.lin_configurations.proofs.expansion.Expansion.take_all.Goals as goal

pub loop-offer-init : goal.loop-offer-init
loop-offer-init g c = record {
  extended = extended_not _ _ _ _ _ _ _;
  taken = λ i d inside. absurd (omega arith);
}

pub take_one-requires-clause-there : goal.take_one-requires-clause-there
take_one-requires-clause-there g c = extended_keeps _ _ _ _ _ _ _ _ _ c.loop-offer.invariant.extended _ c.requires.there

pub take_one-requires-clause-offered : goal.take_one-requires-clause-offered
take_one-requires-clause-offered g c =
    let same = c.as_slice-offer-items.ensures.value ∙ c.in_ok-offers.ensures in (c.loop-offer.offer-index, (rw same at c.loop-offer-test.true), sym (rw same at c.offer-item.is))

pub returns-in_err-take_one-clause-grown : goal.returns-in_err-take_one-clause-grown
returns-in_err-take_one-clause-grown g c = grown_grown _ _ _ c.loop-offer.invariant.extended.nodes_grown c.take_one.ensures.grown

pub loop-offer-preserved : goal.loop-offer-preserved
loop-offer-preserved g c =
    let same = c.as_slice-offer-items.ensures.value ∙ c.in_ok-offers.ensures in
    let more = c.in_ok-take_one.ensures.extended in
    let P = IsTakenAt (g.O.SeqObject.observing c.args.self.now.object.now) c.args.self.now.pending.now c.take_one.new.found c.args.config.now in
    record {
      extended = extended_both _ _ _ _ _ _ _ _ _ _ _ c.loop-offer.invariant.extended more;
      taken = all_more c.args.self.now.offers.now c.loop-offer.offer-index c.offer-item.result (rw same at c.loop-offer-test.true) (rw same at c.offer-item.is) P
          (All-weaker (IsTakenAt (g.O.SeqObject.observing c.args.self.now.object.now) c.args.self.now.pending.now c.loop-offer.found c.args.config.now) P
          (λ x t. taken_still _ _ _ _ _ _ _ _ _ more c.args.config.now x t) _ c.loop-offer.invariant.taken) c.in_ok-take_one.ensures.taken;
    }

pub returns-clause-grown : goal.returns-clause-grown
returns-clause-grown g c = c.loop-offer.invariant.extended.nodes_grown

pub returns-clause-extended : goal.returns-clause-extended
returns-clause-extended g c = c.loop-offer.invariant.extended

pub returns-clause-taken : goal.returns-clause-taken
returns-clause-taken g c =
    let same = c.as_slice-offer-items.ensures.value ∙ c.in_ok-offers.ensures in
    all_end (IsTakenAt (g.O.SeqObject.observing c.args.self.now.object.now) c.args.self.now.pending.now c.loop-offer.found c.args.config.now) c.args.self.now.offers.now c.loop-offer.offer-index
    (rw same at c.loop-offer-test.false) c.loop-offer.invariant.taken
