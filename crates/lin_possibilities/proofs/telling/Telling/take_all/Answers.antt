use Rattle.std.proofs.Common.{◌∙◌, sym}
use Rattle.lin_configurations.specs.lemmas.Visiting.{grown_grown}
use Rattle.lin_possibilities.proofs.Growing.{taking_start, taking_next, taking_end}
use Rattle.lin_possibilities.proofs.telling.Telling.take_all.Goals as goal

pub loop-offer-init : goal.loop-offer-init
loop-offer-init g c = taking_start _ _ _ _ _ _ _

pub take_one-requires : goal.take_one-requires
take_one-requires g c = let same = c.as_slice-offer-items.ensures.value ∙ c.in_ok-offers.ensures ∙ c.offers.ensures in (c.loop-offer.offer-index, (rw same at c.loop-offer-test.true), sym (rw same at c.offer-item.is))

pub loop-offer-preserved : goal.loop-offer-preserved
loop-offer-preserved g c =
    let same = c.as_slice-offer-items.ensures.value ∙ c.in_ok-offers.ensures ∙ c.offers.ensures in
    taking_next _ _ _ _ _ _ _ c.loop-offer.offer-index c.offer-item.result c.loop-offer.nodes c.take_one.new.nodes c.loop-offer.out.items c.take_one.new.out.items (rw same at c.loop-offer-test.true) (rw same at c.offer-item.is)
    c.take_one.ensures.grown c.in_ok-take_one.ensures.added c.in_ok-take_one.ensures.taken c.loop-offer.invariant

pub returns-in_err-take_one-clause-grown : goal.returns-in_err-take_one-clause-grown
returns-in_err-take_one-clause-grown g c = grown_grown _ _ _ c.loop-offer.invariant.nodes_grown c.take_one.ensures.grown

pub returns-clause-grown : goal.returns-clause-grown
returns-clause-grown g c = c.loop-offer.invariant.nodes_grown

pub returns-clause-added : goal.returns-clause-added
returns-clause-added g c = c.loop-offer.invariant.added

pub returns-clause-taken : goal.returns-clause-taken
returns-clause-taken g c =
    let same = c.as_slice-offer-items.ensures.value ∙ c.in_ok-offers.ensures ∙ c.offers.ensures in
    taking_end _ _ _ _ _ _ _ c.loop-offer.offer-index c.loop-offer.nodes c.loop-offer.out.items (rw same at c.loop-offer-test.false) c.loop-offer.invariant
