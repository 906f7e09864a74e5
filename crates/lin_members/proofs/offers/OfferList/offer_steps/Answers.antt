use Rattle.std.proofs.Common.{◌≡◌}
use Rattle.lin_members.specs.lemmas.Offering.{offering_none, offering_more, offering_told}
use Rattle.lin_members.proofs.offers.OfferList.offer_steps.Goals as goal

pub loop-step-init : goal.loop-step-init
loop-step-init g c = offering_none _ _ _

pub loop-step-preserved : goal.loop-step-preserved
loop-step-preserved g c =
    offering_more (λ a x. x ≡ (c.args.process, a.1)) c.args.round c.args.self.now c.args.steps.now c.loop-step.step-index _ c.loop-step.self c.offer.new.self c.loop-step-test.true (rw (c.in_ok-copy.ensures, c.step-item.is) at c.in_ok-offer.ensures) c.loop-step.invariant

pub returns : goal.returns
returns g c = offering_told c.args.process c.args.round c.args.self.now c.args.steps.now c.loop-step.step-index c.loop-step.self c.loop-step-test.false c.loop-step.invariant
