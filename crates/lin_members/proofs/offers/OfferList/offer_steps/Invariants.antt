use Rattle.std.proofs.Common.{◌≡◌, take}
use Rattle.lin_members.specs.Searching.{IsOffering}
use Rattle.lin_members.specs.lemmas.Offering.{IsOver}
use Rattle.lin_members.proofs.offers.OfferList.offer_steps.Given as goal

abbrev pub invariant-loop-step : goal.invariant-loop-step
invariant-loop-step g l = IsOffering (IsOver (λ a x. x ≡ (l.process, a.1)) (take l.step-index l.steps)) l.round l.fn.self l.self
