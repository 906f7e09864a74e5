use Rattle.std.proofs.Common.{◌≡◌, ℕ, refl, sym, ◌∙◌, true, true≢false}
use Rattle.lin_events.specs.declared.calls.Reply.{Reply}
use Rattle.lin_frontier.specs.lemmas.Each.{all_more, not_all, all_end}
use Rattle.lin_members.specs.Members.{IsOnOffer}
use Rattle.lin_frontier.specs.Placing.{IsAbsent}
use Rattle.lin_members.specs.Searching.{is_watching}
use Rattle.lin_members.proofs.domination.has_all.Goals as goal

pub returns-then-not-has_offer_at : goal.returns-then-not-has_offer_at
returns-then-not-has_offer_at g c = (
  λ t. absurd (true≢false (sym t)),
  λ all. absurd (not_all c.args.offers.now c.loop-offer.offer-index c.offer-item.result c.loop-offer-test.true c.offer-item.is (λ (x : ℕ × (ℕ × Reply)). is_watching (g.O.SeqObject.observing c.args.object.now) c.args.pending.now x.1.0 ≡ true → IsAbsent x.1.0 c.args.member.now.0.placed → IsOnOffer c.args.member.now.0 x.1) (λ holds. true≢false (sym (c.has_offer_at.ensures.1 holds) ∙ c.if-not-has_offer_at.true)) all),
)

pub loop-offer-preserved : goal.loop-offer-preserved
loop-offer-preserved g c =
    all_more c.args.offers.now c.loop-offer.offer-index c.offer-item.result c.loop-offer-test.true c.offer-item.is (λ (x : ℕ × (ℕ × Reply)). is_watching (g.O.SeqObject.observing c.args.object.now) c.args.pending.now x.1.0 ≡ true → IsAbsent x.1.0 c.args.member.now.0.placed → IsOnOffer c.args.member.now.0 x.1) c.loop-offer.invariant (c.has_offer_at.ensures.0 c.if-not-has_offer_at.false)

pub returns : goal.returns
returns g c = (
  λ _. all_end (λ (x : ℕ × (ℕ × Reply)). is_watching (g.O.SeqObject.observing c.args.object.now) c.args.pending.now x.1.0 ≡ true → IsAbsent x.1.0 c.args.member.now.0.placed → IsOnOffer c.args.member.now.0 x.1) c.args.offers.now c.loop-offer.offer-index c.loop-offer-test.false c.loop-offer.invariant,
  λ _. refl,
)
