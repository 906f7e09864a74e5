use Rattle.std.proofs.Common.{ℕ, ◌≡◌, true, sym, ◌∙◌, true≢false}
use Rattle.lin_events.specs.declared.calls.Reply.{Reply}
use Rattle.lin_members.specs.Members.{IsOnOffer}
use Rattle.lin_frontier.specs.Placing.{IsAbsent}
use Rattle.lin_members.specs.Searching.{is_watching}
use Rattle.lin_frontier.specs.lemmas.Each.{not_all}
use Rattle.lin_members.proofs.domination.lacks_one_of.Goals as goal

pub returns-then-not-has_offer : goal.returns-then-not-has_offer
returns-then-not-has_offer g c t all =
    not_all c.args.offers.now c.loop-offer.offer-index c.offer-item.result c.loop-offer-test.true c.offer-item.is
    (λ (x : ℕ × (ℕ × Reply)). is_watching (g.O.SeqObject.observing c.args.object.now) c.args.pending.now x.1.0 ≡ true → IsAbsent x.1.0 c.args.member.now.0.placed → IsOnOffer c.args.member.now.0 x.1)
    (λ holds. true≢false (sym (c.has_offer.ensures.1 holds) ∙ c.if-not-has_offer.true)) all
