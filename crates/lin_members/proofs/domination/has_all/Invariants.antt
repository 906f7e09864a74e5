use Rattle.std.proofs.Common.{◌≡◌, true, All, take}
use Rattle.lin_members.specs.Members.{IsOnOffer}
use Rattle.lin_frontier.specs.Placing.{IsAbsent}
use Rattle.lin_members.specs.Searching.{is_watching}
use Rattle.lin_members.proofs.domination.has_all.Given as goal

abbrev pub invariant-loop-offer : goal.invariant-loop-offer
invariant-loop-offer g l = All (λ x. is_watching (g.O.SeqObject.observing l.object) l.pending x.1.0 ≡ true → IsAbsent x.1.0 l.member.0.placed → IsOnOffer l.member.0 x.1) (take l.offer-index l.offers)
