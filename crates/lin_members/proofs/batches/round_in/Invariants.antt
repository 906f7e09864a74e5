use Rattle.std.proofs.Common.{◌≡◌, All, take}
use Rattle.lin_members.proofs.batches.round_in.Given as goal

abbrev pub invariant-loop-offer : goal.invariant-loop-offer
invariant-loop-offer l = All (λ o. o.1 ≡ (l.process, l.reply) → ⊥) (take l.offer-index l.offers)
