use Rattle.std.proofs.Common.{inl, inr, refl, subst}
use Rattle.lin_events.specs.declared.calls.Call.TheVariants.{Dequeue}
use Rattle.lin_order.specs.Orders.{IsCall}
use Rattle.lin_order.specs.lemmas.Lists.{no_since}
use Rattle.lin_order.specs.lemmas.OneEnd.{one_call}
use Rattle.lin_certificates.specs.Adding.{Adds}
use Rattle.lin_certificates.proofs.operations.concerns.Goals as goal

pub returns-in_default : goal.returns-in_default
returns-in_default c = no_since (λ is. c.in_default.ensures is.0 is.1)

pub returns-in-Dequeue : goal.returns-in-Dequeue
returns-in-Dequeue c =
    let h = c.args.events.now in
    let at = c.args.at in
    let it = subst (IsCall h at) c.in-Dequeue.is c.in-Some.ensures in (
      λ yes'. (Dequeue, it, inr (refl, c.may_take_one.ensures.0 yes')),
      λ is. c.may_take_one.ensures.1 (elim is.2 [
        | inl adds ↦ absurd (subst (λ x. Adds x adds.0) (one_call h at is.0 Dequeue is.1 it) adds.2)
        | inr take ↦ take.1
      ]),
    )
