use Rattle.std.proofs.Common.{refl, subst}
use Rattle.lin_events.specs.declared.calls.Call.TheVariants.{Dequeue}
use Rattle.lin_order.specs.lemmas.OneEnd.{one_ok}
use Rattle.lin_certificates.specs.Numbers.{OfOne}
use Rattle.lin_certificates.specs.QueueConflicts.{Takes}
use Rattle.lin_certificates.proofs.operations.may_take_one.Goals as goal

pub returns-in-Some : goal.returns-in-Some
returns-in-Some c =
    let h = c.args.events.now in
    let at = c.args.at in
    let known = c.in-Some.reply.now in
    let end = c.in-Some.field-0-0 in (
      λ yes' until reply ok. subst (λ r. OfOne c.args.items.now (Takes Dequeue r)) (one_ok h at end until known reply c.in-Some.ensures ok).1 (c.takes_one.ensures.0 yes'),
      λ all. c.takes_one.ensures.1 (all end known c.in-Some.ensures),
    )

pub returns-in-None : goal.returns-in-None
returns-in-None c = (λ yes' end reply ok. absurd (c.in-None.ensures end reply ok), λ all. refl)
