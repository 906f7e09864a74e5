use Rattle.std.proofs.Common.{Contains, subst, sym}
use Rattle.std.proofs.lemmas.List.Elements.{Contains-append_right}
use Rattle.lin_members.specs.Batches.{all_of}
use Rattle.lin_members.proofs.offers.OfferList.was_offered.Goals as goal

pub returns-in-Some : goal.returns-in-Some
returns-in-Some c _ =
    let round = c.in-Some.field-0 in (
      round,
      subst (λ l. Contains l (round, (c.args.process, c.args.reply.now))) (sym c.parts.ensures) (Contains-append_right (all_of c.parts.result.0.now) c.parts.result.1.now (round, (c.args.process, c.args.reply.now)) c.in-Some.ensures.some),
    )
