use Rattle.std.proofs.Common.{subst}
use Rattle.lin_order.specs.lemmas.Lists.{no_since}
use Rattle.lin_order.specs.lemmas.OneEnd.{one_call, one_ok}
use Rattle.lin_certificates.specs.Words.{IsOfAnswers}
use Rattle.lin_certificates.proofs.operations.is_answered_so.Goals as goal

pub returns-in_default : goal.returns-in_default
returns-in_default c = no_since (λ is. c.in_default.ensures is.0 is.3)

pub returns-in-Some-ok_end : goal.returns-in-Some-ok_end
returns-in-Some-ok_end c =
    let h = c.args.events.now in
    let at = c.args.at in
    let call = c.in-Some.call.now in
    let end = c.in-Some-ok_end.field-0-0 in
    let reply = c.in-Some-ok_end.reply.now in
    let answers = c.args.answers.now in (
      λ yes'. (call, end, reply, c.in-Some.ensures, c.in-Some-ok_end.ensures, c.is_of_answers.ensures.0 yes'),
      λ is. c.is_of_answers.ensures.1
          (subst (λ r. IsOfAnswers answers call r) (one_ok h at is.1 end is.2 reply is.4 c.in-Some-ok_end.ensures).1
          (subst (λ x. IsOfAnswers answers x is.2) (one_call h at is.0 call is.3 c.in-Some.ensures) is.5)),
    )

pub returns-in-None : goal.returns-in-None
returns-in-None c = no_since (λ is. c.in-None.ensures is.1 is.2 is.4)
