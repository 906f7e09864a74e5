use Rattle.std.proofs.Common.{inl, inr, subst, sym, ◌∙◌}
use Rattle.std.proofs.lemmas.Result.{IfOk-weaker}
use Rattle.lin_events.specs.WellFormed.{IsWellFormed}
use Rattle.lin_objects.specs.Kinds.{functions_of}
use Rattle.lin_answers.specs.declared.answers.Answer.TheVariants.{No}
use Rattle.lin_answers.specs.declared.answers.Scope.TheVariants.{Object}
use Rattle.lin_answers.specs.Answers.{kinds_in}
use Rattle.lin_answers.specs.Edits.{Present}
use Rattle.lin_report.specs.Runs.{IsRefuteReply}
use Rattle.lin_report.proofs.Answered.{never_no}
use Rattle.lin_answers.specs.Answers.{verdict_of}
use Rattle.lin_report.proofs.refuting.refute.Goals as goal

pub checked-requires-clause-well_formed : goal.checked-requires-clause-well_formed
checked-requires-clause-well_formed c =
    let told = rw c.in-Ok-No.field-0-is at c.in-Ok-No.ensures.refuted in
    subst (λ (now : Present). IsWellFormed (functions_of (kinds_in now)) now.history) (sym c.refute.ensures.present) told.0.0

pub returns-in-Some : goal.returns-in-Some
returns-in-Some c = λ names keyed.
    let text = c.in-Some.reply.text.items in
    let status = c.in-Some.reply.status in
    let told = rw c.in-Some.is at c.in_ok-reply-in-Ok-No.ensures in (
      c.refute.ensures.present,
      subst (λ now. IsRefuteReply now c.args.key text status) c.refute.ensures.present told,
    )

pub returns-in_ok-text-in-Err-TooLarge : goal.returns-in_ok-text-in-Err-TooLarge
returns-in_ok-text-in-Err-TooLarge c = λ names keyed.
    let now = c.args.session.now.present in
    let large = rw c.in-Err-TooLarge.field-0-is at c.in-Err-TooLarge.ensures.unrefuted in
    let verdict = c.answers_are_verdicts.ensures now (Object c.args.key) (No large.0.0) large.0.1 in
    (c.refute.ensures.present, inr (inr ((large.0.0, verdict), large.1, c.plain.ensures.text ∙ c.in_ok-text-in-Err-TooLarge.ensures.items, c.plain.ensures.status)))

pub returns-in-Ok-Not : goal.returns-in-Ok-Not
returns-in-Ok-Not c =
    let now = c.args.session.now.present in
    let found = c.in-Ok-Not.answer in
    let told = rw c.in-Ok-Not.field-0-is at c.in-Ok-Not.ensures.refuted in
    let verdict = c.answers_are_verdicts.ensures now (Object c.args.key) found told.0 in
    IfOk-weaker c.answered.result _ _ (λ reply is names keyed. (c.refute.ensures.present, inr (inl (verdict_of found, verdict, never_no found told.1, is.0, is.1))))
    (rw c.verdict_of.ensures at c.answered.ensures)
