use Rattle.std.proofs.Common.{◌∙◌, ap, sym, true≢false}
use Rattle.std.proofs.lemmas.Result.{IfOk-weaker}
use Rattle.lin_answers.specs.Answers.{verdict_of}
use Rattle.lin_report.specs.Reports.{is_ill_formed}
use Rattle.lin_report.proofs.drawing.picture_of.Goals as goal

pub returns : goal.returns
returns c =
    IfOk-weaker c.picture_with_places.result _ _
    (λ text drawn sound. drawn (λ at cause is. true≢false (sym (ap (λ answer. is_ill_formed (verdict_of answer)) is) ∙ sound)))
    c.picture_with_places.ensures.drawn
