use Rattle.std.proofs.Common.{refl, subst}
use Rattle.lin_report.specs.Explanations.{IsRightExplanation}
use Rattle.lin_embedded.specs.Calls.{IsAbsent, IsAbsentFrom, IsExplanationOf, IsPrintedOf}
use Rattle.lin_embedded.proofs.Handed.{hands_explained}
use Rattle.lin_embedded.proofs.calls.explain.Goals as goal

pub returns-in-Ok-Some-clause-hands : goal.returns-in-Ok-Some-clause-hands
returns-in-Ok-Some-clause-hands c =
    let text = c.in-Ok-Some.found.text.items in
    let status = c.in-Ok-Some.found.status in
    let right = subst (λ s. IsPrintedOf (IsRightExplanation s c.in-Some.question) c.args.history.now text status) c.settings_of.ensures (rw c.in-Ok-Some.field-0-is at c.in-Ok-Some.ensures) in
    hands_explained (IsExplanationOf c.args.options c.args.key.now c.args.history.now) text status (c.in-Some.question, c.in-Some.ensures, right)
    (IsAbsent c.args.options c.args.key.now c.args.history.now) _ _ _ _ c.hand_back.result c.hand_back.ensures.hands

pub returns-in-Ok-None-clause-hands : goal.returns-in-Ok-None-clause-hands
returns-in-Ok-None-clause-hands c = (
  (c.in-Some.question, c.in-Some.ensures, subst (λ s. IsAbsentFrom s c.in-Some.question.key c.args.history.now) c.settings_of.ensures (rw c.in-Ok-None.field-0-is at c.in-Ok-None.ensures)),
  refl,
  refl,
)
