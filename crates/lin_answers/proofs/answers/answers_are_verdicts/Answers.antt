use Rattle.lin_answers.specs.declared.answers.Answer.TheVariants.{IllFormed, Yes, No, Undecided}
use Rattle.lin_answers.specs.declared.answers.Scope.TheVariants.{Object, Whole}
use Rattle.lin_answers.specs.Answers.{AnswersAreVerdicts}
use Rattle.lin_answers.proofs.answers.answers_are_verdicts.Goals as goal

without_order : AnswersAreVerdicts
without_order now scope (IllFormed at cause) is = is
without_order now (Object key) (Yes order) is = (is.0, (order.items, is.1))
without_order now Whole (Yes order) is = (is.0, (order.items, is.1))
without_order now (Object key) (No n) is = is
without_order now Whole (No n) is = is
without_order now (Object key) (Undecided at) is = is
without_order now Whole (Undecided at) is = is

pub returns : goal.returns
returns c = without_order
