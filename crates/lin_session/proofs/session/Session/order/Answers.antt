use Rattle.std.proofs.Common.{sym, subst}
use Rattle.lin_answers.specs.declared.answers.Answer.TheVariants.{Yes}
use Rattle.lin_answers.specs.declared.answers.Verdict.TheVariants as verdict
use Rattle.lin_answers.specs.Answers.{IsAnswer, IsVerdict}
use Rattle.lin_answers.specs.Edits.{Present}
use Rattle.lin_session.specs.Marks.{IsMarkedAs}
use Rattle.lin_session.specs.Known.{mark_of}
use Rattle.lin_session.proofs.session.Session.order.Goals as goal

pub read_order-requires-clause-yes : goal.read_order-requires-clause-yes
read_order-requires-clause-yes c =
    subst (λ (now : Present). IsVerdict now c.args.scope verdict.Yes) (sym c.ask.ensures.present) (subst (IsVerdict c.args.self.now.present c.args.scope) c.in-Yes.is c.in_ok-ask.ensures.verdict)

pub read_order-requires-clause-told : goal.read_order-requires-clause-told
read_order-requires-clause-told c =
    subst (λ (now : Present). IsMarkedAs now.history c.args.scope (mark_of c.ask.new.self.marks) verdict.Yes) (sym c.ask.ensures.present)
    (subst (IsMarkedAs c.args.self.now.present.history c.args.scope (mark_of c.ask.new.self.marks)) c.in-Yes.is c.in_ok-ask.ensures.told)

pub returns-in_ok-order-in-Yes-clause-answer : goal.returns-in_ok-order-in-Yes-clause-answer
returns-in_ok-order-in-Yes-clause-answer c = subst (λ (now : Present). IsAnswer now c.args.scope (Yes c.in_ok-order-in-Yes.order)) c.ask.ensures.present c.in_ok-order-in-Yes.ensures

pub returns-in_err-order-in-Yes-clause-ready : goal.returns-in_err-order-in-Yes-clause-ready
returns-in_err-order-in-Yes-clause-ready c = λ none nothing without.
    absurd (without (subst (IsVerdict c.args.self.now.present c.args.scope) c.in-Yes.is c.in_ok-ask.ensures.verdict))
