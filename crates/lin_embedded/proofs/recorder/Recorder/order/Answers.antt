use Rattle.std.proofs.Common.{subst}
use Rattle.std.proofs.lemmas.Result.{IfOk-from_err, IfOk-weaker}
use Rattle.lin_answers.specs.Answers.{IsAnswer}
use Rattle.lin_answers.specs.Edits.{Present}
use Rattle.lin_answers.specs.declared.answers.Scope.TheVariants.{Whole}
use Rattle.lin_embedded.proofs.RecorderAsking.{ordered}
use Rattle.lin_embedded.proofs.Reading.{all_brought, read_asked, saying}
use Rattle.lin_embedded.proofs.recorder.Recorder.order.Goals as goal

pub returns-in_err-bring_in : goal.returns-in_err-bring_in
returns-in_err-bring_in c =
    ordered c.args.self.now c.bring_in.new.self c.from_residual.result (λ settings bytes read. (c.bring_in.ensures.reads settings bytes read, IfOk-from_err _ _ c.from_residual.ensures.0))

pub returns-in_err-answer : goal.returns-in_err-answer
returns-in_err-answer c =
    let mid = c.bring_in.new.self in
    ordered c.args.self.now (record mid { session = c.order.new.self }) c.from_residual-in_err-answer.result (λ settings bytes read. (
      read_asked settings bytes mid c.order.new.self (c.bring_in.ensures.reads settings bytes read) c.order.ensures.present,
      IfOk-from_err _ _ c.from_residual-in_err-answer.ensures.0,
    ))

pub returns : goal.returns
returns c =
    let mid = c.bring_in.new.self in
    ordered c.args.self.now (record mid { session = c.order.new.self }) c.with_order.result (λ settings bytes read.
    let now = c.bring_in.ensures.reads settings bytes read in (
      read_asked settings bytes mid c.order.new.self now c.order.ensures.present,
      IfOk-weaker c.with_order.result _ _ (λ told is. (
        saying settings mid bytes now,
        c.in_ok-answer.answer,
        subst (λ (p : Present). IsAnswer p Whole c.in_ok-answer.answer) (all_brought settings mid bytes now c.in_ok-bring_in.ensures.brought) c.in_ok-answer.ensures.answer,
        is.0,
        is.1,
      )) c.with_order.ensures,
    ))
