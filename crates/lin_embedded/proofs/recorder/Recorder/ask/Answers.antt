use Rattle.std.proofs.Common.{subst}
use Rattle.std.proofs.lemmas.Result.{IfOk-from_err, IfOk-weaker}
use Rattle.lin_answers.specs.Answers.{IsVerdict}
use Rattle.lin_answers.specs.Edits.{Present}
use Rattle.lin_answers.specs.declared.answers.Scope.TheVariants.{Whole}
use Rattle.lin_embedded.proofs.RecorderAsking.{asked}
use Rattle.lin_embedded.proofs.Reading.{all_brought, read_asked, saying}
use Rattle.lin_embedded.proofs.recorder.Recorder.ask.Goals as goal

pub returns-in_err-bring_in : goal.returns-in_err-bring_in
returns-in_err-bring_in c =
    asked c.args.self.now c.bring_in.new.self c.from_residual.result (λ settings bytes read. (c.bring_in.ensures.reads settings bytes read, IfOk-from_err _ _ c.from_residual.ensures.0))

pub returns : goal.returns
returns c =
    let mid = c.bring_in.new.self in
    asked c.args.self.now (record mid { session = c.ask.new.self }) c.ask.result (λ settings bytes read.
    let now = c.bring_in.ensures.reads settings bytes read in (
      read_asked settings bytes mid c.ask.new.self now c.ask.ensures.present,
      IfOk-weaker c.ask.result _ _ (λ verdict is. (
        saying settings mid bytes now,
        subst (λ (p : Present). IsVerdict p Whole verdict) (all_brought settings mid bytes now c.in_ok-bring_in.ensures.brought) is,
      )) c.ask.ensures.verdict,
    ))
