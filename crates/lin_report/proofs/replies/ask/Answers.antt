use Rattle.std.proofs.lemmas.Result.{IfOk-weaker}
use Rattle.lin_report.proofs.replies.ask.Goals as goal

pub returns : goal.returns
returns c = IfOk-weaker c.answered.result _ _ (λ reply is names keyed. (c.ask.ensures.present, c.in_ok-verdict.verdict, c.in_ok-verdict.ensures.verdict, is.0, is.1)) c.answered.ensures
