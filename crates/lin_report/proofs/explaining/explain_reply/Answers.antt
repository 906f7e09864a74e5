use Rattle.std.proofs.Common.{◌∙◌, ap}
use Rattle.lin_explain.specs.Explained.{scope_of}
use Rattle.lin_report.proofs.Questions.{scope_back}
use Rattle.lin_report.proofs.explaining.explain_reply.Goals as goal

pub explanation-requires : goal.explanation-requires
explanation-requires c = ap scope_of c.key_of.ensures ∙ scope_back c.args.scope
