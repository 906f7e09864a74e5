use Rattle.std.proofs.Common.{ap, subst, sym, ◌∙◌}
use Rattle.lin_report.specs.Explanations.{IsRightExplanation}
use Rattle.lin_embedded.proofs.Printed.{printed_of}
use Rattle.lin_embedded.proofs.asking.explanation.Goals as goal

pub returns-in-Answered : goal.returns-in-Answered
returns-in-Answered c = printed_of (IsRightExplanation c.args.settings c.args.question) c.args.history.now _ _ _ _ c.in_ok-text-in-Answered.text.items c.in-Answered.status (ap (λ s. s.now) c.new-file.ensures.device)
    (ap (λ q. q.items) c.new-out.ensures.device ∙ c.new.ensures.items) c.in_ok-text-in-Answered.ensures (rw c.in-Answered.is at c.in_ok-status.ensures.ran)
