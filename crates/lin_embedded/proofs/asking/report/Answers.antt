use Rattle.std.proofs.Common.{ap, ◌∙◌}
use Rattle.lin_report.specs.Reports.{IsRightReport}
use Rattle.lin_embedded.proofs.Printed.{printed_of}
use Rattle.lin_embedded.proofs.asking.report.Goals as goal

pub returns : goal.returns
returns c = printed_of (IsRightReport c.args.settings c.args.format) c.args.history.now _ _ _ _ c.in_ok-text.text.items c.in_ok-status.status (ap (λ s. s.now) c.new-file.ensures.device)
    (ap (λ q. q.items) c.new-out.ensures.device ∙ c.new.ensures.items) c.in_ok-text.ensures c.in_ok-status.ensures.ran
