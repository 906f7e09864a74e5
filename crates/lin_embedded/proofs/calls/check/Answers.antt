use Rattle.std.proofs.Common.{subst}
use Rattle.lin_report.specs.Reports.{IsRightReport}
use Rattle.lin_embedded.specs.Calls.{IsPrintedOf, IsReportOf}
use Rattle.lin_embedded.specs.Options.{settings_of}
use Rattle.lin_embedded.proofs.Handed.{hands}
use Rattle.lin_embedded.proofs.calls.check.Goals as goal

pub returns-in-Ok-clause-hands : goal.returns-in-Ok-clause-hands
returns-in-Ok-clause-hands c =
    let text = c.in-Ok.found.text.items in
    let status = c.in-Ok.found.status in
    let set = subst (λ s. IsPrintedOf (IsRightReport s c.format_of.result) c.args.history.now text status) c.settings_of.ensures c.in-Ok.ensures in
    let right = subst (λ f. IsPrintedOf (IsRightReport (settings_of c.args.options) f) c.args.history.now text status) c.format_of.ensures set in
    hands (IsReportOf c.args.options c.args.history.now) text status right _ _ _ _ c.hand_back.result c.hand_back.ensures.hands
