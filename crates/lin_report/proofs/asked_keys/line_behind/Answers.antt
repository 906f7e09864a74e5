use Rattle.std.proofs.Common.{sym, subst}
use Rattle.lin_report.specs.Explanations.{IsToldBehind}
use Rattle.lin_report.proofs.AskedKeys.{told_behind}
use Rattle.lin_report.proofs.asked_keys.line_behind.Goals as goal

pub returns : goal.returns
returns c =
    let names = c.args.names.now in
    let history = c.args.session.now.present.history in
    let line = c.in_ok-line_for.field-0.items in
    subst (λ key. IsToldBehind names history key line) (sym c.in-Some.is)
    (told_behind names history c.in-Some.key c.in_ok-keys.keys.items line c.in_ok-keys.ensures (rw c.deref.ensures.value at c.in_ok-line_for.ensures))
