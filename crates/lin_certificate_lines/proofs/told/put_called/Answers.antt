use Rattle.std.proofs.Common.{codes}
use Rattle.lin_certificate_lines.specs.Telling.{op_text, spot_at}
use Rattle.lin_certificate_lines.proofs.Chains.{puts3}
use Rattle.lin_certificate_lines.proofs.told.put_called.Goals as goal

pub returns : goal.returns
returns c =
    let told = c.args.told.now in
    puts3 c.args.line.now.items
    (op_text told c.args.at)
    (codes " was called at ")
    (spot_at told c.args.at)
    _ _ _
    c.in_ok-put_op.ensures
    c.in_ok-extend_from_slice.ensures.items
    c.in_ok-put_spot_at.ensures
