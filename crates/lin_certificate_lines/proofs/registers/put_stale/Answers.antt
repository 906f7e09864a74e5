use Rattle.std.proofs.Common.{codes}
use Rattle.lin_tables.specs.Values.{value_text}
use Rattle.lin_certificate_lines.specs.Lines.{overwritten_why}
use Rattle.lin_certificate_lines.specs.Telling.{returned_text}
use Rattle.lin_certificate_lines.proofs.Chains.{puts6}
use Rattle.lin_certificate_lines.proofs.registers.put_stale.Goals as goal

pub returns : goal.returns
returns c =
    let told = c.args.told.now in
    puts6 c.args.text.now.items
    (overwritten_why told c.args.operation c.args.value)
    (codes "  ")
    (value_text told.names.now c.args.held)
    (codes " was held: ")
    (returned_text told c.args.over)
    (codes "\n")
    _ _ _ _ _ _
    c.in_ok-put_overwritten_why.ensures
    c.in_ok-extend_from_slice.ensures.items
    c.in_ok-put_value.ensures
    c.in_ok-extend_from_slice-2.ensures.items
    c.in_ok-put_returned.ensures
    c.in_ok-push.ensures.items
