use Rattle.std.proofs.Common.{codes, decimal}
use Rattle.lin_tables.specs.Values.{value_text}
use Rattle.lin_certificate_lines.proofs.Chains.{puts5}
use Rattle.lin_certificate_lines.proofs.registers.put_updates_count.Goals as goal

pub returns : goal.returns
returns c =
    puts5 c.args.text.now.items
    (codes "  and so were ")
    (decimal c.args.more)
    (codes " more updates that leave ")
    (value_text c.args.told.now.names.now c.args.value)
    (codes "\n")
    _ _ _ _ _
    c.in_ok-extend_from_slice.ensures.items
    c.in_ok-put_number.ensures
    c.in_ok-extend_from_slice-2.ensures.items
    c.in_ok-put_value.ensures
    c.in_ok-push.ensures.items
