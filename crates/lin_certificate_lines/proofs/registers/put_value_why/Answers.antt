use Rattle.std.proofs.Common.{codes}
use Rattle.lin_tables.specs.Values.{value_text}
use Rattle.lin_certificate_lines.proofs.Chains.{puts3}
use Rattle.lin_certificate_lines.proofs.registers.put_value_why.Goals as goal

pub returns : goal.returns
returns c =
    puts3 c.args.text.now.items
    (codes "why: a read of a set gives members, not ")
    (value_text c.args.told.now.names.now c.args.value)
    (codes "\n")
    _ _ _
    c.in_ok-extend_from_slice.ensures.items
    c.in_ok-put_value.ensures
    c.in_ok-push.ensures.items
