use Rattle.std.proofs.Common.{codes}
use Rattle.lin_tables.specs.Values.{value_text}
use Rattle.lin_certificate_lines.specs.Lines.{crossed_back_text, held_text}
use Rattle.lin_certificate_lines.proofs.Chains.{puts6}
use Rattle.lin_certificate_lines.proofs.registers.put_crossed.Goals as goal

pub returns : goal.returns
returns c =
    let told = c.args.told.now in
    puts6 c.args.text.now.items
    (codes "why: crossed values ")
    (value_text told.names.now c.args.value)
    (codes " and ")
    (value_text told.names.now c.args.other)
    (crossed_back_text told c.args.value c.args.other c.args.back)
    (held_text told c.args.other c.args.value c.args.pair)
    _ _ _ _ _ _
    c.in_ok-extend_from_slice.ensures.items
    c.in_ok-put_value.ensures
    c.in_ok-extend_from_slice-2.ensures.items
    c.in_ok-put_value-2.ensures
    c.in_ok-put_crossed_back.ensures
    c.in_ok-put_held.ensures
