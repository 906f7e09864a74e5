use Rattle.std.proofs.Common.{codes}
use Rattle.lin_tables.specs.Values.{short_item_text}
use Rattle.lin_certificate_lines.specs.Lines.{found_text, in_before_text}
use Rattle.lin_certificate_lines.proofs.Chains.{puts7}
use Rattle.lin_certificate_lines.proofs.sets.put_late.Goals as goal

pub returns : goal.returns
returns c =
    let told = c.args.told.now in
    puts7 c.args.text.now.items
    (codes "why: ")
    (short_item_text told.names.now c.args.item)
    (codes " was in before ")
    (short_item_text told.names.now c.args.other)
    (codes " was added\n")
    (in_before_text told c.args.before.0 c.args.item c.args.before.1)
    (found_text told c.args.read c.args.other c.args.item)
    _ _ _ _ _ _ _
    c.in_ok-extend_from_slice.ensures.items
    c.in_ok-put_short_item.ensures
    c.in_ok-extend_from_slice-2.ensures.items
    c.in_ok-put_short_item-2.ensures
    c.in_ok-extend_from_slice-3.ensures.items
    c.in_ok-put_in_before.ensures
    c.in_ok-put_found.ensures
