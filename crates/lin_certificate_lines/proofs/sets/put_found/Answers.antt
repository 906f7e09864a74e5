use Rattle.std.proofs.Common.{codes}
use Rattle.lin_tables.specs.Values.{short_item_text}
use Rattle.lin_certificate_lines.specs.Telling.{returned_text}
use Rattle.lin_certificate_lines.proofs.Chains.{puts7}
use Rattle.lin_certificate_lines.proofs.sets.put_found.Goals as goal

pub returns : goal.returns
returns c =
    let told = c.args.told.now in
    puts7 c.args.text.now.items
    (codes "  ")
    (returned_text told c.args.read)
    (codes " with ")
    (short_item_text told.names.now c.args.item)
    (codes " and without ")
    (short_item_text told.names.now c.args.other)
    (codes "\n")
    _ _ _ _ _ _ _
    c.in_ok-extend_from_slice.ensures.items
    c.in_ok-put_returned.ensures
    c.in_ok-extend_from_slice-2.ensures.items
    c.in_ok-put_short_item.ensures
    c.in_ok-extend_from_slice-3.ensures.items
    c.in_ok-put_short_item-2.ensures
    c.in_ok-push.ensures.items
