use Rattle.std.proofs.Common.{codes}
use Rattle.lin_tables.specs.Values.{short_item_text}
use Rattle.lin_certificate_lines.specs.Lines.{in_before_text}
use Rattle.lin_certificate_lines.specs.Telling.{returned_text}
use Rattle.lin_certificate_lines.proofs.Chains.{puts9}
use Rattle.lin_certificate_lines.proofs.sets.put_lost.Goals as goal

pub returns : goal.returns
returns c =
    let told = c.args.told.now in
    puts9 c.args.text.now.items
    (codes "why: ")
    (short_item_text told.names.now c.args.item)
    (codes " was lost\n")
    (in_before_text told c.args.earlier c.args.item c.args.read)
    (codes "  ")
    (returned_text told c.args.read)
    (codes " without ")
    (short_item_text told.names.now c.args.item)
    (codes "\n")
    _ _ _ _ _ _ _ _ _
    c.in_ok-extend_from_slice.ensures.items
    c.in_ok-put_short_item.ensures
    c.in_ok-extend_from_slice-2.ensures.items
    c.in_ok-put_in_before.ensures
    c.in_ok-extend_from_slice-3.ensures.items
    c.in_ok-put_returned.ensures
    c.in_ok-extend_from_slice-4.ensures.items
    c.in_ok-put_short_item-2.ensures
    c.in_ok-push.ensures.items
