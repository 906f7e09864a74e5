use Rattle.std.proofs.Common.{codes, length}
use Rattle.lin_tables.specs.Values.{short_item_text}
use Rattle.lin_certificate_lines.specs.Series.{times_text}
use Rattle.lin_certificate_lines.specs.Telling.{called_text}
use Rattle.lin_certificate_lines.proofs.Chains.{puts9}
use Rattle.lin_certificate_lines.proofs.surplus.put_earlier_line.Goals as goal

pub returns : goal.returns
returns c =
    let told = c.args.told.now in
    puts9 c.args.text.now.items
    (codes "  ")
    (short_item_text told.names.now c.args.item)
    (codes " was put in at most ")
    (times_text (length c.args.early.now))
    (codes " before that, and taken out ")
    (times_text (length c.args.outs.now))
    (codes " before ")
    (called_text told c.args.dequeue)
    (codes "\n")
    _ _ _ _ _ _ _ _ _
    c.in_ok-extend_from_slice.ensures.items
    c.in_ok-put_short_item.ensures
    c.in_ok-extend_from_slice-2.ensures.items
    c.in_ok-put_how_often.ensures
    c.in_ok-extend_from_slice-3.ensures.items
    c.in_ok-put_how_often-2.ensures
    c.in_ok-extend_from_slice-4.ensures.items
    c.in_ok-put_called.ensures
    c.in_ok-push.ensures.items
