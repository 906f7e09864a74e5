use Rattle.std.proofs.Common.{[], codes, length}
use Rattle.lin_tables.specs.Values.{short_item_text}
use Rattle.lin_certificate_lines.specs.Series.{behind_failed, sides_text, times_text}
use Rattle.lin_certificate_lines.proofs.Chains.{puts9}
use Rattle.lin_certificate_lines.proofs.queues.put_taken_lines.Goals as goal

pub returns : goal.returns
returns c =
    let told = c.args.told.now in
    puts9 c.args.text.now.items
    (codes "why: ")
    (short_item_text told.names.now c.args.item)
    (codes " was taken out ")
    (times_text (length c.args.sides.now.done.items))
    (codes " and put in at most ")
    (times_text (length c.args.sides.now.may.items))
    (codes "\n")
    (sides_text told c.args.sides.now.done.items c.args.sides.now.may.items c.args.sides.now.failed.items)
    (behind_failed [] c.args.sides.now.failed.items)
    _ _ _ _ _ _ _ _ _
    c.in_ok-extend_from_slice.ensures.items
    c.in_ok-put_short_item.ensures
    c.in_ok-extend_from_slice-2.ensures.items
    (rw c.as_slice.ensures.value at c.in_ok-put_how_often.ensures)
    c.in_ok-extend_from_slice-3.ensures.items
    (rw c.as_slice-2.ensures.value at c.in_ok-put_how_often-2.ensures)
    c.in_ok-push.ensures.items
    c.in_ok-put_sides.ensures
    (rw c.as_slice-3.ensures.value at c.in_ok-put_behind_failed.ensures)
