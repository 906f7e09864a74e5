use Rattle.std.proofs.Common.{codes}
use Rattle.lin_tables.specs.Values.{short_item_text}
use Rattle.lin_certificate_lines.specs.Lines.{turn_text}
use Rattle.lin_certificate_lines.specs.Telling.{returned_text}
use Rattle.lin_certificate_lines.proofs.Chains.{puts9}
use Rattle.lin_certificate_lines.proofs.queues.put_inside.Goals as goal

pub returns : goal.returns
returns c =
    let told = c.args.told.now in
    puts9 c.args.text.now.items
    (codes "why: ")
    (short_item_text told.names.now c.args.item)
    (codes " was in the queue\n")
    (turn_text told (codes "  put in: ") c.args.enqueue c.args.dequeue)
    (codes "  taken out: nothing that may have taken ")
    (short_item_text told.names.now c.args.item)
    (codes " out was called before ")
    (returned_text told c.args.dequeue)
    (codes "\n")
    _ _ _ _ _ _ _ _ _
    c.in_ok-extend_from_slice.ensures.items
    c.in_ok-put_short_item.ensures
    c.in_ok-extend_from_slice-2.ensures.items
    c.in_ok-put_turn.ensures
    c.in_ok-extend_from_slice-3.ensures.items
    c.in_ok-put_short_item-2.ensures
    c.in_ok-extend_from_slice-4.ensures.items
    c.in_ok-put_returned.ensures
    c.in_ok-push.ensures.items
