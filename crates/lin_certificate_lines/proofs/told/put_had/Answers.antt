use Rattle.std.proofs.Common.{codes, slice_get}
use Rattle.lin_certificate_lines.specs.Telling.{call_in, end_spot, is_read, item_behind, op_text}
use Rattle.lin_certificate_lines.proofs.Chains.{puts4}
use Rattle.lin_certificate_lines.proofs.told.put_had.Goals as goal

pub returns : goal.returns
returns c =
    let told = c.args.told.now in
    puts4 c.args.line.now.items
    (op_text told c.args.at)
    (item_behind told (is_read (call_in (slice_get told.events.now c.args.at))) c.args.item)
    (codes " returned at ")
    (end_spot told c.args.at)
    _ _ _ _
    c.in_ok-put_op.ensures
    (rw c.is_read-reads.ensures at c.in_ok-put_found.ensures)
    c.in_ok-extend_from_slice.ensures.items
    c.in_ok-put_end_spot.ensures
