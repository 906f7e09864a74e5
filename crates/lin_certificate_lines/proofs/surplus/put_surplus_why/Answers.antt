use Rattle.std.proofs.Common.{codes, decimal, length}
use Rattle.lin_certificate_lines.specs.Surplus.{items_text}
use Rattle.lin_certificate_lines.specs.Telling.{called_text}
use Rattle.lin_certificate_lines.proofs.Chains.{puts7}
use Rattle.lin_certificate_lines.proofs.surplus.put_surplus_why.Goals as goal

pub returns : goal.returns
returns c =
    puts7 c.args.text.now.items
    (codes "why: ")
    (items_text (length c.args.surplus.now.puts.items))
    (codes " put in before ")
    (called_text c.args.told.now c.args.place)
    (codes ", and at most ")
    (decimal (length c.args.surplus.now.takes.items))
    (codes " can have been taken out before ")
    _ _ _ _ _ _ _
    c.in_ok-extend_from_slice.ensures.items
    (rw c.as_slice.ensures.value at c.in_ok-put_items_of.ensures)
    c.in_ok-extend_from_slice-2.ensures.items
    c.in_ok-put_called.ensures
    c.in_ok-extend_from_slice-3.ensures.items
    (rw c.as_slice-2.ensures.value at c.in_ok-put_count_of.ensures)
    c.in_ok-extend_from_slice-4.ensures.items
