use Rattle.std.proofs.Common.{codes}
use Rattle.lin_tables.specs.Values.{items_text as listed_text}
use Rattle.lin_certificate_lines.specs.Telling.{called_text}
use Rattle.lin_certificate_lines.proofs.Chains.{puts5}
use Rattle.lin_certificate_lines.proofs.counts.put_surplus_line.Goals as goal

pub returns : goal.returns
returns c =
    let told = c.args.told.now in
    puts5 c.args.text.now.items
    (codes "why: of ")
    (listed_text told.names.now c.args.items.now)
    (codes " more were put in before ")
    (called_text told c.args.dequeue)
    (codes " than can have been taken out before it returned\n")
    _ _ _ _ _
    c.in_ok-extend_from_slice.ensures.items
    c.in_ok-put_items.ensures
    c.in_ok-extend_from_slice-2.ensures.items
    c.in_ok-put_called.ensures
    c.in_ok-extend_from_slice-3.ensures.items
