use Rattle.std.proofs.Common.{codes}
use Rattle.lin_certificate_lines.specs.Lines.{found_text}
use Rattle.lin_certificate_lines.proofs.Chains.{puts3}
use Rattle.lin_certificate_lines.proofs.sets.put_split.Goals as goal

pub returns : goal.returns
returns c =
    let told = c.args.told.now in
    puts3 c.args.text.now.items
    (codes "why: two reads exclude each other\n")
    (found_text told c.args.reads.0 c.args.item c.args.other)
    (found_text told c.args.reads.1 c.args.other c.args.item)
    _ _ _
    c.in_ok-extend_from_slice.ensures.items
    c.in_ok-put_found.ensures
    c.in_ok-put_found-2.ensures
