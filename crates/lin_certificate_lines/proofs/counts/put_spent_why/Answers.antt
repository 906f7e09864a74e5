use Rattle.std.proofs.Common.{codes, length}
use Rattle.lin_tables.specs.Values.{value_text}
use Rattle.lin_certificate_lines.specs.Lines.{beside_text}
use Rattle.lin_certificate_lines.specs.Series.{times_text}
use Rattle.lin_certificate_lines.proofs.Chains.{puts9}
use Rattle.lin_certificate_lines.proofs.counts.put_spent_why.Goals as goal

pub returns : goal.returns
returns c =
    let names = c.args.told.now.names.now in
    let v = c.args.value in
    puts9 c.args.text.now.items
    (codes "why: a cas from ")
    (value_text names v)
    (codes " to another value was ok ")
    (times_text (length c.args.done.now))
    (codes ", and ")
    (value_text names v)
    (codes " was left at most ")
    (times_text (length c.args.may.now))
    (beside_text v)
    _ _ _ _ _ _ _ _ _
    c.in_ok-extend_from_slice.ensures.items
    c.in_ok-put_value.ensures
    c.in_ok-extend_from_slice-2.ensures.items
    c.in_ok-put_how_often.ensures
    c.in_ok-extend_from_slice-3.ensures.items
    c.in_ok-put_value-2.ensures
    c.in_ok-extend_from_slice-4.ensures.items
    c.in_ok-put_how_often-2.ensures
    c.in_ok-put_beside.ensures
