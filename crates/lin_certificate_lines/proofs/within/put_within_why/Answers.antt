use Rattle.std.proofs.Common.{codes, length}
use Rattle.lin_certificate_lines.specs.Lines.{past_text}
use Rattle.lin_certificate_lines.specs.Series.{times_text}
use Rattle.lin_certificate_lines.specs.Within.{span_text}
use Rattle.lin_certificate_lines.proofs.Chains.{puts10}
use Rattle.lin_certificate_lines.proofs.within.put_within_why.Goals as goal

pub returns : goal.returns
returns c =
    puts10 c.args.text.now.items
    (codes "why: ")
    (past_text c.args.words.0)
    (codes " ")
    (times_text (length c.args.done.now))
    (span_text c.args.told.now c.args.places.0 c.args.places.1)
    (codes ", and ")
    (past_text c.args.words.1)
    (codes " at most ")
    (times_text (length c.args.may.now))
    (codes "\n")
    _ _ _ _ _ _ _ _ _ _
    c.in_ok-extend_from_slice.ensures.items
    c.in_ok-put_past.ensures
    c.in_ok-push.ensures.items
    c.in_ok-put_how_often.ensures
    c.in_ok-put_span.ensures
    c.in_ok-extend_from_slice-2.ensures.items
    c.in_ok-put_past-2.ensures
    c.in_ok-extend_from_slice-3.ensures.items
    c.in_ok-put_how_often-2.ensures
    c.in_ok-push-2.ensures.items
