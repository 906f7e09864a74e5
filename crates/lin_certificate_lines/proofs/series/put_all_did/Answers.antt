use Rattle.std.proofs.Common.{◌∙◌, ◌++◌, ap, codes, get_or, refl}
use Rattle.lin_texts.specs.lemmas.Putting.{all_pieces, one_more_piece}
use Rattle.lin_certificate_lines.specs.Telling.{did_text}
use Rattle.lin_certificate_lines.proofs.series.put_all_did.Goals as goal

pub loop-at-preserved : goal.loop-at-preserved
loop-at-preserved c =
    let at = get_or c.in-Some.others.now c.loop-at.at-index 0 in
    one_more_piece (did_text c.args.told.now c.args.verb) (codes ", ") c.in-Some.others.now c.loop-at.at-index at 0
    c.put_did.new.line.items c.loop-at.line.items _ c.loop-at-test.true refl c.loop-at.invariant
    (c.in_ok-put_did-2.ensures ∙ ap (λ l. l ++ did_text c.args.told.now c.args.verb at) c.in_ok-extend_from_slice.ensures.items)

pub returns : goal.returns
returns c =
    all_pieces (did_text c.args.told.now c.args.verb) (codes ", ") c.args.list.now c.in-Some.others.now c.loop-at.at-index c.in-Some.first.now
    c.args.line.now.items c.put_did.new.line.items c.loop-at.line.items c.in-Some.ensures.cases c.loop-at-test.false
    c.in_ok-put_did.ensures c.loop-at.invariant
