use Rattle.std.proofs.Common.{◌∙◌, ◌++◌, ap, codes}
use Rattle.lin_texts.specs.lemmas.Putting.{all_pieces, one_more_piece}
use Rattle.lin_possibilities.specs.Words.{placed_text}
use Rattle.lin_possibilities.proofs.after.put_all.Goals as goal

pub loop-placed-preserved : goal.loop-placed-preserved
loop-placed-preserved c =
    let told = placed_text c.args.names.now c.args.events.now in
    let placed = c.placed-item.result in
    one_more_piece told (codes ", ") c.in-Some.others.now c.loop-placed.placed-index placed placed
    c.put_placed.new.text.items c.loop-placed.text.items _ c.loop-placed-test.true c.placed-item.is c.loop-placed.invariant
    (c.in_ok-put_placed-2.ensures ∙ ap (λ l. l ++ told placed) c.in_ok-extend_from_slice.ensures.items)

pub returns : goal.returns
returns c =
    all_pieces (placed_text c.args.names.now c.args.events.now) (codes ", ") c.args.order.now c.in-Some.others.now c.loop-placed.placed-index c.in-Some.first.now
    c.args.text.now.items c.put_placed.new.text.items c.loop-placed.text.items c.in-Some.ensures.cases c.loop-placed-test.false
    c.in_ok-put_placed.ensures c.loop-placed.invariant
