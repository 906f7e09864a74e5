use Rattle.std.proofs.Common.{◌++◌, ◌∙◌, ap, codes, get_or, pos, refl}
use Rattle.lin_events.specs.declared.items.Item.TheVariants.{Int}
use Rattle.lin_texts.specs.Items.{item_text}
use Rattle.lin_texts.specs.lemmas.Putting.{all_pieces, one_more_piece}
use Rattle.lin_report.proofs.asked_keys.put_listed.Goals as goal

pub loop-other-preserved : goal.loop-other-preserved
loop-other-preserved c =
    let other = get_or c.in-Some.others.now c.loop-other.other-index (Int (pos 0)) in
    one_more_piece (item_text c.args.names.now) (codes ", ") c.in-Some.others.now c.loop-other.other-index other (Int (pos 0))
    c.put_item.new.line.items c.loop-other.text.items _ c.loop-other-test.true refl c.loop-other.invariant
    (c.in_ok-put_item-2.ensures.put ∙ ap (λ l. l ++ item_text c.args.names.now other) c.in_ok-extend_from_slice.ensures.items)

pub returns : goal.returns
returns c =
    all_pieces (item_text c.args.names.now) (codes ", ") c.args.keys.now c.in-Some.others.now c.loop-other.other-index c.in-Some.first.now
    c.args.text.now.items c.put_item.new.line.items c.loop-other.text.items c.in-Some.ensures.cases c.loop-other-test.false
    c.in_ok-put_item.ensures.put c.loop-other.invariant
