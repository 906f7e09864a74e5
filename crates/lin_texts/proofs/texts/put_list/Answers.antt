use Rattle.std.proofs.Common.{◌∙◌, ◌++◌, ap, codes, get_or, pos, refl}
use Rattle.lin_events.specs.declared.items.Item.TheVariants.{Int}
use Rattle.lin_texts.specs.Items.{item_text}
use Rattle.lin_texts.specs.lemmas.Putting.{all_pieces, front_of, front_trans, on_err, one_more_piece}
use Rattle.lin_texts.proofs.texts.put_list.Goals as goal

pub returns-in_err-push-clause-refused : goal.returns-in_err-push-clause-refused
returns-in_err-push-clause-refused c = on_err _ _ (front_trans _ _ _ (front_of _ _ _ c.in_ok-put_item.ensures.put)
    (front_of _ _ _ (c.in_err-push.ensures.items ∙ c.loop-item.invariant)))

pub returns-in_err-put_item-2-clause-refused : goal.returns-in_err-put_item-2-clause-refused
returns-in_err-put_item-2-clause-refused c = on_err _ _ (front_trans _ _ _ (front_of _ _ _ c.in_ok-put_item.ensures.put)
    (front_trans _ _ _ (front_of _ _ _ c.loop-item.invariant)
    (front_of _ _ _ (c.in_err-put_item-2.ensures.refused ∙ c.in_ok-push.ensures.items))))

pub loop-item-preserved : goal.loop-item-preserved
loop-item-preserved c =
    let item = get_or c.in-Some.others.now c.loop-item.item-index (Int (pos 0)) in
    one_more_piece (item_text c.args.names.now) (codes ",") c.in-Some.others.now c.loop-item.item-index item (Int (pos 0))
    c.put_item.new.line.items c.loop-item.line.items _ c.loop-item-test.true refl c.loop-item.invariant
    (c.in_ok-put_item-2.ensures.put ∙ ap (λ l. l ++ item_text c.args.names.now item) c.in_ok-push.ensures.items)

pub returns-clause-put : goal.returns-clause-put
returns-clause-put c =
    all_pieces (item_text c.args.names.now) (codes ",") c.args.items.now c.in-Some.others.now c.loop-item.item-index c.in-Some.first.now
    c.args.line.now.items c.put_item.new.line.items c.loop-item.line.items c.in-Some.ensures.cases c.loop-item-test.false
    c.in_ok-put_item.ensures.put c.loop-item.invariant
