use Rattle.std.proofs.Common.{◌∙◌, ◌++◌, ap, codes}
use Rattle.lin_texts.specs.lemmas.Putting.{all_pieces}
use Rattle.lin_tables.specs.Values.{item_worded}
use Rattle.lin_tables.proofs.Listed.{listed}
use Rattle.lin_tables.proofs.values.put_each.Goals as goal

pub returns : goal.returns
returns c =
    all_pieces (item_worded c.args.wording c.args.names.now) (codes ",") c.args.items.now c.in-Some.others.now c.loop-item.item-index c.in-Some.first.now
    c.args.line.now.items c.put_worded_item.new.line.items c.loop-item.line.items c.in-Some.ensures.cases c.loop-item-test.false
    c.in_ok-put_worded_item.ensures c.loop-item.invariant
    ∙ ap (λ l. c.args.line.now.items ++ l) (listed c.args.wording c.args.names.now c.args.items.now)
