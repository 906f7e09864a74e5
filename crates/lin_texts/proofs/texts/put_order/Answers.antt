use Rattle.std.proofs.Common.{◌∙◌, ◌++◌, ap, codes, sym}
use Rattle.std.specs.List.{join_by}
use Rattle.lin_texts.specs.Texts.{order_text, placed_text}
use Rattle.lin_texts.specs.lemmas.Putting.{all_pieces}
use Rattle.lin_texts.proofs.texts.put_order.Goals as goal

pub returns-clause-put : goal.returns-clause-put
returns-clause-put c =
    let old = c.args.line.now.items in
    let put = all_pieces (placed_text c.args.names.now) (codes " ") c.args.order.now c.in-Some.others.now c.loop-pair.pair-index c.in-Some.first.now
    old c.put_pair.new.line.items c.loop-pair.line.items c.in-Some.ensures.cases c.loop-pair-test.false c.in_ok-put_pair.ensures.put c.loop-pair.invariant in
    put ∙ ap (λ o. old ++ join_by (placed_text c.args.names.now) (codes " ") o) c.in-Some.ensures.cases.0 ∙ sym (ap (λ o. old ++ order_text c.args.names.now o) c.in-Some.ensures.cases.0)
