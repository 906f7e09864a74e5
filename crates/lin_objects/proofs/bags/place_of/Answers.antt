use Rattle.std.proofs.Common.{◌≡◌, pos, get_or, sym, ◌∙◌}
use Rattle.std.proofs.lemmas.List.{get_or_default}
use Rattle.lin_events.specs.declared.items.Item.{Item}
use Rattle.lin_events.specs.declared.items.Item.TheVariants.{Int}
use Rattle.lin_events.specs.Sameness.{item_same}
use Rattle.lin_objects.specs.lemmas.Bags.{taken_at}
use Rattle.lin_objects.proofs.bags.place_of.Goals as goal

pub returns-then-eq-clause-some : goal.returns-then-eq-clause-some
returns-then-eq-clause-some c =
    let xs = c.args.items.now in
    let at = c.loop-at.at in
    let same : get_or xs at (Int (pos 0)) ≡ c.args.item = item_same _ _ (sym c.eq.ensures ∙ c.if-eq.true) in
    let there = λ (d : Item). get_or_default xs at d (Int (pos 0)) c.loop-at-test.true ∙ same in
    (c.loop-at-test.true, taken_at c.args.item xs at c.loop-at-test.true c.loop-at.invariant there, (at, c.loop-at-test.true, there c.args.item))
