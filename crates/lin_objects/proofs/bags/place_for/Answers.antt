use Rattle.std.proofs.Common.{◌≡◌, pos, get_or, length, true, true≢false, arith, subst, sym, ap, ◌∙◌}
use Rattle.std.specs.Ordering.{is_ge, ordering_reverse}
use Rattle.std.proofs.lemmas.List.{get_or_default}
use Rattle.lin_events.specs.declared.items.Item.{Item}
use Rattle.lin_events.specs.declared.items.Item.TheVariants.{Int}
use Rattle.lin_events.specs.Items.{item_cmp}
use Rattle.lin_events.specs.Sameness.{items_total}
use Rattle.lin_objects.specs.lemmas.Bags.{put_at}
use Rattle.lin_objects.specs.lemmas.Order.{◌⊑◌}
use Rattle.lin_objects.proofs.bags.place_for.Goals as goal

-- what is at least an item has that at most it
from_ge : (x y : Item) → is_ge (item_cmp x y) ≡ true → y ⊑ x
from_ge x y is over = true≢false (sym is ∙ ap is_ge (items_total.antisymm x y ∙ ap ordering_reverse over))

pub returns-then-ge-clause-put : goal.returns-then-ge-clause-put
returns-then-ge-clause-put c =
    let xs = c.args.items.now in
    let x : Item = get_or xs c.loop-at.at (Int (pos 0)) in
    let least : c.args.item ⊑ x = from_ge x c.args.item (sym c.ge.ensures ∙ c.if-ge.true) in
    put_at c.args.item xs c.loop-at.at (omega arith) c.loop-at.invariant (λ d within. subst (λ z. c.args.item ⊑ z) (get_or_default xs c.loop-at.at (Int (pos 0)) d within) least)

pub returns-clause-put : goal.returns-clause-put
returns-clause-put c =
    let xs = c.args.items.now in
    put_at c.args.item xs (length xs) (omega arith) (λ k d h. c.loop-at.invariant k d (omega arith)) (λ d h. absurd (omega arith))
