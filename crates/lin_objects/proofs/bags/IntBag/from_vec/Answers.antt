use Rattle.std.proofs.Common.{pos, get_or, take, sym, ap, ◌∙◌}
use Rattle.std.proofs.lemmas.List.{take_more}
use Rattle.lin_events.specs.declared.items.Item.{Item}
use Rattle.lin_events.specs.declared.items.Item.TheVariants.{Int}
use Rattle.lin_objects.specs.Bags.{bag_of, with_one}
use Rattle.lin_objects.specs.lemmas.Bags.{bag_push}
use Rattle.lin_objects.proofs.bags.IntBag.from_vec.Goals as goal

pub loop-item-preserved : goal.loop-item-preserved
loop-item-preserved c =
    let xs = c.deref-item-items.result.now in
    let i = c.loop-item.item-index in
    let x : Item = get_or xs i (Int (pos 0)) in
    c.in_ok-insert.ensures.ok ∙ ap (with_one x) c.loop-item.invariant ∙ sym (ap bag_of (take_more xs i (Int (pos 0)) c.loop-item-test.true) ∙ bag_push (take i xs) x)
