use Rattle.std.proofs.Common.{◌≡◌, length, map, reverse, sym, ap, refl, ◌∙◌, arith}
use Rattle.std.proofs.lemmas.List.{length-map}
use Rattle.lin_order.specs.Merging.{lists_of}
use Rattle.lin_order.proofs.Turns.{turned_more, turned_all}
use Rattle.lin_order.proofs.merging.turn_each.Goals as goal

pub loop-part-init : goal.loop-part-init
loop-part-init c = refl

pub loop-part-preserved : goal.loop-part-preserved
loop-part-preserved c =
    let parts = c.deref_mut-part-items.result.now in
    let many : length (lists_of parts) ≡ length parts = length-map parts _ in
    turned_more c.loop-part.part-items (lists_of parts) c.loop-part.part-index c.part-item.result c.reverse.new.self (omega arith) (omega arith) c.loop-part.invariant c.part-item.is
    (c.reverse.ensures.items ∙ ap (λ v. reverse v.items) (sym c.part-item.is))

pub returns : goal.returns
returns c =
    turned_all c.loop-part.part-items c.deref_mut-part-items.result.now _ c.loop-part.part-index _ c.loop-part.invariant (omega arith) (omega arith)
    ∙ ap (λ l. map reverse (lists_of l)) c.deref_mut-part-items.ensures.value
