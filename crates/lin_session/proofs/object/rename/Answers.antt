use Rattle.std.proofs.Common.{◌<◌, length, get_or, slice_index, ap, arith}
use Rattle.std.proofs.lemmas.List.{get_or_default}
use Rattle.std.proofs.lemmas.List.Edits.{map_over_more}
use Rattle.lin_order.specs.declared.placed.Placed.{Placed}
use Rattle.lin_session.proofs.object.rename.Goals as goal

pub loop-placed-preserved : goal.loop-placed-preserved
loop-placed-preserved c =
    let items = c.loop-placed.placed-items in
    let i = c.loop-placed.placed-index in
    let all = c.args.order.now.items in
    let within : i < length all = omega (arith, c.loop-placed-test.true, ap length c.deref_mut-placed-items.ensures.value) in
    let inside : i < length items = omega (arith, c.loop-placed-test.true, c.loop-placed.auto.placed-items) in
    let x : Placed = get_or items i c.placed-item.result in
    map_over_more (λ (p : Placed). record { at = slice_index c.args.picks.now p.at; reply = p.reply }) all items i x within c.loop-placed.invariant (get_or_default items i c.placed-item.result x inside)
