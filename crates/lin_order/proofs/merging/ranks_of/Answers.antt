use Rattle.std.proofs.Common.{◌≡◌, ◌<◌, ◌++◌, map, length, get_or, take_all, sym, ap, subst, ◌∙◌, arith}
use Rattle.std.proofs.lemmas.List.{get_or-map, length-map}
use Rattle.lin_order.specs.Merging.{lists_of}
use Rattle.lin_order.specs.inner.Merging.{ranks_from}
use Rattle.lin_order.proofs.RankSorting.{HasRanks, ranks_along, ranks_sorted}
use Rattle.lin_order.proofs.merging.ranks_of.Goals as goal

pub loop-number-preserved : goal.loop-number-preserved
loop-number-preserved c =
    let parts = c.args.parts.now in
    let i = c.loop-number.number in
    let part = c.index-parts-number.result in
    let inside : i < length parts = omega arith in
    let many : length (lists_of parts) ≡ length parts = length-map parts _ in
    let here : part.items ≡ get_or (lists_of parts) i part.items = ap (λ v. v.items) c.index-parts-number.is ∙ sym (get_or-map _ parts i part part.items inside) in
    ranks_along (lists_of parts) i part.items (omega arith) here c.loop-number.ranks.items c.push_ranks.new.ranks.items c.loop-number.invariant
    (c.in_ok-push_ranks.ensures ∙ ap (λ l. c.loop-number.ranks.items ++ map (λ r. (r, i)) (ranks_from 0 l)) c.deref.ensures.value)

pub returns : goal.returns
returns c =
    let parts = c.args.parts.now in
    let many : length (lists_of parts) ≡ length parts = length-map parts _ in
    ranks_sorted (lists_of parts) c.loop-number.ranks.items c.sort_unstable.new.self.items
    (subst (λ l. HasRanks l c.loop-number.ranks.items) (take_all c.loop-number.number (lists_of parts) (omega arith)) c.loop-number.invariant)
    c.sort_unstable.ensures.permutation c.sort_unstable.ensures.sorted
