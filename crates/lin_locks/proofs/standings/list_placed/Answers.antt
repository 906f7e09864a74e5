use Rattle.std.proofs.Common.{◌∷◌, ◌++◌, [], None, get_or, take, sym, ap, ◌∙◌, add-one, take-suc}
use Rattle.lin_locks.specs.inner.Fillings.{filled}
use Rattle.lin_locks.proofs.Filled.{done, filled_more}
use Rattle.lin_locks.proofs.standings.list_placed.Goals as goal

pub loop-place-preserved : goal.loop-place-preserved
loop-place-preserved c =
    let order = c.args.order.now in
    let place = c.loop-place.place in
    c.in_ok-push.ensures.items
    ∙ ap (λ l. l ++ done c.unwrap_or.result ∷ []) c.loop-place.invariant
    ∙ ap (λ n. filled (λ k. 0) 0 (take place order) ++ done n ∷ []) c.unwrap_or.ensures
    ∙ sym (filled_more (take place order) (get_or order place None))
    ∙ ap (filled (λ k. 0) 0) (sym (ap (λ k. take k order) (add-one place) ∙ take-suc order place None c.loop-place-test.true))
