use Rattle.std.proofs.Common.{sym, ap, subst, ◌∙◌}
use Rattle.lin_objects.specs.declared.kinds.Kind.TheVariants.{Mutex}
use Rattle.lin_order.specs.Linearizable.{IsLegalOrderAs}
use Rattle.lin_order.specs.lemmas.Lists.{if_ok_weaker}
use Rattle.lin_locks.specs.inner.Fillings.{filled, settled}
use Rattle.lin_locks.specs.inner.Known.{known_of}
use Rattle.lin_locks.proofs.Going.{filled_is_legal}
use Rattle.lin_locks.proofs.standings.Standing.paid_order.Goals as goal

pub returns : goal.returns
returns c = if_ok_weaker c.list_placed.result _ _ (λ order is h right.
    let known = known_of c.args.self.now in
    subst (IsLegalOrderAs Mutex h)
    (sym (is ∙ ap (filled (λ k. 0) 0) (c.as_slice-2.ensures.value ∙ c.settle-2.ensures ∙ ap (settled known.releases.debts known.releases.opens) (c.settle.ensures ∙ ap (settled known.acquires.debts known.acquires.opens) (c.in_ok-order.ensures.items ∙ c.as_slice.ensures.value)))))
    (filled_is_legal h known.order known.acquires known.releases known.held right.sides.sides right.sides.order)) c.list_placed.ensures
