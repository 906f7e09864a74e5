use Rattle.std.proofs.Common.{◌≡◌, ℕ, List, AllPairs, IsPermutation, length, map, sym, subst}
use Rattle.std.proofs.lemmas.Result.{IfOk-weaker}
use Rattle.lin_events.specs.declared.items.Item.{Item}
use Rattle.lin_objects.specs.declared.kinds.Kind.TheVariants.{Set}
use Rattle.lin_order.specs.Linearizable.{IsLegalOrderAs}
use Rattle.lin_sets.specs.declared.effects.Effect.{Effect}
use Rattle.lin_sets.specs.Points.{IsNoLarger}
use Rattle.lin_sets.proofs.ConflictsStanding.{acts_permuted, effects_legal, effects_permuted}
use Rattle.lin_sets.proofs.orders.order_of_acts.Goals as goal

pub returns : goal.returns
returns c =
    let adds = c.args.adds.now in
    let given = c.args.reads.now in
    let reads : List (ℕ × List Item) = c.as_slice-reads.result.now in
    let is : c.in_ok-sorted.sorted.items ≡ reads = sym c.as_slice-reads.ensures.value in
    let points = c.in_ok-points.points in
    let made = c.in_ok-effects.effects.items in
    let effects = c.in_order.result.items in
    IfOk-weaker c.operations_of.result (λ order. order.items ≡ map (λ (e : Effect). e.placed) effects) _ (λ order listed h are calm.
    subst (IsLegalOrderAs Set h) (sym listed)
    (effects_legal h calm adds reads (acts_permuted h adds given reads (subst (IsPermutation given) is c.in_ok-sorted.ensures.same) are) (subst (AllPairs IsNoLarger) is c.in_ok-sorted.ensures.rising)
    points c.in_ok-points.ensures effects (effects_permuted adds reads points (length adds) (length reads) made effects c.in_order.ensures.same c.in_ok-effects.ensures) c.in_order.ensures.rising))
    c.operations_of.ensures
