use Rattle.std.proofs.Common.{◌≡◌, suc, ◌-◌, [], ◌∷◌, ◌++◌, drop, map, refl, ap, sym, ◌∙◌, subst, arith}
use Rattle.lin_bytes.specs.Bytes.{closing}
use Rattle.lin_edn.specs.Grammar.{Element, collection, Row, empty, element}
use Rattle.lin_edn.specs.View.{view}
use Rattle.lin_history.specs.inner.Usual.{kind_of}
use Rattle.lin_history.proofs.Maps.{row_ends}
use Rattle.lin_history.proofs.values.+value.Goals as goal

pub items_at-loop-at-init : goal.items_at-loop-at-init
items_at-loop-at-init t c =
    let none : [] ≡ map view c.new-items.result.items = sym (ap (map view) c.new-items.ensures.items) in (
      c.white_until-at.ensures.within.0,
      c.white_until-at.ensures.within.1,
      subst (λ vs. Row c.args.levels c.args.inner (drop c.args.inner c.args.text.now) vs c.white_until-at.result (drop c.white_until-at.result c.args.text.now)) none
          (c.white_until-at.ensures.row c.args.levels c.args.inner (drop c.args.inner c.args.text.now) [] empty),
    )

pub items_at-loop-at-preserved : goal.items_at-loop-at-preserved
items_at-loop-at-preserved t c =
    let s = c.args.text.now in
    let a = c.loop-at.invariant.0 in
    let b = c.in_ok-item.ensures.within.0 in
    let d = c.white_until-at-in-loop-at.ensures.within.0 in (
      omega arith,
      c.white_until-at-in-loop-at.ensures.within.1,
      subst (λ vs. Row c.args.levels c.args.inner (drop c.args.inner s) vs c.white_until-at-in-loop-at.result (drop c.white_until-at-in-loop-at.result s))
          (sym c.in_ok-put.ensures) (c.white_until-at-in-loop-at.ensures.row c.args.levels c.args.inner (drop c.args.inner s)
          (map view c.loop-at.items.items ++ view c.in_ok-item.item ∷ []) (element c.loop-at.invariant.2 c.in_ok-item.ensures.value)),
    )

pub items_at-returns-then-text-at-clause-row : goal.items_at-returns-then-text-at-clause-row
items_at-returns-then-text-at-clause-row t c = (
  c.loop-at.at,
  refl,
  row_ends c.args.text.now c.args.levels c.args.inner c.loop-at.at (closing (kind_of c.args.is_set)) (map view c.loop-at.items.items) c.loop-at.invariant.2
      c.loop-at-test.true (c.if-text-at.true ∙ c.closing.ensures),
)

pub value_at-returns-clause-value : goal.value_at-returns-clause-value
value_at-returns-clause-value t c =
    let s = c.args.text.now in
    let some = c.if-levels-eq0.false in
    let one_less : suc (c.args.levels - 1) ≡ c.args.levels = omega arith in
    let row = c.in_ok-items.ensures.row in
    subst (λ n. Element n c.args.from (drop c.args.from s) (view c.gathered.result) c.in_ok-items.used (drop c.in_ok-items.used s)) one_less
    (subst (λ i. Element (suc (c.args.levels - 1)) c.args.from (drop c.args.from s) (view c.gathered.result) i (drop c.in_ok-items.used s)) (sym row.1)
    (collection c.in_ok-is_set.ensures.opens row.2 c.gathered.ensures.made))
