use Rattle.std.proofs.Common.{◌≡◌, ◌-◌, ◌+◌, ◌<◌, ◌≤◌, ℕ, List, false, get_or, length, sym, ap, ◌∙◌, ⊎_elim, subst, arith, pos, true≢false}
use Rattle.std.specs.Ordering.{is_gt}
use Rattle.std.proofs.lemmas.Bool.{cases_lt}
use Rattle.std.proofs.lemmas.List.{get_or_default}
use Rattle.lin_events.specs.declared.items.Item.{Item}
use Rattle.lin_events.specs.declared.items.Item.TheVariants.{Int}
use Rattle.lin_names.specs.Spelled.{spelled, spelled_cmp}
use Rattle.lin_names.specs.lemmas.Printed.{printed_is_up, up_is_printed}
use Rattle.lin_names.proofs.printed.is_in_print.Goals as goal

-- the step that a loop takes at a place, from the place before
step : (names : List (List ℕ)) (xs : List Item) (at k : ℕ) (d e f : Item) → at ≡ k + 1 → k + 1 < length xs → is_gt (spelled_cmp (spelled names (get_or xs (at - 1) e)) (spelled names (get_or xs at f))) ≡ false
    → is_gt (spelled_cmp (spelled names (get_or xs k d)) (spelled names (get_or xs (k + 1) d))) ≡ false
step names xs at k d e f here lt up =
    let before : at - 1 ≡ k = omega (arith, here) in
    let first = ap (λ n. get_or xs n e) before ∙ get_or_default xs k e d (omega (arith, lt)) in
    let second = ap (λ n. get_or xs n f) here ∙ get_or_default xs (k + 1) f d lt in
    (λ i. is_gt (spelled_cmp (spelled names (sym first i)) (spelled names (sym second i)))) ∙ up

pub loop-at-preserved : goal.loop-at-preserved
loop-at-preserved c k d lt = ⊎_elim
    (λ (before : k + 1 < c.loop-at.at). c.loop-at.invariant k d before)
    (λ (rest : c.loop-at.at ≤ k + 1).
    step c.args.names.now c.args.items.now c.loop-at.at k d _ _ (omega (arith, lt, rest)) (omega (arith, lt, rest, c.loop-at-test.true))
    (ap is_gt (sym c.printed_order.ensures) ∙ sym c.is_gt.ensures ∙ c.if-is_gt.false))
    (cases_lt (k + 1) c.loop-at.at)

pub returns-clause-yes : goal.returns-clause-yes
returns-clause-yes c = λ _. up_is_printed c.args.names.now c.args.items.now (λ k d lt. c.loop-at.invariant k d (omega (arith, lt, c.loop-at-test.false)))

pub returns-then-is_gt-clause-no : goal.returns-then-is_gt-clause-no
returns-then-is_gt-clause-no c = λ _ same.
    let up = printed_is_up c.args.names.now c.args.items.now same (c.loop-at.at - 1) (Int (pos 0)) (omega (arith, c.loop-at-test.true)) in
    let next : c.loop-at.at - 1 + 1 ≡ c.loop-at.at = omega arith in
    let here = subst (λ n. is_gt (spelled_cmp (spelled c.args.names.now (get_or c.args.items.now (c.loop-at.at - 1) (Int (pos 0)))) (spelled c.args.names.now (get_or c.args.items.now n (Int (pos 0))))) ≡ false) next up in
    true≢false (sym c.if-is_gt.true ∙ c.is_gt.ensures ∙ ap is_gt c.printed_order.ensures ∙ here)
