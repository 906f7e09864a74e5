use Rattle.std.proofs.Common.{◌≡◌, ◌+◌, ◌-◌, ◌<◌, ◌≤◌, pos, false, arith, sym, refl, ap, ◌∙◌, ⊎_elim, true≢false}
use Rattle.std.proofs.lemmas.Bool.{cases_lt}
use Rattle.std.proofs.lemmas.List.{get_or_default}
use Rattle.std.specs.Ordering.{is_ge}
use Rattle.std.specs.declared.cmp.Ordering.{Ordering}
use Rattle.std.specs.declared.cmp.Ordering.TheVariants.{Less, Equal, Greater}
use Rattle.lin_lists.specs.Sets.{IsRising}
use Rattle.lin_events.specs.declared.items.Item.TheVariants.{Int}
use Rattle.lin_events.specs.Items.{item_cmp}
use Rattle.lin_events.specs.lemmas.Rising.{rising_apart, rising_from_steps}
use Rattle.lin_events.proofs.lists.is_rising.Goals as goal

below : (o : Ordering) → is_ge o ≡ false → o ≡ Less
below Less h = refl
below Equal h = absurd (true≢false h)
below Greater h = absurd (true≢false h)

pub returns-then-is_ge : goal.returns-then-is_ge
returns-then-is_ge c = (
  λ h. absurd (true≢false (sym h)),
  λ (r : IsRising item_cmp c.args.items.now).
      let apart = rising_apart c.args.items.now r (c.loop-at.at - 1) c.loop-at.at (Int (pos 0)) (omega arith) (omega arith) in
      absurd (true≢false (sym c.if-is_ge.true ∙ c.is_ge.ensures ∙ ap is_ge (c.cmp.ensures ∙ apart))),
)

pub loop-at-preserved : goal.loop-at-preserved
loop-at-preserved c = λ k d h. ⊎_elim
    (λ (before : k + 1 < c.loop-at.at). c.loop-at.invariant k d before)
    (λ (last : c.loop-at.at ≤ k + 1).
    let e : k + 1 ≡ c.loop-at.at = omega arith in
    let f : k ≡ c.loop-at.at - 1 = omega arith in
    let apart = below c.cmp.result (sym c.is_ge.ensures ∙ c.if-is_ge.false) in
    let here = get_or_default c.args.items.now (c.loop-at.at - 1) d (Int (pos 0)) (omega (arith, c.loop-at-test.true)) in
    let next = get_or_default c.args.items.now c.loop-at.at d (Int (pos 0)) c.loop-at-test.true in
    rw (e, f, here, next) (sym c.cmp.ensures ∙ apart))
    (cases_lt (k + 1) c.loop-at.at)

pub returns : goal.returns
returns c = (λ _. rising_from_steps c.args.items.now (λ k d h. c.loop-at.invariant k d (omega arith)), λ _. refl)
