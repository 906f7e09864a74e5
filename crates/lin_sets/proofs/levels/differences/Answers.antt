use Rattle.std.proofs.Common.{◌≤◌, ◌<◌, ◌⊎◌, ℕ, pos, inl, inr, sym, subst, arith}
use Rattle.lin_events.specs.Items.{item_cmp}
use Rattle.lin_events.specs.declared.items.Item.TheVariants.{Int}
use Rattle.lin_lists.specs.Sets.{IsRising}
use Rattle.lin_sets.specs.Levels.{IsInside, IsOutside}
use Rattle.lin_sets.proofs.Merging.{all_found, of_sets, some_out}
use Rattle.lin_sets.proofs.levels.differences.Goals as goal

-- at the end of the pass one of the lists has come to its end
open_end : {a b m n : ℕ} → (m ≤ a) ⊎ (n ≤ b) → a < m → n ≤ b
open_end (inl over) more = absurd (omega (arith, over, more))
open_end (inr over) more = over

open_end_other : {a b m n : ℕ} → (m ≤ a) ⊎ (n ≤ b) → b < n → m ≤ a
open_end_other (inl over) more = over
open_end_other (inr over) more = absurd (omega (arith, over, more))

pub loop-pass-preserved : goal.loop-pass-preserved
loop-pass-preserved c =
    let first = subst (IsRising item_cmp) (sym c.as_slice-items.ensures.items) c.as_slice-items.ensures.rising in
    let second = subst (IsRising item_cmp) (sym c.as_slice-others.ensures.items) c.as_slice-others.ensures.rising in
    c.step.ensures.passed first second c.loop-pass.invariant

pub returns-clause-more : goal.returns-clause-more
returns-clause-more c = λ any.
    let xs = c.as_slice-items.result.now in
    let ys = c.as_slice-others.result.now in
    let pass = c.loop-pass.pass in
    of_sets IsOutside xs ys c.args.set.now c.args.other.now c.as_slice-items.ensures.items c.as_slice-others.ensures.items
    (some_out xs ys pass.at pass.to pass.more c.loop-pass.invariant.0 (Int (pos 0)) (c.is_any.ensures.any any) (open_end (c.is_on.ensures.off c.loop-pass-test.false)))

pub returns-clause-no_more : goal.returns-clause-no_more
returns-clause-no_more c = λ none.
    let xs = c.as_slice-items.result.now in
    let ys = c.as_slice-others.result.now in
    let pass = c.loop-pass.pass in
    let over = c.is_any.ensures.none none in
    of_sets IsInside xs ys c.args.set.now c.args.other.now c.as_slice-items.ensures.items c.as_slice-others.ensures.items
    (all_found xs ys pass.at pass.to pass.more c.loop-pass.invariant.0 over.0 over.1)

pub returns-clause-lacks : goal.returns-clause-lacks
returns-clause-lacks c = λ any.
    let xs = c.as_slice-items.result.now in
    let ys = c.as_slice-others.result.now in
    let pass = c.loop-pass.pass in
    of_sets IsOutside ys xs c.args.other.now c.args.set.now c.as_slice-others.ensures.items c.as_slice-items.ensures.items
    (some_out ys xs pass.to pass.at pass.lacks c.loop-pass.invariant.1 (Int (pos 0)) (c.is_any-2.ensures.any any) (open_end_other (c.is_on.ensures.off c.loop-pass-test.false)))

pub returns-clause-lacks_none : goal.returns-clause-lacks_none
returns-clause-lacks_none c = λ none.
    let xs = c.as_slice-items.result.now in
    let ys = c.as_slice-others.result.now in
    let pass = c.loop-pass.pass in
    let over = c.is_any-2.ensures.none none in
    of_sets IsInside ys xs c.args.other.now c.args.set.now c.as_slice-others.ensures.items c.as_slice-items.ensures.items
    (all_found ys xs pass.to pass.at pass.lacks c.loop-pass.invariant.1 over.0 over.1)
