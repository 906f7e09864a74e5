use Rattle.std.proofs.Common.{◌≡◌, ◌≤◌, ◌<◌, ◌-◌, ℕ, List, Some, length, get_or, inl, inr, slice_get, subst, refl, arith}
use Rattle.std.proofs.lemmas.Bool.{cases_lt}
use Rattle.std.proofs.lemmas.Option.{slice_get_read}
use Rattle.lin_events.specs.declared.items.Item.{Item}
use Rattle.lin_sets.specs.Levels.{IsBelow}
use Rattle.lin_sets.proofs.Finding.{one_there}
use Rattle.lin_sets.proofs.levels.rank_of.Goals as goal

-- the level that the set is compared with
stands : (levels : List (List Item)) (place : ℕ) (level : List Item) → 0 < place → place ≤ length levels → level ≡ get_or levels (place - 1) level → slice_get levels (place - 1) ≡ Some level
stands levels place level some within is = slice_get_read levels (length levels) (place - 1) level refl (omega arith) is

pub loop-place-preserved : goal.loop-place-preserved
loop-place-preserved c = (
  omega (arith, c.loop-place.invariant.0),
  λ k t from is. elim (cases_lt k c.loop-place.place) [
    | inl before ↦
        let at : c.loop-place.place - 1 ≡ k = omega (arith, c.loop-place-test.true) in
        let here = stands c.args.levels.now c.loop-place.place c.index-levels-place.result c.loop-place-test.true c.loop-place.invariant.0 c.index-levels-place.is in
        subst (IsBelow c.args.set.now) (one_there c.args.levels.now k c.index-levels-place.result t (subst (λ n. slice_get c.args.levels.now n ≡ Some c.index-levels-place.result) at here) is) c.in-Below.ensures
    | inr behind ↦ c.loop-place.invariant.1 k t behind is
  ],
)

pub returns : goal.returns
returns c = (omega arith, λ k t from is. c.loop-place.invariant.1 k t (omega (arith, c.loop-place-test.false)) is, λ no. absurd (omega (arith, no)))
