use Rattle.std.proofs.Common.{◌≡◌, List, Contains, AllPairs, get_or, inl, inr, sym, ap, subst, ◌∙◌, arith}
use Rattle.std.proofs.lemmas.Bool.{cases_lt, false≢true}
use Rattle.std.proofs.lemmas.List.{get_or_default}
use Rattle.lin_events.specs.declared.items.Item.{Item}
use Rattle.lin_sets.specs.Levels.{IsBelow}
use Rattle.lin_sets.proofs.Fitting.{lacks_late}
use Rattle.lin_sets.proofs.intervals.Intervals.may_begin.Goals as goal

pub returns-then-has-clause-may : goal.returns-then-has-clause-may
returns-then-has-clause-may c = λ may listed rising s other known there.
    let is = c.deref-level-items.ensures.value in
    lacks_late c.args.self.now.endings c.deref-level-items.result.now c.args.item c.args.place c.loop-level.level-index c.level-item.result
    (subst (AllPairs IsBelow) (sym is) rising) c.loop-level-test.true c.level-item.is c.loop-level.invariant (λ other end known early. c.are_in.ensures.all may listed other end known (omega arith) early)
    s other known (subst (λ (l : List (List Item)). Contains l s) (sym is) there)

pub loop-level-preserved : goal.loop-level-preserved
loop-level-preserved c = λ k d below has. elim (cases_lt k c.loop-level.level-index) [
  | inl before ↦ c.loop-level.invariant k d before has
  | inr from ↦
      let levels = c.deref-level-items.result.now in
      let same : k ≡ c.loop-level.level-index = omega arith in
      let at : get_or levels k d ≡ c.level-item.result = ap (λ n. get_or levels n d) same ∙ get_or_default levels c.loop-level.level-index d c.level-item.result c.loop-level-test.true ∙ sym c.level-item.is in
      false≢true (sym c.if-has.false ∙ c.has.ensures.1 (subst (λ (l : List Item). Contains l c.args.item) at has))
]

pub returns-clause-may : goal.returns-clause-may
returns-clause-may c = λ _ listed rising s other known there has is_known lacks.
    let is = c.deref-level-items.ensures.value in
    let at = subst (λ (l : List (List Item)). Contains l s) (sym is) there in
    absurd (c.loop-level.invariant at.0 s (omega (arith, at.1, c.loop-level-test.false)) (subst (λ (l : List Item). Contains l c.args.item) (sym at.2) has))
