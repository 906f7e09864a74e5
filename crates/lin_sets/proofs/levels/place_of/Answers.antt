use Rattle.std.proofs.Common.{◌≡◌, ◌<◌, ◌-◌, length, get_or, inl, inr, sym, ap, ◌∙◌, arith}
use Rattle.std.proofs.lemmas.Bool.{cases_lt, false≢true}
use Rattle.std.proofs.lemmas.List.{get_or_default}
use Rattle.lin_events.specs.Sameness.{items_Decides}
use Rattle.lin_sets.proofs.levels.place_of.Goals as goal

pub returns-then-eq : goal.returns-then-eq
returns-then-eq c =
    let level = c.index-levels-place.result in
    let set = c.args.set.now in
    let same : level ≡ set = (items_Decides level set).0 (sym c.eq.ensures ∙ c.if-eq.true) in
    let inside : c.loop-place.place - 1 < length c.args.levels.now = omega (arith, c.loop-place-test.true, c.loop-place.invariant.0) in
    (inside, sym same ∙ c.index-levels-place.is ∙ get_or_default c.args.levels.now (c.loop-place.place - 1) level set inside)

pub loop-place-preserved : goal.loop-place-preserved
loop-place-preserved c = (
  omega (arith, c.loop-place.invariant.0),
  λ k d from inside same. elim (cases_lt k c.loop-place.place) [
    | inl before ↦
        let level = c.index-levels-place.result in
        let at : k ≡ c.loop-place.place - 1 = omega (arith, from, before, c.loop-place-test.true) in
        let levels = c.args.levels.now in
        let is : level ≡ c.args.set.now = c.index-levels-place.is ∙ ap (λ n. get_or levels n level) (sym at) ∙ get_or_default levels k level d inside ∙ same in
        false≢true (sym c.if-eq.false ∙ c.eq.ensures ∙ (items_Decides level c.args.set.now).1 is)
    | inr behind ↦ c.loop-place.invariant.1 k d behind inside same
  ],
)

pub returns : goal.returns
returns c = λ k d inside. c.loop-place.invariant.1 k d (omega (arith, c.loop-place-test.false)) inside
