use Rattle.std.proofs.Common.{◌≡◌, ◌<◌, ℕ, List, length, get_or, inl, inr, sym, ap, ◌∙◌, arith, subst, refl}
use Rattle.std.specs.Prelude.{option_map}
use Rattle.std.proofs.lemmas.Bool.{cases_lt}
use Rattle.std.proofs.lemmas.List.{get_or_read}
use Rattle.lin_possibilities.specs.Ranks.{members_in}
use Rattle.lin_possibilities.specs.inner.OutcomesTelling.{words_in}
use Rattle.lin_possibilities.specs.declared.told.Told.{Told}
use Rattle.lin_possibilities.specs.declared.words.Extent.TheVariants.{Short}
use Rattle.lin_possibilities.proofs.OutcomesTelling.{words_at, words_long, words_same}
use Rattle.lin_possibilities.proofs.told.are_same_words.Goals as goal

pub loop-at-preserved : goal.loop-at-preserved
loop-at-preserved c = λ k d e below.
    let words : Told → List ℕ = λ t. words_in Short c.args.names.now (members_in (option_map (λ r. r.now) c.args.recorded)) t.what in
    let told = c.args.told.now in
    let others = c.args.others.now in
    elim (cases_lt k c.loop-at.at) [
      | inl before ↦ c.loop-at.invariant k d e before
      | inr behind ↦
          let here : k ≡ c.loop-at.at = omega arith in
          let within : c.loop-at.at < length told = c.loop-at-test.true in
          let long : length told ≡ length others = c.if-told-others.false in
          let one = get_or_read told c.loop-at.at c.index-told-at.result within c.index-told-at.is d in
          let other = get_or_read others c.loop-at.at c.index-others-at.result (omega arith) c.index-others-at.is e in
          subst (λ i. words (get_or told i d) ≡ words (get_or others i e)) (sym here)
          (sym (ap words one) ∙ c.in_ok-same.ensures.0 c.if-not-same.false ∙ ap words other)
    ]

pub returns-then-not-same : goal.returns-then-not-same
returns-then-not-same c =
    let words : Told → List ℕ = λ t. words_in Short c.args.names.now (members_in (option_map (λ r. r.now) c.args.recorded)) t.what in
    let told = c.args.told.now in
    let others = c.args.others.now in (
      λ no'. let yes' = no' in cc,
      λ same.
          let e = words_at words told others same c.loop-at.at c.index-told-at.result c.index-others-at.result c.loop-at-test.true in
          let both = ap words c.index-told-at.is ∙ e ∙ sym (ap words c.index-others-at.is) in
          let is = c.in_ok-same.ensures.1 both in
          let not' = c.if-not-same.true in
          cc,
    )

pub returns-then-told-others : goal.returns-then-told-others
returns-then-told-others c =
    let words : Told → List ℕ = λ t. words_in Short c.args.names.now (members_in (option_map (λ r. r.now) c.args.recorded)) t.what in
    (λ no'. let yes' = no' in cc, λ same. absurd (c.if-told-others.true (words_long words c.args.told.now c.args.others.now same)))

pub returns : goal.returns
returns c =
    let words : Told → List ℕ = λ t. words_in Short c.args.names.now (members_in (option_map (λ r. r.now) c.args.recorded)) t.what in
    let ended = c.loop-at-test.false in
    (λ yes'. words_same words c.args.told.now c.args.others.now c.if-told-others.false (λ k d e within. c.loop-at.invariant k d e (omega arith)), λ same. refl)
