use Rattle.std.proofs.Common.{◌≡◌, ◌+◌, ◌<◌, ◌≤◌, ℕ, length, sym, subst, arith, ◌∙◌, ap}
use Rattle.std.proofs.lemmas.Result.{IfOk-weaker}
use Rattle.lin_edn.specs.Value.{Value, values_of}
use Rattle.lin_edn.specs.View.{view}
use Rattle.lin_formats.specs.inner.Marks.{IsStanding}
use Rattle.lin_formats.specs.Places.{row_of}
use Rattle.lin_formats.proofs.Rows.{standing_behind, standing_row}
use Rattle.lin_formats.proofs.mark.+row_begun.Goals as goal

pub overflow_add-tag : goal.overflow_add-tag
overflow_add-tag t c =
    let (until, stands) = c.requires.stands in
    let (vs, row) = c.requires.row in
    let tag = c.in-Some.tag.now in
    let next = standing_behind c.args.text.now tag.text.now c.args.at tag.at until (view c.in-Some.inner.now) (values_of vs)
    (subst (λ (v : Value). IsStanding c.args.text.now c.args.at v until) c.in-Some.ensures stands) (ap row_of (sym c.in-Some.ensures) ∙ row) in
    let le : tag.at + length tag.text.now ≤ next.0 = next.4 in
    let lt : next.0 < length c.args.text.now = next.6 in
    omega arith

pub element_at-requires-clause-inside : goal.element_at-requires-clause-inside
element_at-requires-clause-inside t c =
    let (until, stands) = c.requires.stands in
    let (vs, row) = c.requires.row in
    let tag = c.in-Some.tag.now in
    let next = standing_behind c.args.text.now tag.text.now c.args.at tag.at until (view c.in-Some.inner.now) (values_of vs)
    (subst (λ (v : Value). IsStanding c.args.text.now c.args.at v until) c.in-Some.ensures stands) (ap row_of (sym c.in-Some.ensures) ∙ row) in
    let le : tag.at + length tag.text.now ≤ next.0 = next.4 in
    let lt : next.0 < length c.args.text.now = next.6 in
    omega arith

pub element_at-requires-clause-stands : goal.element_at-requires-clause-stands
element_at-requires-clause-stands t c =
    let (until, stands) = c.requires.stands in
    let (vs, row) = c.requires.row in
    let tag = c.in-Some.tag.now in
    let next = standing_behind c.args.text.now tag.text.now c.args.at tag.at until (view c.in-Some.inner.now) (values_of vs)
    (subst (λ (v : Value). IsStanding c.args.text.now c.args.at v until) c.in-Some.ensures stands) (ap row_of (sym c.in-Some.ensures) ∙ row) in
    let le : tag.at + length tag.text.now ≤ next.0 = next.4 in
    let lt : next.0 < length c.args.text.now = next.6 in
    (view c.in-Some.inner.now, next.0, next.1, next.2)

pub overflow_add-result : goal.overflow_add-result
overflow_add-result t c =
    let (until, stands) = c.requires.stands in
    let (vs, row) = c.requires.row in
    let next = standing_row c.args.text.now c.args.at until (view c.args.element.now) vs stands c.in-None.ensures row in
    let lt : c.args.at < until = next.0 in
    let inside : until ≤ length c.args.text.now = stands.inside in
    omega arith

pub returns-in-None : goal.returns-in-None
returns-in-None t c = λ until vs stands row.
    let next = standing_row c.args.text.now c.args.at until (view c.args.element.now) vs stands c.in-None.ensures row in
    (omega arith, next.1)

pub row_begun-requires : goal.row_begun-requires
row_begun-requires t c =
    let (until, stands) = c.requires.stands in
    let (vs, row) = c.requires.row in
    let tag = c.in-Some.tag.now in
    let next = standing_behind c.args.text.now tag.text.now c.args.at tag.at until (view c.in-Some.inner.now) (values_of vs)
    (subst (λ (v : Value). IsStanding c.args.text.now c.args.at v until) c.in-Some.ensures stands) (ap row_of (sym c.in-Some.ensures) ∙ row) in
    let later : c.args.at < next.0 = next.5 in
    let lt : next.0 < length c.args.text.now = next.6 in
    let here : c.in_ok-begun-in-Some.begun ≡ next.0 = (c.in_ok-begun-in-Some.ensures (view c.in-Some.inner.now) next.0 next.1 next.2).0 in
    (omega arith, ((until, subst (λ (b : ℕ). IsStanding c.args.text.now b (view c.in-Some.inner.now) until) (sym here) next.3), (vs, ap row_of (sym c.in-Some.ensures) ∙ row)))

pub returns-in_ok-begun-in-Some : goal.returns-in_ok-begun-in-Some
returns-in_ok-begun-in-Some t c = IfOk-weaker c.row_begun.result _ _ (λ from more until vs stands row. (
    let tag = c.in-Some.tag.now in
    let next = standing_behind c.args.text.now tag.text.now c.args.at tag.at until (view c.in-Some.inner.now) (values_of vs)
    (subst (λ (v : Value). IsStanding c.args.text.now c.args.at v until) c.in-Some.ensures stands) (ap row_of (sym c.in-Some.ensures) ∙ row) in
    let later : c.args.at < next.0 = next.5 in
    let here : c.in_ok-begun-in-Some.begun ≡ next.0 = (c.in_ok-begun-in-Some.ensures (view c.in-Some.inner.now) next.0 next.1 next.2).0 in
    let rest = more until vs (subst (λ (b : ℕ). IsStanding c.args.text.now b (view c.in-Some.inner.now) until) (sym here) next.3) (ap row_of (sym c.in-Some.ensures) ∙ row) in
    let le : c.in_ok-begun-in-Some.begun ≤ from = rest.0 in
    (omega arith, rest.1))) c.row_begun.ensures
