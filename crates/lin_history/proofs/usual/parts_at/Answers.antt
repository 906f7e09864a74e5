use Rattle.std.proofs.Common.{pos, [], ◌∷◌, ap, sym, subst, ◌∙◌}
use Rattle.lin_edn.specs.View.{view}
use Rattle.lin_names.specs.Spelled.{number, seen}
use Rattle.lin_history.specs.inner.Usual.{AreParts}
use Rattle.lin_history.proofs.Usuals.{pair_parts, value_parts, word_parts}
use Rattle.lin_history.proofs.usual.parts_at.Goals as goal

pub returns-then-keyed : goal.returns-then-keyed
returns-then-keyed c = λ levels vs low there.
    let key = seen c.in_ok-key.key in
    let value = view c.in_ok-key.value in
    subst (λ k. AreParts k vs key value) (sym c.if-keyed.true)
    (pair_parts c.elements_are_unique.ensures c.args.text.now levels vs c.args.place key value c.in_ok-key.field-0-2 low there c.in_ok-key.ensures.bare c.in_ok-key.ensures.pair)

pub returns-in-Some : goal.returns-in-Some
returns-in-Some c = λ levels vs low there.
    let one = c.in-Some.ensures levels vs there in
    let value = view c.run_element.result in
    subst (λ k. AreParts k vs (number (pos 0)) value) (sym c.if-keyed.false) (word_parts vs value (one ∙ ap (λ v. v ∷ []) (sym c.run_element.ensures)))

pub returns : goal.returns
returns c = λ levels vs low there.
    let value = view c.in_ok-value.value in
    subst (λ k. AreParts k vs (number (pos 0)) value) (sym c.if-keyed.false)
    (value_parts c.elements_are_unique.ensures c.args.text.now levels vs c.args.place value c.in_ok-value.field-0-1 low there c.in_ok-value.ensures.bare c.in_ok-value.ensures.value)
