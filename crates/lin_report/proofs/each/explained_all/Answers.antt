use Rattle.std.proofs.Common.{◌≡◌, ◌==◌, ◌∷◌, ◌∙◌, [], ℕ, List, Some, ap, arith, eqb-true, length, refl, subst, sym, true≢false}
use Rattle.std.proofs.lemmas.Result.{IfOk-weaker}
use Rattle.lin_answers.specs.Edits.{Present}
use Rattle.lin_report.specs.Explanations.{AreExplained, IsExplanation}
use Rattle.lin_report.specs.Reports.{HasFound, opened}
use Rattle.lin_report.proofs.each.explained_all.Goals as goal

empty_list : (l : List ℕ) → length l ≡ 0 → l ≡ []
empty_list [] none = refl
empty_list (c ∷ l) none = absurd (omega (arith, none))

pub returns-then-is_empty : goal.returns-then-is_empty
returns-then-is_empty c =
    let names = c.args.names.now in
    let asked = c.args.asked in
    let format = c.args.format in
    let now = opened c.args.settings c.args.events.items in
    let places = c.args.places.now.places in
    let found = c.in_ok-found.found in
    let text = c.in_ok-text.text.items in
    let begun = c.in_ok-session.ensures in
    let first = c.find.ensures.present ∙ begun in
    let mid = c.explained_each.ensures.present ∙ first in
    let has = subst (λ (p : Present). HasFound names p found) begun c.in_ok-found.ensures.found in
    let there = subst (λ (p : Present). AreExplained names format p asked (Some c.as_slice.result.now) c.deref.result.now text) first c.in_ok-text.ensures.each in
    let placed = subst (λ l. AreExplained names format now asked (Some l) c.deref.result.now text) c.as_slice.ensures there in
    let each = subst (λ o. AreExplained names format now asked (Some places) o text) c.deref.ensures.value placed in
    let empty = empty_list text (sym c.in_ok-text.text.ok.0 ∙ eqb-true _ _ (sym c.is_empty.ensures ∙ c.if-is_empty.true)) in
    IfOk-weaker c.explanation.result _ _
    (λ answered is. record {
      findings = found;
      each = text;
      has_found = has;
      are_explained = each;
      some = λ other. absurd (other empty);
      none = λ _. subst (λ l. IsExplanation names format now asked (Some l) answered.text.items answered.status) c.as_slice.ensures
          (subst (λ (p : Present). IsExplanation names format p asked (Some c.as_slice.result.now) answered.text.items answered.status) mid is);
    }) c.explanation.ensures.explained

pub returns : goal.returns
returns c =
    let names = c.args.names.now in
    let asked = c.args.asked in
    let format = c.args.format in
    let now = opened c.args.settings c.args.events.items in
    let places = c.args.places.now.places in
    let found = c.in_ok-found.found in
    let text = c.in_ok-text.text.items in
    let begun = c.in_ok-session.ensures in
    let first = c.find.ensures.present ∙ begun in
    let has = subst (λ (p : Present). HasFound names p found) begun c.in_ok-found.ensures.found in
    let there = subst (λ (p : Present). AreExplained names format p asked (Some c.as_slice.result.now) c.deref.result.now text) first c.in_ok-text.ensures.each in
    let placed = subst (λ l. AreExplained names format now asked (Some l) c.deref.result.now text) c.as_slice.ensures there in
    let each = subst (λ o. AreExplained names format now asked (Some places) o text) c.deref.ensures.value placed in
    record {
      findings = found;
      each = text;
      has_found = has;
      are_explained = each;
      some = λ _. (refl, c.status_of.ensures);
      none = λ e. absurd (true≢false (sym (ap (λ n. n == 0) (c.in_ok-text.text.ok.0 ∙ ap length e)) ∙ sym c.is_empty.ensures ∙ c.if-is_empty.false));
    }
