use Rattle.std.proofs.Common.{◌≡◌, inl, inr, sym, ap, subst, ◌∙◌, option_map, unwrap_or}
use Rattle.lin_program.specs.CommandLine.{SpellsCount}
use Rattle.lin_program.proofs.said.settings_of.Goals as goal

pub returns-in_default-count_of-clause-none : goal.returns-in_default-count_of-clause-none
returns-in_default-count_of-clause-none c = inr (inl (λ text n given spelled.
    let same : text ≡ c.in-Some-text_of.budget.now = ap (λ o. unwrap_or o text) (sym given ∙ sym c.text_of-2.ensures ∙ ap (option_map (λ t. t.now)) c.in-Some-text_of.is) in
    c.in_default-count_of.ensures.none n (subst (λ t. SpellsCount t n) same spelled)))
