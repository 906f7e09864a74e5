use Rattle.std.proofs.Common.{[], ◌∷◌, ◌++◌, length, ap, refl, subst, sym, ◌∙◌}
use Rattle.lin_order.specs.Refutations.{AreConfigurations}
use Rattle.lin_chain.proofs.ExactSets.{all_of_none, exact_configurations, one_more_set}
use Rattle.lin_chain.proofs.refuting.Builder.new.Goals as goal

pub returns-clause-built : goal.returns-clause-built
returns-clause-built c h =
    let exact = c.in_ok-exact.ensures.exact h in
    let pushed = c.in_ok-push.ensures.items ∙ ap (λ l. l ++ c.in_ok-set_of.field-0 ∷ []) c.new-sets.ensures.items in
    record {
      exact = exact;
      count = ap length pushed;
      sets = one_more_set c.in_ok-exact.exact.object.kind h 0 [] c.push.new.self.items c.in_ok-set_of.field-0 pushed refl
          (subst (AreConfigurations c.in_ok-exact.exact.object.kind []) (sym c.in_ok-set_of.ensures) (exact_configurations c.in_ok-exact.exact.object.kind [] _ _ exact.configurations))
          (all_of_none c.in_ok-exact.exact.object.kind h);
    }
