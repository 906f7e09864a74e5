use Rattle.std.proofs.Common.{◌++◌, ◌∷◌, [], ℕ, List, sym, ap, subst, ◌∙◌}
use Rattle.lin_frontier.specs.Nodes.{root}
use Rattle.lin_members.specs.inner.Chains.{SpellEach}
use Rattle.lin_members.proofs.chains.Chains.new.Goals as goal

pub returns : goal.returns
returns c =
    subst (λ (ends : List ℕ). SpellEach c.in_ok-with_capacity.field-0.items ends ([] ∷ []))
    (sym (c.in_ok-push.ensures.items ∙ ap (λ (l : List ℕ). l ++ 0 ∷ []) c.in_ok-ends.ensures.items)) (root, tt)
