use Rattle.std.proofs.Common.{get_or, Contains, subst, inl, inr}
use Rattle.std.proofs.lemmas.List.Elements.{Contains-get_or}
use Rattle.lin_lists.specs.lemmas.Elements.{nothing_in}
use Rattle.lin_engines.proofs.outcomes.outcomes.Goals as goal

pub returns-clause-placed : goal.returns-clause-placed
returns-clause-placed c = λ k d inside.
    elim (c.in_ok-place_if_absent.ensures.placed.sound (get_or c.place_if_absent.new.out.items k d) (Contains-get_or c.place_if_absent.new.out.items k d inside)) [
      | inl old ↦ absurd (nothing_in _ (subst (λ l. Contains l (get_or c.place_if_absent.new.out.items k d)) c.new-out.ensures.items old))
      | inr new ↦ new
    ]
