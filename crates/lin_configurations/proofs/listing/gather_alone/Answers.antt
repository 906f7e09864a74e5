use Rattle.std.proofs.Common.{◌∷◌, ◌++◌, [], ap, ◌∙◌}
use Rattle.lin_configurations.proofs.listing.gather_alone.Goals as goal

pub returns : goal.returns
returns g c = c.in_ok-push.ensures ∙ ap (λ l. l ++ c.in_ok-bare.field-0 ∷ []) c.new-one.ensures ∙ ap (λ m. m ∷ []) c.in_ok-bare.ensures
