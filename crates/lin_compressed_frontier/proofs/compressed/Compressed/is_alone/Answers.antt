use Rattle.std.proofs.Common.{◌∙◌, Contains, subst, sym}
use Rattle.lin_compressed_frontier.proofs.compressed.Compressed.is_alone.Goals as goal

pub returns-then-is_counted-clause-fits : goal.returns-then-is_counted-clause-fits
returns-then-is_counted-clause-fits g c alone overwriting m there = c.are_alone.ensures alone m (subst (λ l. Contains l m) (sym (c.deref.ensures.value ∙ c.self.view_is)) there)
