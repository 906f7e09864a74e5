use Rattle.std.proofs.Common.{Contains, subst, ◌∙◌}
use Rattle.lin_compressed_frontier.proofs.compressed.Compressed.is_surely_over.Goals as goal

pub returns : goal.returns
returns g c more functions h nodes well_formed opened frontier =
    c.in_ok-is_over.ensures more functions h nodes well_formed opened (frontier.covering.spelled c.in-Some.member.now (subst (λ l. Contains l c.in-Some.member.now) (c.deref.ensures.value ∙ c.self.view_is) c.in-Some.ensures))
