use Rattle.std.proofs.Common.{sym, ◌∙◌, true≢false}
use Rattle.lin_members.proofs.domination.dominates.Goals as goal

pub returns-else-may_cover : goal.returns-else-may_cover
returns-else-may_cover g c =
    let may = rw (c.pairs.ensures, c.pairs-2.ensures, c.config.ensures) at c.may_cover.ensures in (
      λ t. absurd (true≢false (sym t ∙ c.if-may_cover.false)),
      λ d. may d.part d.rest,
    )
