use Rattle.std.proofs.Common.{sym, ◌∙◌}
use Rattle.lin_frontier.specs.Sameness.{placed_Decides}
use Rattle.lin_members.proofs.domination.are_same.Goals as goal

pub returns : goal.returns
returns c same = (placed_Decides c.args.pairs.now c.args.others.now).0 (sym c.eq.ensures ∙ same)
