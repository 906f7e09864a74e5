use Rattle.std.proofs.Common.{sym, ◌∙◌}
use Rattle.lin_history.proofs.Resting.{none_is_blank, is_zero, is_some}
use Rattle.lin_history.proofs.follow.is_blank.Goals as goal

pub returns-then-is_empty : goal.returns-then-is_empty
returns-then-is_empty c = none_is_blank c.args.held.now (is_zero _ (sym c.is_empty.ensures ∙ c.if-is_empty.true))

pub returns : goal.returns
returns c = c.is_comment.ensures c.args.held.now c.requires.1 (is_some _ (sym c.is_empty.ensures ∙ c.if-is_empty.false))
