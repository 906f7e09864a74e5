use Rattle.std.proofs.Common.{subst}
use Rattle.lin_edn.specs.Skimming.{IsOpenText}
use Rattle.lin_history.proofs.Resting.{rests_blank, rests_unfinished}
use Rattle.lin_history.proofs.follow.resting.Goals as goal

pub returns-then-is_blank-clause-read : goal.returns-then-is_blank-clause-read
returns-then-is_blank-clause-read c = λ m ready. rests_blank m c.args.held.now c.args.place ready (subst (λ b. IsOpenText b c.args.held.now) c.if-is_blank.true c.is_blank.ensures)

pub returns-clause-read : goal.returns-clause-read
returns-clause-read c = λ m ready. rests_unfinished m c.args.held.now c.args.place ready (subst (λ b. IsOpenText b c.args.held.now) c.if-is_blank.false c.is_blank.ensures)
