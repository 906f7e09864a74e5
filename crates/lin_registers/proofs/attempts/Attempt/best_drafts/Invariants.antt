use Rattle.std.proofs.Common.{vec_len}
use Rattle.lin_registers.proofs.attempts.Attempt.best_drafts.Given as goal

abbrev pub decreases-loop-draft : goal.decreases-loop-draft
decreases-loop-draft l = vec_len l.sorted
