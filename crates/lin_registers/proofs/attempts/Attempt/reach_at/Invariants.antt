use Rattle.std.proofs.Common.{vec_len}
use Rattle.lin_registers.proofs.attempts.Attempt.reach_at.Given as goal

abbrev pub decreases-loop-way : goal.decreases-loop-way
decreases-loop-way l = vec_len l.ways
