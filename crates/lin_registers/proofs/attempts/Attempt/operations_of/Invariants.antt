use Rattle.std.proofs.Common.{vec_len}
use Rattle.lin_registers.proofs.attempts.Attempt.operations_of.Given as goal

abbrev pub decreases-loop-step : goal.decreases-loop-step
decreases-loop-step l = vec_len l.chain
