use Rattle.std.proofs.Common.{vec_len}
use Rattle.lin_compressed_frontier.proofs.scratch.give_up_all.Given as goal

abbrev pub decreases-loop-member : goal.decreases-loop-member
decreases-loop-member g l = vec_len l.members
