use Rattle.std.proofs.Common.{vec_len}
use Rattle.lin_engines.proofs.retold.Retold.reverse_to_places.Given as goal

abbrev pub decreases-loop-placed : goal.decreases-loop-placed
decreases-loop-placed l = vec_len l.order
