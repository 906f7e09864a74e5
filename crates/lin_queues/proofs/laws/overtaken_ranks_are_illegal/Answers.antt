use Rattle.lin_queues.proofs.Turning.{rank_law}
use Rattle.lin_queues.proofs.laws.overtaken_ranks_are_illegal.Goals as goal

pub returns : goal.returns
returns c = rank_law
