use Rattle.std.proofs.Common.{length}
use Rattle.lin_compressed_frontier.proofs.exchanges.are_some_alike.Given as goal

abbrev pub decreases-loop-last : goal.decreases-loop-last
decreases-loop-last l = length l.rest
