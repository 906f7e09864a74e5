use Rattle.lin_members.specs.Settling.{IsRenamed}
use Rattle.lin_compressed_frontier.proofs.exchanges.settle.Given as goal

abbrev pub invariant-loop-operation : goal.invariant-loop-operation
invariant-loop-operation l = IsRenamed l.pending l.placed l.now
