use Rattle.std.proofs.Common.{◌≡◌}
use Rattle.lin_frontier.specs.Opens.{fresh}
use Rattle.lin_frontier.proofs.Freshening.{partly}
use Rattle.lin_frontier.proofs.changes.freshen.Given as goal

abbrev pub invariant-loop-operation : goal.invariant-loop-operation
invariant-loop-operation l = l.operations ≡ partly fresh l.operation-index l.initial.operations
