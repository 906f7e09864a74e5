use Rattle.std.proofs.Common.{◌≡◌}
use Rattle.lin_frontier.specs.Placing.{marked}
use Rattle.lin_frontier.proofs.Marking.{partly}
use Rattle.lin_frontier.proofs.pending.mark_crashed.Given as goal

abbrev pub invariant-loop-open : goal.invariant-loop-open
invariant-loop-open l = l.open-items ≡ partly (marked l.process) l.open-index l.initial.open-items
