use Rattle.std.proofs.Common.{take, ◌+◌}
use Rattle.lin_order.proofs.Opening.{AreStillOpen}
use Rattle.lin_order.proofs.refutations.open_after.Given as goal

abbrev pub invariant-loop-at : goal.invariant-loop-at
invariant-loop-at l = AreStillOpen (take (l.n + 1) l.events) (take l.at-index l.pending) l.now.items
