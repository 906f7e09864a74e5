use Rattle.std.proofs.Common.{All, take}
use Rattle.lin_order.specs.inner.Checking.{HoldsPlacing}
use Rattle.lin_order.proofs.refutations.holds_placings.Given as goal

abbrev pub invariant-loop-at : goal.invariant-loop-at
invariant-loop-at l = All (HoldsPlacing l.kind l.events l.members.keys l.config) (take l.at-index l.pending)
