use Rattle.std.proofs.Common.{All, take}
use Rattle.lin_order.specs.Refutations.{Config}
use Rattle.lin_order.specs.inner.Checking.{HoldsPlacing}
use Rattle.lin_order.proofs.refutations.is_closed.Given as goal

abbrev pub invariant-loop-config : goal.invariant-loop-config
invariant-loop-config l = All (λ (c : Config). All (HoldsPlacing l.kind l.events l.members.keys c) l.pending) (take l.config-index l.set)
