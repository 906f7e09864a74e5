use Rattle.std.proofs.Common.{take}
use Rattle.lin_order.specs.inner.Checking.{AreSame}
use Rattle.lin_order.proofs.refutations.members_of.Given as goal

abbrev pub invariant-loop-config : goal.invariant-loop-config
invariant-loop-config l = AreSame l.members.keys (take l.config-index l.set)
