use Rattle.std.proofs.Common.{All, take}
use Rattle.lin_order.specs.inner.Checking.{HoldsLeftOf}
use Rattle.lin_order.proofs.refutations.holds_all_left.Given as goal

abbrev pub invariant-loop-config : goal.invariant-loop-config
invariant-loop-config l = All (HoldsLeftOf l.event l.members.keys) (take l.config-index l.set)
