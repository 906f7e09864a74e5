use Rattle.std.proofs.Common.{take}
use Rattle.lin_order.specs.Refutations.{AreRising}
use Rattle.lin_order.proofs.refutations.are_rising.Given as goal

abbrev pub invariant-loop-config : goal.invariant-loop-config
invariant-loop-config l = AreRising (take l.config-index l.set)
