use Rattle.std.proofs.Common.{All, take}
use Rattle.lin_order.specs.Refutations.{AreRising}
use Rattle.lin_order.proofs.refutations.all_rise.Given as goal

abbrev pub invariant-loop-set : goal.invariant-loop-set
invariant-loop-set l = All (λ set. AreRising set.items) (take l.set-index l.sets)
