use Rattle.std.proofs.Common.{◌≡◌, take}
use Rattle.lin_engines.proofs.witnesses.copied.Given as goal

abbrev pub invariant-loop-placed : goal.invariant-loop-placed
invariant-loop-placed l = l.copy.items ≡ take l.placed-index l.order
