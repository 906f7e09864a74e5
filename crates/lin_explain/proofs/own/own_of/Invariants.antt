use Rattle.std.proofs.Common.{take}
use Rattle.lin_explain.specs.inner.Own.{IsOwn}
use Rattle.lin_explain.proofs.own.own_of.Given as goal

abbrev pub invariant-loop-at : goal.invariant-loop-at
invariant-loop-at l = IsOwn l.of.key (take l.at l.present.history) l.own
