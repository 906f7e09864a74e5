use Rattle.std.proofs.Common.{take}
use Rattle.lin_order.specs.Parts.{ArePositionsOf}
use Rattle.lin_explain.proofs.own.picks_of.Given as goal

abbrev pub invariant-loop-at : goal.invariant-loop-at
invariant-loop-at l = ArePositionsOf l.key (take l.at l.present.history) l.picks.items
