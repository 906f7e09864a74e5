use Rattle.std.proofs.Common.{take}
use Rattle.lin_order.specs.inner.Checking.{AreOpen}
use Rattle.lin_order.specs.Refutations.{lists_of}
use Rattle.lin_order.proofs.Sets.{IsCarriedTo}
use Rattle.lin_order.proofs.refutations.is_carried.Given as goal

abbrev pub invariant-loop-at : goal.invariant-loop-at
invariant-loop-at l = record {
  opened : AreOpen (take l.at l.events) l.pending.items;
  carried : IsCarriedTo l.at l.events l.fn.kind (lists_of l.sets);
}
