use Rattle.std.proofs.Common.{◌≡◌, ◌++◌, map, reverse, take, drop}
use Rattle.lin_order.specs.Merging.{lists_of}
use Rattle.lin_order.proofs.merging.turn_each.Given as goal

abbrev pub invariant-loop-part : goal.invariant-loop-part
invariant-loop-part l = lists_of l.part-items ≡ map reverse (take l.part-index (lists_of l.initial.part-items)) ++ drop l.part-index (lists_of l.initial.part-items)
