use Rattle.std.proofs.Common.{◌≤◌, length, vec_capacity}
use Rattle.lin_order.specs.Merging.{lists_of}
use Rattle.lin_order.proofs.Turns.{IsTakenTo}
use Rattle.lin_order.proofs.merging.take_in_turn.Given as goal

abbrev pub invariant-loop-number : goal.invariant-loop-number
invariant-loop-number l = record {
  taken : IsTakenTo (lists_of l.fn.parts.items) l.ranks l.number-index (lists_of l.parts.items) l.order.items;
  room : length l.ranks ≤ vec_capacity l.order;
}
