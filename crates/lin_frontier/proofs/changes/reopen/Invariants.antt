use Rattle.std.proofs.Common.{◌≡◌, ◌≤◌, ◌+◌, ◌-◌, ◌++◌, drop, take}
use Rattle.std.specs.Prelude.{vec_len, vec_capacity}
use Rattle.lin_frontier.proofs.changes.reopen.Given as goal

abbrev pub invariant-loop-place : goal.invariant-loop-place
invariant-loop-place l = record {
  from : l.count ≤ l.place;
  items : l.operations.items ≡ l.fn.operations.items ++ take (l.place - l.count) (drop l.count l.ended.items);
  len : vec_len l.operations + l.count ≡ vec_len l.fn.operations + l.place;
  capacity : vec_capacity l.operations ≡ vec_capacity l.fn.operations;
}
