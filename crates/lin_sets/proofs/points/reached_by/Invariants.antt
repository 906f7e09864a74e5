use Rattle.std.proofs.Common.{◌≡◌, ℕ, suc, Some, length, slice_get}
use Rattle.lin_sets.specs.Points.{IsPoint}
use Rattle.lin_sets.proofs.points.reached_by.Given as goal

abbrev pub invariant-loop-read : goal.invariant-loop-read
invariant-loop-read l = record {
  many : length l.reached.items ≡ suc l.read-index;
  each : (count place : ℕ) → slice_get l.reached.items count ≡ Some place → IsPoint l.first.entries l.reads 0 count place;
  last : IsPoint l.first.entries l.reads 0 l.read-index l.last;
}
