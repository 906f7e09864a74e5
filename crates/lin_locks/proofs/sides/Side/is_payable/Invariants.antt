use Rattle.std.proofs.Common.{◌≡◌, ◌<◌, ℕ, Some, slice_get}
use Rattle.lin_locks.specs.declared.sides.Debt.{Debt}
use Rattle.lin_locks.proofs.sides.Side.is_payable.Given as goal

abbrev pub invariant-loop-at : goal.invariant-loop-at
invariant-loop-at l = (k : ℕ) (debt : Debt) → k < l.at → slice_get l.self.debts.items k ≡ Some debt → (begin : ℕ) × (slice_get l.self.open.items k ≡ Some begin) × (begin < debt.until)
