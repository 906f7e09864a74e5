use Rattle.std.proofs.Common.{◌≡◌, ◌<◌, ◌≤◌, ℕ, Some, slice_get}
use Rattle.lin_queues.specs.declared.members.Debt.{Debt}
use Rattle.lin_queues.proofs.members.are_unpaid.Given as goal

abbrev pub invariant-loop-at : goal.invariant-loop-at
invariant-loop-at l = record {
  due : (k : ℕ) (debt : Debt) → k < l.at → slice_get l.debts k ≡ Some debt → debt.before ≤ l.time;
  least : (t : ℕ) → ((k : ℕ) (debt : Debt) → k < l.at → slice_get l.debts k ≡ Some debt → debt.before ≤ t) → l.time ≤ t;
  paid : (k : ℕ) → k < l.at → (dequeue : ℕ) × (slice_get l.dequeues k ≡ Some dequeue) × ((t : ℕ) → ((j : ℕ) (debt : Debt) → j ≤ k → slice_get l.debts j ≡ Some debt → debt.before ≤ t) → dequeue < t);
}
