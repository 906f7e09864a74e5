use Rattle.std.proofs.Common.{◌≡◌, ◌<◌, ◌≤◌, ℕ, Some, slice_get}
use Rattle.lin_queues.specs.declared.members.Debt.{Debt}
use Rattle.lin_queues.proofs.members.QueueMember.has_debts_of.Given as goal

abbrev pub invariant-loop-at : goal.invariant-loop-at
invariant-loop-at l = (k : ℕ) (x y : Debt) → k < l.at → slice_get l.self.debts.items k ≡ Some x → slice_get l.other.debts.items k ≡ Some y → (x.element ≡ y.element) × (x.item ≡ y.item) × (y.before ≤ x.before)
