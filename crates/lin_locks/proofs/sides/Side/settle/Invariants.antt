use Rattle.std.proofs.Common.{◌≡◌, drop}
use Rattle.lin_locks.specs.inner.Fillings.{settled}
use Rattle.lin_locks.proofs.sides.Side.settle.Given as goal

abbrev pub invariant-loop-at : goal.invariant-loop-at
invariant-loop-at l = settled (drop l.at l.self.debts.items) (drop l.at l.self.open.items) l.order.items ≡ settled l.self.debts.items l.self.open.items l.initial.order.items
