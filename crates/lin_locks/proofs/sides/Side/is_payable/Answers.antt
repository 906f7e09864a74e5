use Rattle.std.proofs.Common.{◌<◌, get_or, length, arith}
use Rattle.std.proofs.lemmas.Option.{slice_get-get_or}
use Rattle.lin_locks.specs.declared.sides.Debt.{Debt}
use Rattle.lin_locks.proofs.sides.Side.is_payable.Goals as goal

pub returns-then-not-pays-clause-unpaid : goal.returns-then-not-pays-clause-unpaid
returns-then-not-pays-clause-unpaid c = λ is.
    let debts = c.args.self.now.debts.items in
    let at = c.loop-at.at in
    let none : Debt = record { until = 0; slot = 0 } in
    let inside : at < length debts = omega arith in
    let debt = get_or debts at none in
    let there = slice_get-get_or debts at none inside in
    (at, debt, there, λ begin found. c.pays.ensures.late c.if-not-pays.true debt begin there found)
