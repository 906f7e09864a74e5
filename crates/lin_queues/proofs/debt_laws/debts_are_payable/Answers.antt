use Rattle.lin_queues.proofs.Sinking.{payment_lem, spare_lem}
use Rattle.lin_queues.proofs.debt_laws.debts_are_payable.Goals as goal

pub returns-clause-payment : goal.returns-clause-payment
returns-clause-payment c = payment_lem

pub returns-clause-spare : goal.returns-clause-spare
returns-clause-spare c = spare_lem
