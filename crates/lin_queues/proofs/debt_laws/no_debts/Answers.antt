use Rattle.lin_queues.proofs.DebtsGoing.{none_lem}
use Rattle.lin_queues.proofs.debt_laws.no_debts.Goals as goal

pub returns : goal.returns
returns c = none_lem
