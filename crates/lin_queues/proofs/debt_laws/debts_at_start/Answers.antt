use Rattle.lin_queues.proofs.DebtsGoing.{start_lem, beginning_lem}
use Rattle.lin_queues.proofs.debt_laws.debts_at_start.Goals as goal

pub returns-clause-start : goal.returns-clause-start
returns-clause-start c = start_lem

pub returns-clause-beginning : goal.returns-clause-beginning
returns-clause-beginning c = beginning_lem
