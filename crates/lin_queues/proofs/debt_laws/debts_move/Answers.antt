use Rattle.lin_queues.proofs.Sinking.{sink_lem, domination_lem}
use Rattle.lin_queues.proofs.debt_laws.debts_move.Goals as goal

pub returns-clause-sink : goal.returns-clause-sink
returns-clause-sink c = sink_lem

pub returns-clause-domination : goal.returns-clause-domination
returns-clause-domination c = domination_lem
