use Rattle.lin_tables.proofs.Told.{texts_told, values_told}
use Rattle.lin_tables.proofs.values.values_told_apart.Goals as goal

pub returns-clause-texts : goal.returns-clause-texts
returns-clause-texts c = λ names one other told. texts_told names one other told

pub returns-clause-values : goal.returns-clause-values
returns-clause-values c = λ names once one other fits also told. values_told c.written_items_are_read.ensures c.names_grow.ensures.agree names once one other fits also told
