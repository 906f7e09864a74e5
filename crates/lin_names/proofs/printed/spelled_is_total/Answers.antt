use Rattle.lin_names.specs.lemmas.Printed.{spelled_same, spelled_total}
use Rattle.lin_names.proofs.printed.spelled_is_total.Goals as goal

pub returns-clause-order : goal.returns-clause-order
returns-clause-order c = spelled_total

pub returns-clause-same : goal.returns-clause-same
returns-clause-same c = spelled_same
