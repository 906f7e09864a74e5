use Rattle.lin_order.specs.lemmas.Lists.{no_since, yes_since}
use Rattle.lin_tables.proofs.failing_operations.is_invoked.Goals as goal

pub returns-in-Some : goal.returns-in-Some
returns-in-Some c = yes_since (c.in-Some.field-0.now, c.in-Some.ensures)

pub returns-in-None : goal.returns-in-None
returns-in-None c = no_since (λ begins. c.in-None.ensures begins.0 begins.1)
