use Rattle.lin_order.specs.lemmas.Lists.{no_since, yes_since}
use Rattle.lin_tables.specs.lemmas.Standing.{open_never, open_since}
use Rattle.lin_tables.proofs.failing_operations.is_open_at.Goals as goal

pub returns-in-Some : goal.returns-in-Some
returns-in-Some c = no_since (λ is. open_never c.args.events.now c.args.at is c.in-Some.field-0 c.in-Some.ensures)

pub returns-in-None : goal.returns-in-None
returns-in-None c = yes_since (open_since c.args.events.now c.args.at (c.is_invoked.ensures.0 c.if-not-is_invoked.false) c.in-None.ensures)
