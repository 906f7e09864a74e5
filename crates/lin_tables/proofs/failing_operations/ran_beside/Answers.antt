use Rattle.lin_order.specs.lemmas.Lists.{yes_since}
use Rattle.lin_tables.specs.lemmas.Standing.{beside_ended, beside_open}
use Rattle.lin_tables.proofs.failing_operations.ran_beside.Goals as goal

pub returns-in-Some : goal.returns-in-Some
returns-in-Some c =
    beside_ended c.args.events.now c.args.other c.args.call c.if-other-call.false (c.is_invoked.ensures.0 c.if-not-is_invoked.false) c.in-Some.end c.in-Some.ensures

pub returns-in-None : goal.returns-in-None
returns-in-None c =
    yes_since (beside_open c.args.events.now c.args.other c.args.call c.if-other-call.false (c.is_invoked.ensures.0 c.if-not-is_invoked.false) c.in-None.ensures)
