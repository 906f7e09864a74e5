use Rattle.lin_tables.specs.lemmas.Standing.{endless_never, invoke_never}
use Rattle.lin_tables.proofs.failing_operations.outcome_of.Goals as goal

pub returns-in_default : goal.returns-in_default
returns-in_default c = endless_never c.args.events.now c.args.at c.in_default.ensures

pub returns-in-Invoke : goal.returns-in-Invoke
returns-in-Invoke c = invoke_never c.args.events.now c.args.at c.in-Some.end c.in-Some.ending.now c.in-Invoke.field-0 c.in-Some.ensures c.in-Invoke.is
