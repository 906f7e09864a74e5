use Rattle.std.proofs.Common.{arith}
use Rattle.lin_tables.proofs.Quieting.{busy_always, busy_ended}
use Rattle.lin_tables.specs.lemmas.Standing.{end_within}
use Rattle.lin_tables.proofs.quiet.busy_until.Goals as goal

pub returns-in-Some : goal.returns-in-Some
returns-in-Some c =
    busy_ended c.args.events.now c.args.at c.in-Some.end c.in-Some.field-0-1.now (c.is_invoked.ensures.0 c.if-not-is_invoked.false) c.in-Some.ensures

pub returns-in-None : goal.returns-in-None
returns-in-None c = busy_always c.args.events.now c.args.at (c.is_invoked.ensures.0 c.if-not-is_invoked.false) c.in-None.ensures

pub overflow_add-result : goal.overflow_add-result
overflow_add-result c =
    let within = end_within c.args.events.now c.args.at c.in-Some.end c.in-Some.field-0-1.now c.in-Some.ensures in
    omega (arith, within)
