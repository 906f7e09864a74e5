use Rattle.std.proofs.Common.{inl, inr}
use Rattle.lin_tables.specs.lemmas.Standing.{crashed_never}
use Rattle.lin_tables.proofs.failing_operations.return_of.Goals as goal

pub returns-in-Returned : goal.returns-in-Returned
returns-in-Returned c = inl (c.in-Returned.field-1.now, c.in-Returned.ensures)

pub returns-in-Failed : goal.returns-in-Failed
returns-in-Failed c = inr c.in-Failed.ensures

pub returns-in-Crashed : goal.returns-in-Crashed
returns-in-Crashed c end returned =
    let is = c.in-Crashed.ensures in
    crashed_never c.args.events.now c.args.at c.in-Crashed.field-0 is.0 is.2 is.1 is.3 end returned

pub returns-in-Open : goal.returns-in-Open
returns-in-Open c = c.in-Open.ensures.0
