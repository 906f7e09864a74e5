use Rattle.std.proofs.Common.{inl, inr}
use Rattle.lin_report.proofs.checks.find.Goals as goal

pub returns-in-Whole-clause-found : goal.returns-in-Whole-clause-found
returns-in-Whole-clause-found g c =
    let read = rw c.in-Whole.is at c.in_ok-history.ensures.read in
    let report = rw (c.count-passed.ensures, c.passed.ensures) at c.in_ok-report_of-in-Whole.ensures in
    (read.0, read.1, read.2, (c.read_history.new.names, c.names_are_apart.ensures, inr (c.in-Whole.events.items, read.4, read.3, (_, _, read.5, report))))

pub returns-clause-found : goal.returns-clause-found
returns-clause-found g c =
    let read = rw c.in-Refused.is at c.in_ok-history.ensures.read in
    let line = c.in_ok-refused-in-Refused.ensures in
    (read.0, read.1, read.2, (c.read_history.new.names, c.names_are_apart.ensures, inl (c.in-Refused.refusal, read.4, read.3, line.0, line.1)))
