use Rattle.lin_report.proofs.json_reports.put_front.Goals as goal

pub returns : goal.returns
returns c = rw (c.failing_key-failed.ensures, c.deref.ensures.value) at c.put_front_of.ensures
