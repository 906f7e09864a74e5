use Rattle.lin_certificate_lines.proofs.within.acquired_within.Goals as goal

pub returns : goal.returns
returns c = record { all_done = c.in_ok-done.ensures; all_may = c.in_ok-may.ensures; all_failed = c.in_ok-failed.ensures }
