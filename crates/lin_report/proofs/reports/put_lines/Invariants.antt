use Rattle.std.proofs.Common.{◌≡◌, ◌++◌, take}
use Rattle.lin_answers.specs.Answers.{kinds_in}
use Rattle.lin_report.specs.Reports.{lines_text}
use Rattle.lin_report.proofs.reports.put_lines.Given as goal

abbrev pub invariant-loop-one : goal.invariant-loop-one
invariant-loop-one l = l.text.items ≡ l.fn.text.items ++ lines_text l.names (kinds_in l.session.present) (take l.one-index l.found)
