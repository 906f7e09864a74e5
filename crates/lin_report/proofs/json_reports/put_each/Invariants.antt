use Rattle.std.proofs.Common.{◌≡◌, ◌++◌, codes, take}
use Rattle.std.specs.List.{flat_map}
use Rattle.lin_answers.specs.Answers.{kinds_in}
use Rattle.lin_report.specs.Reports.{json_object}
use Rattle.lin_report.proofs.json_reports.put_each.Given as goal

abbrev pub invariant-loop-other : goal.invariant-loop-other
invariant-loop-other l = l.text.items ≡ l.initial.text.items ++ flat_map (λ f. codes "," ++ json_object l.names (kinds_in l.session.present f.key) f) (take l.other-index l.others)
