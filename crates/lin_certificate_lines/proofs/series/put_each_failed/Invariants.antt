use Rattle.std.proofs.Common.{◌≡◌, ◌++◌, take}
use Rattle.std.specs.List.{flat_map}
use Rattle.lin_certificate_lines.specs.Series.{fact_text}
use Rattle.lin_certificate_lines.specs.declared.told.Verb.TheVariants.{Failed}
use Rattle.lin_certificate_lines.proofs.series.put_each_failed.Given as goal

abbrev pub invariant-loop-at : goal.invariant-loop-at
invariant-loop-at l = l.text.items ≡ l.initial.text.items ++ flat_map (fact_text l.told Failed) (take l.at-index l.list)
