use Rattle.std.proofs.Common.{◌≡◌, ◌++◌, codes, take}
use Rattle.std.specs.List.{flat_map}
use Rattle.lin_certificate_lines.specs.Telling.{did_text}
use Rattle.lin_certificate_lines.proofs.series.put_all_did.Given as goal

abbrev pub invariant-loop-at : goal.invariant-loop-at
invariant-loop-at l = l.line.items ≡ l.initial.line.items ++ flat_map (λ x. codes ", " ++ did_text l.told l.verb x) (take l.at-index l.others)
