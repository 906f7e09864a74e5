use Rattle.std.proofs.Common.{◌≡◌, ◌++◌, codes, take}
use Rattle.std.specs.List.{flat_map}
use Rattle.lin_texts.specs.Items.{item_text}
use Rattle.lin_report.proofs.asked_keys.put_listed.Given as goal

abbrev pub invariant-loop-other : goal.invariant-loop-other
invariant-loop-other l = l.text.items ≡ l.initial.text.items ++ flat_map (λ x. codes ", " ++ item_text l.names x) (take l.other-index l.others)
