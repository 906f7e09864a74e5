use Rattle.std.proofs.Common.{◌≡◌, ◌++◌, codes, take}
use Rattle.std.specs.List.{flat_map}
use Rattle.lin_json.specs.Strings.{string_json}
use Rattle.lin_json.proofs.failures.put_words.Given as goal

abbrev pub invariant-loop-other : goal.invariant-loop-other
invariant-loop-other l = l.text.items ≡ l.initial.text.items ++ flat_map (λ w. codes "," ++ string_json w.items) (take l.other-index l.others)
