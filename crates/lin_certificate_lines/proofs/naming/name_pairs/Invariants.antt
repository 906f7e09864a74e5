use Rattle.std.proofs.Common.{◌≡◌, ◌++◌, take}
use Rattle.std.specs.List.{flat_map}
use Rattle.lin_certificate_lines.specs.Reasons.{both_of}
use Rattle.lin_certificate_lines.proofs.naming.name_pairs.Given as goal

abbrev pub invariant-loop-pair : goal.invariant-loop-pair
invariant-loop-pair l = l.named.items ≡ l.initial.named.items ++ flat_map both_of (take l.pair-index l.pairs)
