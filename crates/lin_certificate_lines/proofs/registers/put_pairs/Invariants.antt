use Rattle.std.proofs.Common.{◌≡◌, ◌++◌, take}
use Rattle.std.specs.List.{flat_map}
use Rattle.lin_certificate_lines.specs.Lines.{pair_text}
use Rattle.lin_certificate_lines.proofs.registers.put_pairs.Given as goal

abbrev pub invariant-loop-pair : goal.invariant-loop-pair
invariant-loop-pair l = l.text.items ≡ l.initial.text.items ++ flat_map (pair_text l.told) (take l.pair-index l.pairs)
