use Rattle.std.proofs.Common.{◌≡◌, drop}
use Rattle.lin_texts.specs.Integers.{all_digits, value_after}
use Rattle.lin_texts.proofs.integers.number.Given as goal

-- what the bytes that are left decide, the whole text decides
abbrev pub invariant-loop-byte : goal.invariant-loop-byte
invariant-loop-byte l = record {
  digits : all_digits l.text ≡ all_digits (drop l.byte-index l.text);
  value : value_after 0 l.text ≡ value_after l.value (drop l.byte-index l.text);
}
