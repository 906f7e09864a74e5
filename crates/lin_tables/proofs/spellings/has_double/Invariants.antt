use Rattle.std.proofs.Common.{◌≡◌, false, take}
use Rattle.std.specs.List.{list_any}
use Rattle.lin_tables.specs.Shortening.{is_double}
use Rattle.lin_tables.proofs.spellings.has_double.Given as goal

abbrev pub invariant-loop-number : goal.invariant-loop-number
invariant-loop-number l = list_any (is_double l.word) (take l.number l.names) ≡ false
