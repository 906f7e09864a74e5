use Rattle.std.proofs.Common.{◌≡◌, map, take}
use Rattle.lin_tables.specs.Tables.{widest}
use Rattle.lin_tables.proofs.tables.words_width.Given as goal

abbrev pub invariant-loop-entry : goal.invariant-loop-entry
invariant-loop-entry l = l.width ≡ widest (map (λ entry. entry.words.items) (take l.entry-index l.entries))
