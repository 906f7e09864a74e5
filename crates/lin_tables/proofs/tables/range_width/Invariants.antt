use Rattle.std.proofs.Common.{◌≡◌, map, take}
use Rattle.lin_tables.specs.Tables.{widest}
use Rattle.lin_tables.proofs.tables.range_width.Given as goal

abbrev pub invariant-loop-row : goal.invariant-loop-row
invariant-loop-row l = l.width ≡ widest (map (λ row. row.range.items) (take l.row-index l.rows))
