use Rattle.std.proofs.Common.{take}
use Rattle.std.specs.List.{AllZip}
use Rattle.lin_tables.specs.WindowTables.{IsRow, told_of}
use Rattle.lin_tables.proofs.rows.rows_of.Given as goal

abbrev pub invariant-loop-chosen : goal.invariant-loop-chosen
invariant-loop-chosen l = AllZip (IsRow (told_of l.stretch)) (take l.chosen-index l.shown) l.rows.items
