use Rattle.std.proofs.Common.{◌≡◌, ◌++◌, take}
use Rattle.std.specs.List.{flat_map}
use Rattle.lin_tables.specs.Tables.{entry_line}
use Rattle.lin_tables.proofs.tables.put_list.Given as goal

abbrev pub invariant-loop-entry : goal.invariant-loop-entry
invariant-loop-entry l = l.text.items ≡ l.initial.text.items ++ flat_map (entry_line l.width) (take l.entry-index l.entries)
