use Rattle.std.proofs.Common.{◌-◌, length}
use Rattle.lin_edn.specs.Rows.{row_end}
use Rattle.lin_names.specs.Names.{Begins}
use Rattle.lin_history.specs.Reading.{Reading, IsReading}
use Rattle.lin_history.specs.Rests.{IsOpen, IsOpenRow}
use Rattle.lin_history.proofs.row.read_maps.Given as goal

abbrev pub invariant-maps : goal.invariant-maps
invariant-maps l = record {
  begun : Begins l.fn.names l.names;
  row : IsOpenRow l.row l.text;
  told : (m : Reading) → IsReading l.keyed l.names m → IsOpen m l.fn.row l.text → IsOpen m l.row l.text;
}

abbrev pub decreases-maps : goal.decreases-maps
decreases-maps l = length l.text - row_end l.row.series
