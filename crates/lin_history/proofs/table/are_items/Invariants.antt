use Rattle.std.proofs.Common.{◌≡◌, map, drop}
use Rattle.std.specs.Option.{is_some}
use Rattle.lin_edn.specs.Value.{values_of}
use Rattle.lin_edn.specs.View.{view}
use Rattle.lin_history.specs.Reading.{Reading}
use Rattle.lin_history.specs.Table.{items_of}
use Rattle.lin_history.proofs.table.are_items.Given as goal

abbrev pub invariant-loop-element : goal.invariant-loop-element
invariant-loop-element l = (m : Reading) →
    is_some (items_of m (values_of (map view l.elements))) ≡ is_some (items_of m (values_of (map view (drop l.element-index l.elements))))
