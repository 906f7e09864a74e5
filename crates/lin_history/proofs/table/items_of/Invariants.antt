use Rattle.std.proofs.Common.{◌≡◌, map, drop, ◌++◌, option_map}
use Rattle.lin_edn.specs.Value.{values_of}
use Rattle.lin_edn.specs.View.{view}
use Rattle.lin_names.specs.Names.{AgreesWith, Begins}
use Rattle.lin_history.specs.Reading.{Reading}
use Rattle.lin_history.specs.Table.{items_of}
use Rattle.lin_history.proofs.table.items_of.Given as goal

abbrev pub invariant-loop-element : goal.invariant-loop-element
invariant-loop-element l = Begins l.fn.names l.names × ((m : Reading) → AgreesWith l.names m.number →
    items_of m (values_of (map view l.elements)) ≡ option_map (λ is. l.found.items ++ is) (items_of m (values_of (map view (drop l.element-index l.elements)))))
