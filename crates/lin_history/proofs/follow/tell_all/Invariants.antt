use Rattle.std.proofs.Common.{◌≡◌, ◌++◌, List, map, drop}
use Rattle.lin_edn.specs.Value.{values_of}
use Rattle.lin_edn.specs.View.{view}
use Rattle.lin_names.specs.Names.{Begins}
use Rattle.lin_history.specs.Reading.{Reading, IsReading}
use Rattle.lin_history.specs.Stream.{told_by}
use Rattle.lin_history.proofs.Telling.{behind_told}
use Rattle.lin_events.specs.declared.events.Event.{Event}
use Rattle.lin_history.proofs.follow.tell_all.Given as goal

abbrev pub invariant-loop-item : goal.invariant-loop-item
invariant-loop-item l = Begins l.fn.names l.names × ((es : List Event) × (l.ready.items ≡ l.fn.ready.items ++ es) ×
    ((m : Reading) → IsReading l.keyed l.names m →
    told_by m (values_of (map view l.items)) ≡ behind_told es (told_by m (values_of (map view (drop l.item-index l.items))))))
