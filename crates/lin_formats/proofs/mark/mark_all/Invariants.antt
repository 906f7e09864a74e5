use Rattle.std.proofs.Common.{map, take, drop, ◌≤◌}
use Rattle.lin_edn.specs.Value.{values_of}
use Rattle.lin_edn.specs.View.{view}
use Rattle.lin_names.specs.Names.{Begins}
use Rattle.lin_history.specs.Reading.{Reading, IsReading}
use Rattle.lin_history.specs.Stream.{told_by}
use Rattle.lin_formats.specs.inner.Marks.{Fits, IsAmong, IsPutBehind, IsSound}
use Rattle.lin_formats.proofs.mark.mark_all.Given as goal

abbrev pub invariant-loop-item : goal.invariant-loop-item
invariant-loop-item l =
    let before = take l.item-index (map view l.items) in
    record {
      begun : Begins l.fn.names l.names;
      fits : Fits l.text l.next;
      behind : l.part.from.place.offset ≤ l.next.place.offset;
      among : IsAmong l.text l.next.at before (drop l.item-index (map view l.items)) l.part.until;
      put : IsPutBehind l.fn.places.items l.places.items;
      sound : (k : Reading) → IsReading l.keyed l.names k → IsSound k l.text (told_by k (values_of before)) l.part.from l.fn.places.items l.next l.places.items;
    }
