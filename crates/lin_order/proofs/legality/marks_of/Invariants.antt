use Rattle.std.proofs.Common.{◌≡◌, All, length, take}
use Rattle.std.specs.HashMap.{get}
use Rattle.lin_events.specs.Items.{item_eq}
use Rattle.lin_objects.specs.Kinds.{kind_of}
use Rattle.lin_order.specs.Tables.{IsMarked, KeepsOutcome, KeepsRealTime, NamesOnce, NamesOperations}
use Rattle.lin_order.specs.lemmas.Running.{HasRun}
use Rattle.lin_order.proofs.RealTime.{IsLatestOf}
use Rattle.lin_order.proofs.legality.marks_of.Given as goal

abbrev pub invariant-loop-placed : goal.invariant-loop-placed
invariant-loop-placed l = record {
  names : NamesOperations l.events (take l.placed-index l.order);
  once : NamesOnce (take l.placed-index l.order);
  marked : IsMarked (take l.placed-index l.order) l.marks.items;
  length_of : length l.marks.items ≡ length l.events;
  keeps : All (KeepsOutcome l.events) (take l.placed-index l.order);
  in_time : KeepsRealTime l.events (take l.placed-index l.order);
  latest : IsLatestOf (take l.placed-index l.order) l.latest;
  run : HasRun (kind_of l.kinds) l.events (take l.placed-index l.order) (get item_eq l.states);
}
