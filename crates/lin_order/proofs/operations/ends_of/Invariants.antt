use Rattle.std.proofs.Common.{take, nat_eq}
use Rattle.std.specs.HashMap.{get}
use Rattle.lin_order.specs.Tables.{IsNextTable}
use Rattle.lin_order.proofs.Latest.{IsLatest}
use Rattle.lin_order.proofs.operations.ends_of.Given as goal

abbrev pub invariant-loop-at : goal.invariant-loop-at
invariant-loop-at l = record { table : IsNextTable (take l.at l.events) l.ends.items; latest : IsLatest (take l.at l.events) (get nat_eq l.latest) }
