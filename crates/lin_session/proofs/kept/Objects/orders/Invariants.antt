use Rattle.std.proofs.Common.{take}
use Rattle.std.specs.List.{AllZip}
use Rattle.lin_objects.specs.Kinds.{kind_of}
use Rattle.lin_order.specs.Linearizable.{IsLegalOrderFor}
use Rattle.lin_order.specs.Merging.{lists_of}
use Rattle.lin_session.proofs.kept.Objects.orders.Given as goal

abbrev pub invariant-loop-i : goal.invariant-loop-i
invariant-loop-i l = AllZip (λ key order. IsLegalOrderFor (kind_of l.kinds) key l.events order) (take l.i l.self.keys.keys) (lists_of l.parts.items)
