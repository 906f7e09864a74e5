-- Laws of sets: a history has a legal order exactly where no operations conflict. It need not be well-formed.
use Rattle.std.specs.Prelude.{List}
use Rattle.lin_events.specs.declared.events.Event.{Event}
use Rattle.lin_objects.specs.declared.kinds.Kind.TheVariants.{Set}
use Rattle.lin_order.specs.Linearizable.{IsLinearizableAs}
use Rattle.lin_sets.specs.Conflicts.{IsInConflict}

-- where operations conflict there is no legal order
abbrev pub ConflictsRefute : Type 0
ConflictsRefute = (h : List Event) → IsInConflict h → IsLinearizableAs Set h → ⊥

-- where none conflict there is one
abbrev pub OthersAreLinearizable : Type 0
OthersAreLinearizable = (h : List Event) → (IsInConflict h → ⊥) → IsLinearizableAs Set h
