-- How the history of one object ends: what is told of its linearizability (Herlihy and Wing 1990, section 3), by the event at which it is lost.
use Rattle.std.specs.Prelude.{◌+◌, ◌<◌, ◌≤◌, ℕ, List, length, take}
use Rattle.lin_events.specs.declared.events.Event.{Event}
use Rattle.lin_objects.specs.declared.kinds.Kind.{Kind}
use Rattle.lin_objects.specs.Steps.{Step, start}
use Rattle.lin_order.specs.Configurations.{IsOver}
use Rattle.lin_order.specs.Linearizable.{IsDeadAt, IsLinearizableAs}
use Rattle.lin_engines.specs.declared.ends.End.{End}
use Rattle.lin_engines.specs.declared.ends.End.TheVariants.{Alive, Dead, Over}

-- the beginning up to and with this event has more configurations than the budget
pub record IsOverAt (kind : Kind) (budget : ℕ) (h : List Event) (at : ℕ) : Type 0 where
  pub inside : at < length h
  pub over : IsOver (start kind) (Step kind) (take (at + 1) h) budget

-- what is told is true of the history
abbrev pub IsEndOf : Kind → ℕ → List Event → End → Type 0
IsEndOf kind budget h Alive = IsLinearizableAs kind h
IsEndOf kind budget h (Dead at) = IsDeadAt kind h at
IsEndOf kind budget h (Over at) = IsOverAt kind budget h at
