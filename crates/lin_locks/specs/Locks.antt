-- What a lock tells of its events.
use Rattle.std.specs.Prelude.{◌≡◌, ◌≤◌, ℕ, Bool, List, drop, length, take}
use Rattle.lin_events.specs.declared.items.Item.{Item}
use Rattle.lin_events.specs.declared.calls.Name.{Name}
use Rattle.lin_events.specs.declared.events.Event.{Event}
use Rattle.lin_events.specs.Operations.{IsEvent}
use Rattle.lin_events.specs.WellFormed.{IsWellFormed}
use Rattle.lin_objects.specs.declared.kinds.Kind.TheVariants.{Mutex}
use Rattle.lin_order.specs.Linearizable.{IsLinearizableAs}
use Rattle.lin_locks.specs.declared.locks.Lock.{Lock}
use Rattle.lin_locks.specs.inner.Changes.{all_undone}
use Rattle.lin_locks.specs.inner.Known.{Known, known_of}
use Rattle.lin_locks.specs.inner.Room.{HoldsBoth}
use Rattle.lin_locks.specs.inner.Turns.{IsRight}

-- how many events were taken in
abbrev pub reached_in : Lock → ℕ
reached_in lock = length lock.changes.items

-- what was known after the first so many of them
abbrev pub known_at : Lock → ℕ → Known
known_at lock place = all_undone (drop place lock.changes.items) (known_of lock.standing)

-- the lock is that of the first of these events, as many as were taken in: what was known at each place is right of the events before it,
-- and there is room for it
pub record IsLockOf (lock : Lock) (h : List Event) : Type 0 where
  pub within : reached_in lock ≤ length h
  pub right : (place : ℕ) → place ≤ reached_in lock → IsRight (known_at lock place) (take place h)
  pub room : (place : ℕ) → HoldsBoth lock.standing (known_at lock place)

-- the event is the next one of well-formed events of which it is the lock
pub record IsNextOf (lock : Lock) (h : List Event) (event : Event) : Type 0 where
  pub told : IsLockOf lock h
  pub well_formed : (functions : Item → Name → Bool) × IsWellFormed functions h
  pub stands : IsEvent h (reached_in lock) event

-- it is the lock of the same events
abbrev pub IsStill : Lock → Lock → Type 0
IsStill old new = (reached_in new ≡ reached_in old) × ((h : List Event) → IsLockOf old h → IsLockOf new h)

-- a lock tells that the events that were taken in have a legal order
abbrev pub LocksTell : Type 0
LocksTell = (lock : Lock) (h : List Event) → IsLockOf lock h → IsLinearizableAs Mutex (take (reached_in lock) h)
