-- The operation at which legal orders end, since when nothing else ran, what ran beside it, and how operations stand. All is said of the
-- events of one object, by their places among these.
use Rattle.std.specs.Prelude.{◌≡◌, ◌≢◌, ◌<◌, ◌≤◌, ℕ, suc, List, length, AllPairs, Contains, ◌↔◌}
use Rattle.lin_events.specs.declared.items.Item.{Item}
use Rattle.lin_events.specs.declared.calls.Call.{Call}
use Rattle.lin_events.specs.declared.calls.Name.{Name}
use Rattle.lin_events.specs.declared.events.Event.{Event}
use Rattle.lin_events.specs.declared.events.Body.TheVariants.{Fail, Info}
use Rattle.lin_events.specs.Alternation.{IsReturn}
use Rattle.lin_events.specs.Operations.{IsCrashed, IsEnd, IsOk, IsOpen}
use Rattle.lin_order.specs.Orders.{IsCall}
use Rattle.lin_tables.specs.declared.failing_operations.Outcome.{Outcome}
use Rattle.lin_tables.specs.declared.failing_operations.Outcome.TheVariants as Stands
use Rattle.lin_tables.specs.declared.counts.Sort.{Sort}
use Rattle.lin_tables.specs.declared.counts.Sort.TheVariants as Sorted

-- an operation begins there
abbrev pub IsInvoked : List Event → ℕ → Type 0
IsInvoked h at = (call : Call) × IsCall h at call

-- the operation whose ok or fail is the last event
abbrev pub IsFailing : List Event → ℕ → Type 0
IsFailing h at = (end : ℕ) × IsReturn h at end × (suc end ≡ length h)

-- the operation has an end before the place, be it a crash
abbrev pub HasEnded : List Event → ℕ → ℕ → Type 0
HasEnded h at place = (end : ℕ) × (ending : Event) × IsEnd h at end ending × (end < place)

-- an operation begins at the place, and each one invoked before has ended by then
pub record IsQuietAt (h : List Event) (place : ℕ) : Type 0 where
  pub begins : IsInvoked h place
  pub ended : (at : ℕ) → at < place → IsInvoked h at → HasEnded h at place

-- the last quiet place that isn't after the operation
pub record IsLastQuiet (h : List Event) (call from : ℕ) : Type 0 where
  pub quiet : IsQuietAt h from
  pub not_after : from ≤ call
  pub last : (place : ℕ) → place ≤ call → IsQuietAt h place → place ≤ from

-- another operation that ran beside the one at `call`: it was not known to be ok or failed when that was invoked
pub record IsBeside (h : List Event) (call at : ℕ) : Type 0 where
  pub other : at ≢ call
  pub begins : IsInvoked h at
  pub running : (end : ℕ) → IsReturn h at end → call ≤ end

-- the operation is neither ok nor failed
abbrev pub IsOpenAt : List Event → ℕ → Type 0
IsOpenAt h at = (process : ℕ) × (key : Item) × (call : Call) × IsOpen h at process key call

-- the operation is open, or even crashed
abbrev pub IsOfSort : List Event → Sort → ℕ → Type 0
IsOfSort h Sorted.Open at = IsOpenAt h at
IsOfSort h Sorted.Crashed at = IsCrashed h at

-- just so many places are such
abbrev pub Exactly : ℕ → (ℕ → Type 0) → Type 0
Exactly count P = (places : List ℕ) × (length places ≡ count) × AllPairs ◌≢◌ places × ((at : ℕ) → P at ↔ Contains places at)

-- how the operation stands after the events: ok with its reply, failed or crashed at its end, or without one
abbrev pub IsOutcome : List Event → ℕ → Outcome → Type 0
IsOutcome h at (Stands.Returned end reply) = IsOk h at end reply.now
IsOutcome h at (Stands.Failed end) = (ending : Event) × IsEnd h at end ending × (name : Name) × (ending.body ≡ Fail name)
IsOutcome h at (Stands.Crashed end) = (ending : Event) × IsEnd h at end ending × (name : Name) × (ending.body ≡ Info name)
IsOutcome h at Stands.Open = ((end : ℕ) → IsReturn h at end → ⊥) × (IsCrashed h at → ⊥)
