-- Well-formed histories (Herlihy and Wing 1990, section 2): the events of each process alternate between invocations and their completions.
-- Each position is judged by looking back to the last earlier event of its process. `functions` tells which functions the object of a key has.
use Rattle.std.specs.Prelude.{◌≡◌, ◌≢◌, ◌<◌, ◌⊎◌, ℕ, Bool, false, List, Option, MatchOption, take}
use Rattle.lin_events.specs.declared.items.Item.{Item}
use Rattle.lin_events.specs.declared.calls.Call.{Call}
use Rattle.lin_events.specs.declared.calls.Name.{Name}
use Rattle.lin_events.specs.declared.events.Body.{Body}
use Rattle.lin_events.specs.declared.events.Body.TheVariants.{Invoke, Ok, Fail, Info}
use Rattle.lin_events.specs.declared.events.Event.{Event}
use Rattle.lin_events.specs.Operations.{IsEvent, IsOf}
use Rattle.lin_events.specs.Names.{name_of}
use Rattle.lin_events.specs.declared.shapes.Cause.{Cause}
use Rattle.lin_events.specs.declared.shapes.Cause.TheVariants.{RetiredProcess, BusyProcess, NotOfKind, NoInvocation, OtherCall, OtherKey}
use Rattle.lin_events.specs.declared.shapes.Shape.{Shape}
use Rattle.lin_events.specs.declared.shapes.Shape.TheVariants.{Good, Bad}
use Rattle.lin_events.specs.declared.shapes.ProcessStatus.{ProcessStatus}
use Rattle.lin_events.specs.declared.shapes.ProcessStatus.TheVariants.{Idle, Busy, Retired}

-- a completion that names this function
abbrev pub Completes : Body → Name → Type 0
Completes (Invoke call) name = ⊥
Completes (Ok named reply) name = named ≡ name
Completes (Fail named) name = named ≡ name
Completes (Info named) name = named ≡ name

-- what an event leaves its process as: busy after an invocation, idle after an ok or a fail, retired after an info
abbrev pub left_by : Event → ProcessStatus
left_by event = after event.body
  where
    after : Body → ProcessStatus
    after (Invoke call) = Busy (name_of call) event.key
    after (Ok name reply) = Idle
    after (Fail name) = Idle
    after (Info name) = Retired

-- the process's last event
pub record IsLast (h : List Event) (process at : ℕ) (event : Event) : Type 0 where
  pub stands : IsEvent h at event
  pub same : event.process ≡ process
  pub last : (k : ℕ) → at < k → IsOf h process k → ⊥

-- after the events, the process is what its last event left it as; one without an event is idle
abbrev pub IsStatus : List Event → ℕ → ProcessStatus → Type 0
IsStatus h process status = (((k : ℕ) → IsOf h process k → ⊥) × (status ≡ Idle))
    ⊎ ((at : ℕ) × (event : Event) × IsLast h process at event × (status ≡ left_by event))

-- the six causes: when each holds of an event that finds its process in the status
abbrev pub Holds : (Item → Name → Bool) → ProcessStatus → Event → Cause → Type 0
Holds functions status event RetiredProcess = status ≡ Retired
Holds functions status event BusyProcess = (call : Call) × (event.body ≡ Invoke call) × (called : Name) × (key : Item) × (status ≡ Busy called key)
Holds functions status event NotOfKind = (call : Call) × (event.body ≡ Invoke call) × (functions event.key (name_of call) ≡ false)
Holds functions status event NoInvocation = (name : Name) × Completes event.body name × (status ≡ Idle)
Holds functions status event OtherCall = (name : Name) × Completes event.body name × (called : Name) × (key : Item) × (status ≡ Busy called key) × (called ≢ name)
Holds functions status event OtherKey = (name : Name) × Completes event.body name × (called : Name) × (key : Item) × (status ≡ Busy called key) × (key ≢ event.key)

-- the causes in their order
abbrev pub number : Cause → ℕ
number RetiredProcess = 1
number BusyProcess = 2
number NotOfKind = 3
number NoInvocation = 4
number OtherCall = 5
number OtherKey = 6

-- the first cause that holds
pub record IsFirstCause (functions : Item → Name → Bool) (status : ProcessStatus) (event : Event) (cause : Cause) : Type 0 where
  pub holds : Holds functions status event cause
  pub first : (other : Cause) → number other < number cause → Holds functions status event other → ⊥

-- this is the first cause that holds; or none is given, and none holds
abbrev pub IsVerdict : (Item → Name → Bool) → ProcessStatus → Event → Option Cause → Type 0
IsVerdict functions status event verdict = MatchOption verdict ((cause : Cause) → Holds functions status event cause → ⊥) (IsFirstCause functions status event)

-- the position is bad for this cause
pub record IsBad (functions : Item → Name → Bool) (h : List Event) (at : ℕ) (cause : Cause) : Type 0 where
  pub event : Event
  pub stands : IsEvent h at event
  pub status : ProcessStatus
  pub found : IsStatus (take at h) event.process status
  pub caused : IsFirstCause functions status event cause

-- no position is bad; or this one is the least bad one, for this cause
abbrev pub IsShape : (Item → Name → Bool) → List Event → Shape → Type 0
IsShape functions h Good = (k : ℕ) (cause : Cause) → IsBad functions h k cause → ⊥
IsShape functions h (Bad at cause) = IsBad functions h at cause × ((k : ℕ) (other : Cause) → k < at → IsBad functions h k other → ⊥)

-- no position is bad
abbrev pub IsWellFormed : (Item → Name → Bool) → List Event → Type 0
IsWellFormed functions h = IsShape functions h Good
