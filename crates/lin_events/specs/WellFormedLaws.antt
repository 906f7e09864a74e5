-- Laws of well-formed histories.
use Rattle.std.specs.Prelude.{◌≡◌, ◌≢◌, ◌↔◌, ◌<◌, ℕ, Bool, List, [], ◌∷◌, ◌++◌, take}
use Rattle.lin_events.specs.declared.items.Item.{Item}
use Rattle.lin_events.specs.declared.calls.Name.{Name}
use Rattle.lin_events.specs.declared.events.Event.{Event}
use Rattle.lin_events.specs.declared.shapes.Cause.{Cause}
use Rattle.lin_events.specs.declared.shapes.Shape.{Shape}
use Rattle.lin_events.specs.declared.shapes.ProcessStatus.{ProcessStatus}
use Rattle.lin_events.specs.Operations.{IsEvent, IsEnd}
use Rattle.lin_events.specs.WellFormed.{left_by, IsStatus, Holds, IsBad, IsShape, IsWellFormed}
use Rattle.lin_events.specs.Alternation.{IsAlternating}

-- a history is well-formed exactly when its operations alternate
abbrev pub WellFormedIsAlternating : Type 0
WellFormedIsAlternating = (functions : Item → Name → Bool) (h : List Event) → IsWellFormed functions h ↔ IsAlternating functions h

-- an operation has at most one end
abbrev pub EndsAreUnique : Type 0
EndsAreUnique = (h : List Event) (at end other : ℕ) (ending another : Event) → IsEnd h at end ending → IsEnd h at other another → (end ≡ other) × (ending ≡ another)

-- each beginning of a well-formed history is well-formed
abbrev pub BeginningsAreWellFormed : Type 0
BeginningsAreWellFormed = (functions : Item → Name → Bool) (h : List Event) (n : ℕ) → IsWellFormed functions h → IsWellFormed functions (take n h)

-- an event decides what its process is after it
abbrev pub EventsDecideStatuses : Type 0
EventsDecideStatuses = (h : List Event) (event : Event) → IsStatus (h ++ event ∷ []) event.process (left_by event)

-- and leaves every other process as it was
abbrev pub OtherStatusesStay : Type 0
OtherStatusesStay = (h : List Event) (event : Event) (process : ℕ) (status : ProcessStatus) → event.process ≢ process → IsStatus h process status → IsStatus (h ++ event ∷ []) process status

-- where no cause holds, the position is not bad
abbrev pub NoCauseIsGood : Type 0
NoCauseIsGood = (functions : Item → Name → Bool) (h : List Event) (at : ℕ) (event : Event) (status : ProcessStatus) → IsEvent h at event → IsStatus (take at h) event.process status
    → ((cause : Cause) → Holds functions status event cause → ⊥) → (cause : Cause) → IsBad functions h at cause → ⊥

-- bad in a beginning are the bad positions inside it
abbrev pub BadWithinBeginnings : Type 0
BadWithinBeginnings = (functions : Item → Name → Bool) (h : List Event) (n at : ℕ) (cause : Cause) → IsBad functions (take n h) at cause ↔ ((at < n) × IsBad functions h at cause)

-- objects that have the same functions, at each key of the history, give it the same shape
abbrev pub SameFunctionsSameShape : Type 0
SameFunctionsSameShape = (functions other : Item → Name → Bool) (h : List Event) (shape : Shape)
    → ((k : ℕ) (event : Event) → IsEvent h k event → functions event.key ≡ other event.key) → IsShape functions h shape → IsShape other h shape

-- a history has at most one shape
abbrev pub ShapesAreUnique : Type 0
ShapesAreUnique = (functions : Item → Name → Bool) (h : List Event) (shape other : Shape) → IsShape functions h shape → IsShape functions h other → shape ≡ other
