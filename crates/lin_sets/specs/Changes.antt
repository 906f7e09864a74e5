-- What each event changed: enough to take it back.
use Rattle.std.specs.Prelude.{◌≡◌, ℕ, List, Some, length, take, slice_get}
use Rattle.lin_events.specs.declared.items.Item.{Item}
use Rattle.lin_events.specs.declared.calls.Call.{Call}
use Rattle.lin_events.specs.declared.calls.Call.TheVariants.{Read, Add}
use Rattle.lin_events.specs.declared.calls.Reply.TheVariants as Replied
use Rattle.lin_events.specs.declared.events.Event.{Event}
use Rattle.lin_events.specs.declared.events.Body.TheVariants.{Invoke}
use Rattle.lin_events.specs.Operations.{IsEvent}
use Rattle.lin_sets.specs.declared.changes.Change.{Change}
use Rattle.lin_sets.specs.declared.changes.Change.TheVariants.{Invoked, Found, FoundAgain, Failed, Ended}
use Rattle.lin_sets.specs.Parts.{IsFound, IsLatestOf}
use Rattle.lin_sets.specs.Steps.{FailsNext, ReturnsNext}

-- what the event that comes next changes: it invokes an operation of a process, which invoked this one last; or it is the first by which a read
-- found this; or a read found by it what another one had found; or by it an add failed; or none of these
abbrev pub Makes : List Event → Event → Change → Type 0
Makes h event (Invoked process call before) = (event.process ≡ process) × (event.body ≡ Invoke call) × IsLatestOf h process before
Makes h event (Found s) = (at : ℕ) × ReturnsNext h event at Read (Replied.Members s) × ((other end : ℕ) → IsFound h other end s → ⊥)
Makes h event FoundAgain = (at : ℕ) × (s : List Item) × ReturnsNext h event at Read (Replied.Members s) × ((other : ℕ) × (end : ℕ) × IsFound h other end s)
Makes h event (Failed at item) = FailsNext h event at (Add item)
Makes h event Ended = ((call : Call) → event.body ≡ Invoke call → ⊥)
    × ((at : ℕ) (s : List Item) → ReturnsNext h event at Read (Replied.Members s) → ⊥)
    × ((at : ℕ) (item : Item) → FailsNext h event at (Add item) → ⊥)

-- those are the changes of the events
pub record AreChanges (changes : List Change) (h : List Event) : Type 0 where
  pub counted : length changes ≡ length h
  pub each : (at : ℕ) (change : Change) → slice_get changes at ≡ Some change → (event : Event) × IsEvent h at event × Makes (take at h) event change
