-- Operations of a history (Herlihy and Wing 1990, section 2). A history is a list of events, whose positions count from 0.
use Rattle.std.specs.Prelude.{◌≡◌, ◌<◌, ℕ, List, Some, slice_get}
use Rattle.lin_events.specs.declared.items.Item.{Item}
use Rattle.lin_events.specs.declared.events.Event.{Event}
use Rattle.lin_events.specs.declared.events.Body.TheVariants.{Invoke, Ok, Fail, Info}
use Rattle.lin_events.specs.declared.calls.Call.{Call}
use Rattle.lin_events.specs.declared.calls.Name.{Name}
use Rattle.lin_events.specs.declared.calls.Reply.{Reply}

-- this event stands at the position
abbrev pub IsEvent : List Event → ℕ → Event → Type 0
IsEvent h at event = slice_get h at ≡ Some event

-- the event at the position, if there is one, is of the process
abbrev pub IsOf : List Event → ℕ → ℕ → Type 0
IsOf h process at = (event : Event) × IsEvent h at event × (event.process ≡ process)

-- an operation is the position of an invocation
abbrev pub IsOperation : List Event → ℕ → ℕ → Item → Call → Type 0
IsOperation h at process key call = IsEvent h at (record { process = process; key = key; body = Invoke call })

-- the operation ends with the event at `end`, the least later position of its process
pub record IsEnd (h : List Event) (at end : ℕ) (ending : Event) : Type 0 where
  pub process : ℕ
  pub key : Item
  pub call : Call
  pub begins : IsOperation h at process key call
  pub later : at < end
  pub ends : IsEvent h end ending
  pub same : ending.process ≡ process
  pub least : (k : ℕ) → at < k → k < end → IsOf h process k → ⊥

-- the operation is ok: it took effect, with this reply, and this was known at `end`
abbrev pub IsOk : List Event → ℕ → ℕ → Reply → Type 0
IsOk h at end reply = (ending : Event) × IsEnd h at end ending × (name : Name) × (ending.body ≡ Ok name reply)

-- the operation failed: it did not take effect
abbrev pub IsFailed : List Event → ℕ → Type 0
IsFailed h at = (end : ℕ) × (ending : Event) × IsEnd h at end ending × (name : Name) × (ending.body ≡ Fail name)

-- the operation crashed: whether it took or will take effect is unknown
abbrev pub IsCrashed : List Event → ℕ → Type 0
IsCrashed h at = (end : ℕ) × (ending : Event) × IsEnd h at end ending × (name : Name) × (ending.body ≡ Info name)

-- the operation is open: it is neither ok nor failed
pub record IsOpen (h : List Event) (at process : ℕ) (key : Item) (call : Call) : Type 0 where
  pub begins : IsOperation h at process key call
  pub no_ok : (end : ℕ) (reply : Reply) → IsOk h at end reply → ⊥
  pub no_fail : IsFailed h at → ⊥
