-- Orders of the operations of a history (Herlihy and Wing 1990, section 2). An operation is the position of its invocation, and
-- real time is the order of events in the history.
use Rattle.std.specs.Prelude.{◌≢◌, ◌<◌, ℕ, Bool, false, List, All, AllPairs, Contains, IsTrue, filter, slice_get}
use Rattle.std.specs.Option.{option_map_or}
use Rattle.lin_events.specs.declared.items.Item.{Item}
use Rattle.lin_events.specs.Items.{item_eq}
use Rattle.lin_events.specs.declared.events.Event.{Event}
use Rattle.lin_events.specs.declared.calls.Call.{Call}
use Rattle.lin_events.specs.declared.calls.Reply.{Reply}
use Rattle.lin_events.specs.Operations.{IsOperation, IsOk, IsFailed}
use Rattle.lin_order.specs.declared.placed.Placed.{Placed}

-- the one operation is before the other in real time: it was known to be ok ahead of the other's invocation
abbrev pub IsBefore : List Event → ℕ → ℕ → Type 0
IsBefore h earlier later = (end : ℕ) × (reply : Reply) × IsOk h earlier end reply × (end < later)

-- the position is an operation, with this call
abbrev pub IsCall : List Event → ℕ → Call → Type 0
IsCall h at call = (process : ℕ) × (key : Item) × IsOperation h at process key call

-- the order places the operation, with this reply
abbrev pub Places : List Placed → ℕ → Reply → Type 0
Places order at reply = Contains order (record { at = at; reply = reply })

-- an order of the operations that the scope has: operations in sequence, each with its reply. An open one may be there, with
-- any reply, or not
pub record IsOrderOf (scope : ℕ → Type 0) (h : List Event) (order : List Placed) : Type 0 where
  -- each is an operation of the scope
  pub operations : All (λ p. (call : Call) × IsCall h p.at call × scope p.at) order
  -- no operation stands twice
  pub once : AllPairs (λ p q. p.at ≢ q.at) order
  -- no failed one is there
  pub none_failed : All (λ p. IsFailed h p.at → ⊥) order
  -- each ok one is there, with its recorded reply
  pub each_ok : (at end : ℕ) (reply : Reply) → scope at → IsOk h at end reply → Places order at reply
  -- no later one is before an earlier one in real time
  pub real_time : AllPairs (λ p q. IsBefore h q.at p.at → ⊥) order

-- an order of the history
abbrev pub IsOrder : List Event → List Placed → Type 0
IsOrder h order = IsOrderOf (λ at. Unit {0}) h order

-- whether the event at the position is of the key
abbrev pub is_of_key : List Event → Item → ℕ → Bool
is_of_key h key at = option_map_or (λ event. item_eq event.key key) (slice_get h at) false

-- an order of the history for one object, in positions of the whole history
abbrev pub IsOrderFor : Item → List Event → List Placed → Type 0
IsOrderFor key h order = IsOrderOf (λ at. IsTrue (is_of_key h key at)) h order

-- the part of an order that is of the key
abbrev pub part_of : List Event → Item → List Placed → List Placed
part_of h key order = filter (λ p. is_of_key h key p.at) order
