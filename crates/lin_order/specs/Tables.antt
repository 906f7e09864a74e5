-- What the parts of `check_order` decide, and what the tables hold that it makes on its way: words of private contracts.
use Rattle.std.specs.Prelude.{◌≡◌, ◌≢◌, ◌<◌, ℕ, List, Bool, true, false, length, Option, Some, None, All, AllPairs, slice_index_or, slice_get, unwrap_or}
use Rattle.lin_events.specs.declared.items.Item.{Item}
use Rattle.lin_events.specs.Items.{item_eq}
use Rattle.lin_events.specs.declared.events.Event.{Event}
use Rattle.lin_events.specs.declared.calls.Call.{Call}
use Rattle.lin_events.specs.declared.calls.Reply.{Reply}
use Rattle.lin_events.specs.Operations.{IsOf, IsOperation, IsOk, IsFailed}
use Rattle.lin_objects.specs.declared.kinds.Kind.{Kind}
use Rattle.lin_objects.specs.declared.states.State.{State}
use Rattle.lin_objects.specs.Steps.{Step, start}
use Rattle.lin_order.specs.declared.placed.Placed.{Placed}
use Rattle.lin_order.specs.Orders.{IsBefore, IsCall, Places}

-- the position is an operation on the key, with this call
abbrev pub IsCallOn : List Event → ℕ → Item → Call → Type 0
IsCallOn h at key call = (process : ℕ) × IsOperation h at process key call

-- `next` is the least later position of the process of the event at `at`
pub record IsNext (h : List Event) (at next : ℕ) : Type 0 where
  pub process : ℕ
  pub here : IsOf h process at
  pub later : at < next
  pub there : IsOf h process next
  pub least : (k : ℕ) → at < k → k < next → IsOf h process k → ⊥

-- no later position is of the process of the event at `at`
abbrev pub IsLast : List Event → ℕ → Type 0
IsLast h at = (process : ℕ) → IsOf h process at → (k : ℕ) → at < k → IsOf h process k → ⊥

-- for each position the next one of its process
pub record IsNextTable (h : List Event) (table : List (Option ℕ)) : Type 0 where
  pub length_of : length table ≡ length h
  pub some : (at next : ℕ) → slice_get table at ≡ Some (Some next) → IsNext h at next
  pub none : (at : ℕ) → slice_get table at ≡ Some None → IsLast h at

-- each position of the order is an operation
abbrev pub NamesOperations : List Event → List Placed → Type 0
NamesOperations h order = All (λ p. (call : Call) × IsCall h p.at call) order

-- the order names no position twice
abbrev pub NamesOnce : List Placed → Type 0
NamesOnce order = AllPairs (λ p q. p.at ≢ q.at) order

-- marked are the positions that the order names
pub record IsMarked (order : List Placed) (marks : List Bool) : Type 0 where
  pub sound : (at : ℕ) → slice_index_or marks at false ≡ true → (reply : Reply) × Places order at reply
  pub complete : All (λ p. slice_index_or marks p.at false ≡ true) order

-- the operation did not fail, and if it is ok its reply is the recorded one
pub record KeepsOutcome (h : List Event) (p : Placed) : Type 0 where
  pub not_failed : IsFailed h p.at → ⊥
  pub recorded : (end : ℕ) (reply : Reply) → IsOk h p.at end reply → p.reply ≡ reply

-- each ok operation is marked
abbrev pub MarksEachOk : List Event → List Bool → Type 0
MarksEachOk h marks = (at end : ℕ) (reply : Reply) → IsOk h at end reply → slice_index_or marks at false ≡ true

-- no later operation of the order is before an earlier one in real time
abbrev pub KeepsRealTime : List Event → List Placed → Type 0
KeepsRealTime h order = AllPairs (λ p q. IsBefore h q.at p.at → ⊥) order

-- the state of each object, by its key: the one listed, else its start
abbrev pub state_of : (Item → Kind) → (Item → Option State) → Item → State
state_of kinds listed key = unwrap_or (listed key) (start (kinds key))

-- the object of the key took a step by this call with this reply, and all others stay
pub record Moves (kinds : Item → Kind) (old new : Item → Option State) (key : Item) (call : Call) (reply : Reply) : Type 0 where
  pub steps : Step (kinds key) (state_of kinds old key) call (state_of kinds new key) reply
  pub others : (other : Item) → item_eq key other ≡ false → new other ≡ old other
