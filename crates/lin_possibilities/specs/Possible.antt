-- What an object could be after some events, and what an operation that is open then could have returned: by the legal orders of the events
-- (Herlihy and Wing 1990, section 2).
use Rattle.std.specs.Prelude.{◌≢◌, ℕ, List, All, AllPairs, Contains, map}
use Rattle.lin_events.specs.declared.items.Item.{Item}
use Rattle.lin_events.specs.declared.events.Event.{Event}
use Rattle.lin_events.specs.declared.calls.Call.{Call}
use Rattle.lin_events.specs.declared.calls.Reply.{Reply}
use Rattle.lin_events.specs.Operations.{IsOpen}
use Rattle.lin_objects.specs.declared.kinds.Kind.{Kind}
use Rattle.lin_objects.specs.declared.states.State.{State}
use Rattle.lin_objects.specs.Steps.{Step, start}
use Rattle.lin_order.specs.declared.placed.Placed.{Placed}
use Rattle.lin_order.specs.Linearizable.{IsLegalOrderAs, Runs}
use Rattle.lin_order.specs.Orders.{IsOrder, Places}

-- the order is a legal one of the history, and leaves an object of the kind in this state
pub record LeavesIn (kind : Kind) (h : List Event) (order : List Placed) (state : State) : Type 0 where
  pub order_of : IsOrder h order
  pub runs : Runs (Step kind) h (start kind) order state

-- the order is a legal one of the history, and places the open operation of the process with this reply
pub record Answers (kind : Kind) (h : List Event) (process : ℕ) (order : List Placed) (reply : Reply) : Type 0 where
  pub legal : IsLegalOrderAs kind h order
  pub at : ℕ
  pub key : Item
  pub call : Call
  pub is_open : IsOpen h at process key call
  pub placed : Places order at reply

-- all that some order shows, each once, with the number of a way, by which an order is told that shows it
pub record AreShown {T : Type 0} (shows : List Placed → T → Type 0) (tells : ℕ → List Placed → Type 0) (found : List (T × ℕ)) : Type 0 where
  pub sound : All (λ e. (order : List Placed) × tells e.1 order × shows order e.0) found
  pub complete : (order : List Placed) (what : T) → shows order what → Contains (map (λ e. e.0) found) what
  pub once : AllPairs (λ d e. d.0 ≢ e.0) found
