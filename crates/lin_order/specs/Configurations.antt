-- Configurations of a history that has one object: where its legal orders end, and what they place of the open operations. They are
-- defined by whole orders, not event by event.
use Rattle.std.specs.Prelude.{◌≡◌, ◌≢◌, ◌⊎◌, ◌+◌, ◌<◌, ℕ, List, [], ◌∷◌, ◌++◌, length, All, AllPairs, Contains}
use Rattle.lin_events.specs.declared.items.Item.{Item}
use Rattle.lin_events.specs.declared.events.Event.{Event}
use Rattle.lin_events.specs.declared.calls.Call.{Call}
use Rattle.lin_events.specs.declared.calls.Reply.{Reply}
use Rattle.lin_events.specs.Operations.{IsOpen}
use Rattle.lin_order.specs.declared.placed.Placed.{Placed}
use Rattle.lin_order.specs.Orders.{IsOrder, Places}
use Rattle.lin_order.specs.Linearizable.{Runs}

-- processes with replies, by strictly rising process
abbrev pub IsRising : List (ℕ × Reply) → Type 0
IsRising placed = AllPairs (λ p q. p.0 < q.0) placed

-- the open operations of the order with their replies, each named by its process
pub record IsPlacedBy (h : List Event) (order : List Placed) (placed : List (ℕ × Reply)) : Type 0 where
  pub rising : IsRising placed
  pub sound : (process : ℕ) (reply : Reply) → Contains placed (process, reply) → (at : ℕ) × (key : Item) × (call : Call) × IsOpen h at process key call × Places order at reply
  pub complete : (at process : ℕ) (key : Item) (call : Call) (reply : Reply) → IsOpen h at process key call → Places order at reply → Contains placed (process, reply)

-- the order is legal, ends in this state, and has just these open operations, with these replies
pub record EndsIn {S : Type 0} (start : S) (step : S → Call → S → Reply → Type 0) (h : List Event) (order : List Placed) (c : S × List (ℕ × Reply)) : Type 0 where
  pub order_of : IsOrder h order
  pub runs : Runs step h start order c.0
  pub placed : IsPlacedBy h order c.1

-- a configuration: a state and open operations with replies, in which some legal order ends
abbrev pub IsConfiguration : {S : Type 0} → S → (S → Call → S → Reply → Type 0) → List Event → S × List (ℕ × Reply) → Type 0
IsConfiguration start step h c = (order : List Placed) × EndsIn start step h order c

-- the one list is the other and the pair, whose process was not there
pub record IsAdded (process : ℕ) (reply : Reply) (without with_it : List (ℕ × Reply)) : Type 0 where
  pub absent : (other : Reply) → Contains without (process, other) → ⊥
  pub before : IsRising without
  pub rising : IsRising with_it
  pub kept : (x : ℕ × Reply) → Contains without x → Contains with_it x
  pub has : Contains with_it (process, reply)
  pub was : (x : ℕ × Reply) → Contains with_it x → Contains without x ⊎ ((process, reply) ≡ x)

-- an operation that is open in the history and has no place yet is placed, by a step of the object
pub record IsPlacing {S : Type 0} (step : S → Call → S → Reply → Type 0) (h : List Event) (c : S × List (ℕ × Reply)) (p : Placed) (d : S × List (ℕ × Reply)) : Type 0 where
  pub process : ℕ
  pub key : Item
  pub call : Call
  pub is_open : IsOpen h p.at process key call
  pub steps : step c.0 call d.0 p.reply
  pub added : IsAdded process p.reply c.1 d.1

-- placing these operations, one after the other, leads from the one configuration to the other
pub data IsPlacedOn {S : Type 0} (step : S → Call → S → Reply → Type 0) (h : List Event) (c : S × List (ℕ × Reply)) : List Placed → S × List (ℕ × Reply) → Type 0 where
  none : IsPlacedOn step h c [] c
  more : {order : List Placed} {d : S × List (ℕ × Reply)} {p : Placed} {e : S × List (ℕ × Reply)} → IsPlacedOn step h c order d → IsPlacing step h d p e → IsPlacedOn step h c (order ++ p ∷ []) e

-- the history has more configurations than the budget
pub record IsOver {S : Type 0} (start : S) (step : S → Call → S → Reply → Type 0) (h : List Event) (budget : ℕ) : Type 0 where
  pub found : List (S × List (ℕ × Reply))
  pub many : length found ≡ budget + 1
  pub configurations : All (IsConfiguration start step h) found
  pub distinct : AllPairs (λ c d. c ≢ d) found
