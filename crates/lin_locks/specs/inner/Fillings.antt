-- The order that goes with a lock: what stands there already, and places for the operations that are owed.
use Rattle.std.specs.Prelude.{◌≡◌, ◌≢◌, ◌<◌, ◌⊎◌, ℕ, suc, Bool, not, List, [], ◌∷◌, AllPairs, Contains, Option, Some, None, cond, nat_eq, set, slice_get}
use Rattle.lin_events.specs.declared.items.Item.{Item}
use Rattle.lin_events.specs.declared.events.Event.{Event}
use Rattle.lin_events.specs.declared.calls.Call.{Call}
use Rattle.lin_events.specs.declared.calls.Reply.{Reply}
use Rattle.lin_events.specs.declared.calls.Reply.TheVariants.{Done}
use Rattle.lin_events.specs.Operations.{IsOk, IsOpen}
use Rattle.lin_objects.specs.declared.kinds.Kind.TheVariants.{Mutex}
use Rattle.lin_objects.specs.declared.states.State.TheVariants.{Held}
use Rattle.lin_objects.specs.Steps.{Step, start}
use Rattle.lin_order.specs.declared.placed.Placed.{Placed}
use Rattle.lin_order.specs.Configurations.{EndsIn}
use Rattle.lin_locks.specs.declared.sides.Debt.{Debt}
use Rattle.lin_locks.specs.inner.Known.{Part}
use Rattle.lin_locks.specs.inner.Debts.{lock_call}

-- the order from its k-th place on, where a payment gives each place that is owed its operation
abbrev pub filled : (ℕ → ℕ) → ℕ → List (Option ℕ) → List Placed
filled pays k [] = []
filled pays k (Some at ∷ order) = record { at = at; reply = Done } ∷ filled pays (suc k) order
filled pays k (None ∷ order) = record { at = pays k; reply = Done } ∷ filled pays (suc k) order

-- a payment that pays one place otherwise
abbrev pub paying : (ℕ → ℕ) → ℕ → ℕ → ℕ → ℕ
paying pays slot at k = cond (nat_eq slot k) at (pays k)

-- the payment that gives the first debts the first operations, in turn
abbrev pub in_turn : List Debt → List ℕ → (ℕ → ℕ) → ℕ → ℕ
in_turn [] opens pays = pays
in_turn (debt ∷ debts) [] pays = pays
in_turn (debt ∷ debts) (at ∷ opens) pays = paying (in_turn debts opens pays) debt.slot at

-- the order in which the first debts are paid by the first operations, in turn
abbrev pub settled : List Debt → List ℕ → List (Option ℕ) → List (Option ℕ)
settled [] opens order = order
settled (debt ∷ debts) [] order = order
settled (debt ∷ debts) (at ∷ opens) order = settled debts opens (set order debt.slot (Some at))

-- each debt is paid by an open operation with the call that was invoked before its time, and no two by one
pub record IsPayment (h : List Event) (call : Call) (debts : List Debt) (pays : ℕ → ℕ) : Type 0 where
  pub opened : (debt : Debt) → Contains debts debt → (process : ℕ) × (key : Item) × IsOpen h (pays debt.slot) process key call
  pub early : (debt : Debt) → Contains debts debt → pays debt.slot < debt.until
  pub once : AllPairs (λ c d. pays c.slot ≢ pays d.slot) debts

-- the places of the debts are empty
abbrev pub HavePlaces : List (Option ℕ) → List Debt → Type 0
HavePlaces order debts = (debt : Debt) → Contains debts debt → slice_get order debt.slot ≡ Some None

-- each debt has a place of its own in the order, and no other place is owed; what stands there already is ok
pub record IsKept (h : List Event) (order : List (Option ℕ)) (own other : List Debt) : Type 0 where
  pub own_places : HavePlaces order own
  pub other_places : HavePlaces order other
  pub own_once : AllPairs (λ c d. c.slot ≢ d.slot) own
  pub other_once : AllPairs (λ c d. c.slot ≢ d.slot) other
  pub apart : (c d : Debt) → Contains own c → Contains other d → c.slot ≢ d.slot
  pub each : (k : ℕ) → slice_get order k ≡ Some None → ((debt : Debt) × Contains own debt × (debt.slot ≡ k)) ⊎ ((debt : Debt) × Contains other debt × (debt.slot ≡ k))
  pub named : (k at : ℕ) → slice_get order k ≡ Some (Some at) → (end : ℕ) × (reply : Reply) × IsOk h at end reply

-- with any payment the order is a legal one, which leaves the lock like that
abbrev pub IsLegalFilled : List Event → Bool → List (Option ℕ) → List Debt → List Debt → Bool → Type 0
IsLegalFilled h one order own other lock = (pays : ℕ → ℕ) → IsPayment h (lock_call one) own pays → IsPayment h (lock_call (not one)) other pays
    → (placed : List (ℕ × Reply)) × EndsIn (start Mutex) (Step Mutex) h (filled pays 0 order) (Held lock, placed)

-- the first operations can pay the debts, in turn
abbrev pub PayInTurn : List ℕ → List Debt → Type 0
PayInTurn opens debts = (k : ℕ) (debt : Debt) → slice_get debts k ≡ Some debt → (begin : ℕ) × (slice_get opens k ≡ Some begin) × (begin < debt.until)

-- the open operations of a side can pay its debts
pub record IsPayable (h : List Event) (call : Call) (side : Part) : Type 0 where
  pub only : (at : ℕ) → Contains side.opens at → (process : ℕ) × (key : Item) × IsOpen h at process key call
  pub pays : PayInTurn side.opens side.debts

-- all of these, told of the one call first
pub record AreFilled (h : List Event) (one : Bool) (order : List (Option ℕ)) (own other : Part) (lock : Bool) : Type 0 where
  pub kept : IsKept h order own.debts other.debts
  pub legal : IsLegalFilled h one order own.debts other.debts lock
  pub own_payable : IsPayable h (lock_call one) own
  pub other_payable : IsPayable h (lock_call (not one)) other
