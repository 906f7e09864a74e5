-- What the configurations of a lock's history have in common.
use Rattle.std.specs.Prelude.{◌≡◌, ◌≢◌, ◌<◌, ◌≤◌, ◌+◌, ℕ, Bool, true, false, not, List, ◌∷◌, ◌++◌, All, AllPairs, Contains, Some, length, slice_get}
use Rattle.lin_events.specs.declared.items.Item.{Item}
use Rattle.lin_events.specs.declared.events.Event.{Event}
use Rattle.lin_events.specs.declared.calls.Call.{Call}
use Rattle.lin_events.specs.declared.calls.Call.TheVariants.{Acquire, Release}
use Rattle.lin_events.specs.declared.calls.Reply.{Reply}
use Rattle.lin_events.specs.Operations.{IsOpen}
use Rattle.lin_objects.specs.declared.kinds.Kind.TheVariants.{Mutex}
use Rattle.lin_objects.specs.declared.states.State.{State}
use Rattle.lin_objects.specs.declared.states.State.TheVariants.{Held}
use Rattle.lin_objects.specs.Steps.{Step, start}
use Rattle.lin_order.specs.Configurations.{IsConfiguration}
use Rattle.lin_certificates.specs.Numbers.{AtLeast}
use Rattle.lin_locks.specs.declared.sides.Debt.{Debt}

-- the call that acquires the lock, or else the one that releases it
abbrev pub lock_call : Bool → Call
lock_call true = Acquire
lock_call false = Release

-- a state with what is placed
abbrev pub Config : Type 0
Config = State × List (ℕ × Reply)

-- a configuration of a lock's history
abbrev pub IsOfLock : List Event → Config → Type 0
IsOfLock h c = IsConfiguration (start Mutex) (Step Mutex) h c

-- the operation is open, has the call, and is placed
abbrev pub IsPlacedOpen : List Event → List (ℕ × Reply) → Call → ℕ → Type 0
IsPlacedOpen h placed call at = (process : ℕ) × (key : Item) × (reply : Reply) × IsOpen h at process key call × Contains placed (process, reply)

-- just these places are such
pub record AreAll (P : ℕ → Type 0) (places : List ℕ) : Type 0 where
  pub apart : AllPairs ◌≢◌ places
  pub are : (at : ℕ) → Contains places at → P at
  pub all : (at : ℕ) → P at → Contains places at

-- debts stand in the order of their times
abbrev pub AreRising : List Debt → Type 0
AreRising debts = AllPairs (λ c d. c.until ≤ d.until) debts

-- the first debt from behind the invocation is paid
pub record IsPaid (begin : ℕ) (old : List Debt) (debt : Debt) (new : List Debt) : Type 0 where
  pub before : List Debt
  pub behind : List Debt
  pub was : old ≡ before ++ debt ∷ behind
  pub is : new ≡ before ++ behind
  pub late : begin < debt.until
  pub early : AreRising old → All (λ d. d.until ≤ begin) before

-- whatever the configuration, for each debt there are as many placed operations with the call that were invoked before its time as debts up to and with it
abbrev pub AreOwed : List Event → Call → List Debt → Type 0
AreOwed h call debts = (c : Config) → IsOfLock h c → (k : ℕ) (debt : Debt) → slice_get debts k ≡ Some debt → AtLeast (k + 1) (λ at. IsPlacedOpen h c.1 call at × (at < debt.until))

-- one if these are the same, else none
abbrev pub agrees : Bool → Bool → ℕ
agrees true true = 1
agrees false false = 1
agrees true false = 0
agrees false true = 0

-- what is owed of the one call, the placed operations of the other one, and the lock, if it is as the one call leaves it, are as many as the other way round:
-- `lock` is how it would be if just what is owed were placed
pub record IsBalanced (h : List Event) (one : Bool) (owed others : ℕ) (lock : Bool) (c : Config) : Type 0 where
  pub held : Bool
  pub state : c.0 ≡ Held held
  pub own : List ℕ
  pub other : List ℕ
  pub own_all : AreAll (IsPlacedOpen h c.1 (lock_call one)) own
  pub other_all : AreAll (IsPlacedOpen h c.1 (lock_call (not one))) other
  pub sum : owed + length other + agrees one held ≡ others + length own + agrees one lock
