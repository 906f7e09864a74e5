-- What is known of the operations of one of a lock's calls, and of both.
use Rattle.std.specs.Prelude.{◌≡◌, ◌≢◌, ◌<◌, ◌≤◌, ◌++◌, ◌∷◌, [], ℕ, Bool, not, List, All, AllPairs, Contains, Some, length, slice_get}
use Rattle.std.specs.List.{remove}
use Rattle.lin_events.specs.declared.items.Item.{Item}
use Rattle.lin_events.specs.declared.events.Event.{Event}
use Rattle.lin_events.specs.declared.calls.Call.{Call}
use Rattle.lin_events.specs.Operations.{IsOpen}
use Rattle.lin_locks.specs.declared.sides.Debt.{Debt}
use Rattle.lin_locks.specs.inner.Known.{Part}
use Rattle.lin_locks.specs.inner.Debts.{AreOwed, AreRising, Config, IsBalanced, IsOfLock, IsPaid, lock_call}

-- the open operations with the call are listed, rising, and what is owed of it
pub record IsSide (h : List Event) (call : Call) (side : Part) : Type 0 where
  pub rising : AllPairs ◌<◌ side.opens
  pub within : (at : ℕ) → Contains side.opens at → at < length h
  pub listed : (at process : ℕ) (key : Item) → IsOpen h at process key call → Contains side.opens at
  pub ordered : AreRising side.debts
  pub past : (debt : Debt) → Contains side.debts debt → debt.until < length h
  pub owed : AreOwed h call side.debts

-- the sides of the one call and of the other one, and the lock as it would be if just what is owed were placed
pub record AreSides (h : List Event) (one : Bool) (own other : Part) (lock : Bool) : Type 0 where
  pub own_side : IsSide h (lock_call one) own
  pub other_side : IsSide h (lock_call (not one)) other
  pub balanced : (c : Config) → IsOfLock h c → IsBalanced h one (length own.debts) (length other.debts) lock c

-- one debt can't be paid together with those before it
abbrev pub IsUnpayable : Part → Type 0
IsUnpayable side = (k : ℕ) × (debt : Debt) × (slice_get side.debts k ≡ Some debt) × ((begin : ℕ) → slice_get side.opens k ≡ Some begin → debt.until ≤ begin)

-- the operation that was invoked there is open no longer
pub record IsClosed (begin : ℕ) (old new : List ℕ) : Type 0 where
  pub kept : (at : ℕ) → Contains old at → at ≢ begin → Contains new at
  pub rising : AllPairs ◌<◌ old → AllPairs ◌<◌ new
  pub none_new : (at : ℕ) → Contains new at → Contains old at

-- and it alone is
abbrev pub IsGone : ℕ → List ℕ → List ℕ → Type 0
IsGone begin old new = AllPairs ◌<◌ old → Contains old begin → (place : ℕ) × (slice_get old place ≡ Some begin) × (new ≡ remove old place)

-- no debt came up behind the invocation
abbrev pub AreEarly : ℕ → List Debt → Type 0
AreEarly begin debts = AreRising debts → All (λ debt. debt.until ≤ begin) debts

-- an operation returns, and pays a debt
pub record IsPaying (begin : ℕ) (old new : Part) : Type 0 where
  pub closed : IsClosed begin old.opens new.opens
  pub gone : IsGone begin old.opens new.opens
  pub debt : Debt
  pub paid : IsPaid begin old.debts debt new.debts

-- or stands last, since no debt came up behind its invocation
pub record IsStanding (begin : ℕ) (old new : Part) : Type 0 where
  pub closed : IsClosed begin old.opens new.opens
  pub gone : IsGone begin old.opens new.opens
  pub debts : new.debts ≡ old.debts
  pub early : AreEarly begin old.debts

-- and one of the other call is owed from then on
pub record IsOwing (until : ℕ) (old new : Part) : Type 0 where
  pub open_same : new.opens ≡ old.opens
  pub debt : Debt
  pub time : debt.until ≡ until
  pub debts : new.debts ≡ old.debts ++ debt ∷ []

-- with a place of its own in the order, and enough that may pay
pub record IsOwingAt (until place : ℕ) (old new : Part) : Type 0 where
  pub owing : IsOwing until old new
  pub slot : owing.debt.slot ≡ place
  pub enough : length old.debts < length old.opens
