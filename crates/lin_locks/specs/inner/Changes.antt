-- What was known of a lock before an event, told from what is known after it and from what the event changed.
use Rattle.std.specs.Prelude.{◌≡◌, ◌-◌, ◌++◌, ℕ, Bool, true, false, List, [], ◌∷◌, Option, None, Some, length, set, take}
use Rattle.std.specs.List.{insert}
use Rattle.lin_events.specs.declared.calls.Call.{Call}
use Rattle.lin_events.specs.declared.calls.Call.TheVariants.{Acquire, Release}
use Rattle.lin_locks.specs.declared.changes.Change.{Change}
use Rattle.lin_locks.specs.declared.changes.Change.TheVariants.{Acquired, Invoked, Released, Stayed}
use Rattle.lin_locks.specs.declared.changes.EndChange.{EndChange}
use Rattle.lin_locks.specs.declared.sides.Closed.{Closed}
use Rattle.lin_locks.specs.declared.sides.Debt.{Debt}
use Rattle.lin_locks.specs.declared.sides.Paid.{Paid}
use Rattle.lin_locks.specs.declared.sides.Side.{Side}
use Rattle.lin_locks.specs.inner.Known.{Known, Part, part_of}
use Rattle.lin_locks.specs.inner.Latest.{with_recalled}

-- the list without its last element
abbrev pub shorter : {A : Type 0} → List A → List A
shorter xs = take (length xs - 1) xs

-- an operation that was closed is open again
abbrev pub reopened : Option Closed → List ℕ → List ℕ
reopened None opens = opens
reopened (Some closed) opens = insert opens closed.place closed.begin

-- a debt that was paid is owed again
abbrev pub unpaid : Option Paid → List Debt → List Debt
unpaid None debts = debts
unpaid (Some paid) debts = insert debts paid.rank paid.debt

-- and its place of the order is empty again
abbrev pub emptied : Option Paid → List (Option ℕ) → List (Option ℕ)
emptied None order = order
emptied (Some paid) order = set order paid.debt.slot None

-- of the one call an operation ended
abbrev pub before_end : EndChange → Part → Part
before_end end part = record { opens = reopened end.closed part.opens; debts = unpaid end.paid part.debts }

-- of the other one an operation is owed since then, or not
abbrev pub before_owing : Bool → Part → Part
before_owing true part = record part { debts = shorter part.debts }
before_owing false part = part

abbrev pub order_before : EndChange → List (Option ℕ) → List (Option ℕ)
order_before end order = emptied end.paid (take end.length order)

-- an operation with the call is open since then
abbrev pub uninvoked : Part → Part
uninvoked part = record part { opens = shorter part.opens }

abbrev pub before_invocation : Call → Known → Known
before_invocation Acquire known = record known { acquires = uninvoked known.acquires }
before_invocation Release known = record known { releases = uninvoked known.releases }
before_invocation other known = known

-- the same once an operation with the call was invoked there
abbrev pub joined : ℕ → Part → Part
joined at part = record part { opens = part.opens ++ at ∷ [] }

abbrev pub invoked : Call → ℕ → Known → Known
invoked Acquire at known = record known { acquires = joined at known.acquires }
invoked Release at known = record known { releases = joined at known.releases }
invoked other at known = known

-- what was known before the event that changed this
abbrev pub undone : Change → Known → Known
undone Stayed known = known
undone (Invoked process call before) known = record (before_invocation call known) { latest = with_recalled known.latest process before }
undone (Acquired end) known = record known {
  held = end.held;
  acquires = before_end end known.acquires;
  releases = before_owing end.owes known.releases;
  order = order_before end known.order;
}
undone (Released end) known = record known {
  held = end.held;
  acquires = before_owing end.owes known.acquires;
  releases = before_end end known.releases;
  order = order_before end known.order;
}

-- what was known before the events that changed these, the first of them first
abbrev pub all_undone : List Change → Known → Known
all_undone [] known = known
all_undone (change ∷ changes) known = undone change (all_undone changes known)

-- the end of an operation of the one side changed this
pub record IsUndone (end : EndChange) (held : Bool) (own own_now other other_now : Side) (order order_now : List (Option ℕ)) : Type 0 where
  pub own_back : before_end end (part_of own_now) ≡ part_of own
  pub other_back : before_owing end.owes (part_of other_now) ≡ part_of other
  pub order_back : order_before end order_now ≡ order
  pub held_back : end.held ≡ held

-- nothing changed
pub record AreAsBefore (own own_now other other_now : Side) (order order_now : List (Option ℕ)) : Type 0 where
  pub own_same : part_of own_now ≡ part_of own
  pub other_same : part_of other_now ≡ part_of other
  pub order_same : order_now ≡ order
