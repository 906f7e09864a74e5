-- What is told of the events of a set.
use Rattle.std.specs.Prelude.{◌≡◌, ◌<◌, ◌≤◌, ◌⊎◌, ◌∷◌, ◌++◌, [], ℕ, List, Option, None, Some, Contains, AllPairs, length, set, slice_get}
use Rattle.lin_events.specs.declared.items.Item.{Item}
use Rattle.lin_events.specs.declared.calls.Call.{Call}
use Rattle.lin_events.specs.declared.calls.Call.TheVariants.{Read, Add}
use Rattle.lin_events.specs.declared.calls.Reply.{Reply}
use Rattle.lin_events.specs.declared.calls.Reply.TheVariants as Replied
use Rattle.lin_events.specs.declared.events.Event.{Event}
use Rattle.lin_events.specs.Operations.{IsOk, IsFailed, IsOperation}
use Rattle.lin_order.specs.Orders.{IsCall}
use Rattle.lin_certificates.specs.SetConflicts.{HadAt}
use Rattle.lin_sets.specs.Conflicts.{IsAnswer}
use Rattle.lin_sets.specs.declared.openings.Opened.{Opened}
use Rattle.lin_sets.specs.declared.endings.Endings.{Endings}
use Rattle.lin_sets.specs.Openings.{opened_in}
use Rattle.lin_sets.specs.Places.{IsListed, place_in}
use Rattle.lin_sets.specs.Endings.{known_in}
use Rattle.lin_sets.specs.Levels.{IsBelow}

-- the operation is the latest one of its process
pub record IsLatest (h : List Event) (at process : ℕ) (key : Item) (call : Call) : Type 0 where
  pub begins : IsOperation h at process key call
  pub latest : (later : ℕ) (other : Item) (again : Call) → at < later → IsOperation h later process other again → ⊥

-- it is this one, where there is one
abbrev pub IsLatestOf : List Event → ℕ → Option Opened → Type 0
IsLatestOf h process opened = (at : ℕ) (key : Item) (call : Call) → IsLatest h at process key call → opened ≡ Some (record { at = at; call = call })

-- each process has its latest one
abbrev pub AreLatest : List (ℕ × Opened) → List Event → Type 0
AreLatest openings h = (process : ℕ) → IsLatestOf h process (opened_in openings process)

-- each item that was added is listed
abbrev pub AreNoted : List (Item × Option ℕ) → List Event → Type 0
AreNoted first h = (at : ℕ) (item : Item) → IsCall h at (Add item) → IsListed first item

-- an add of the item stands at the place
abbrev pub Stands : List (Option Item) → ℕ → Item → Type 0
Stands adds at item = slice_get adds at ≡ Some (Some item)

-- the adds without the one at a place, and one more place without an add
abbrev pub without : List (Option Item) → ℕ → List (Option Item)
without adds at = set (adds ++ None ∷ []) at None

-- those adds stand that have not failed
pub record AreAdds (adds : List (Option Item)) (h : List Event) : Type 0 where
  pub counted : length adds ≡ length h
  pub stand : (at : ℕ) (item : Item) → Stands adds at item → IsCall h at (Add item) × (IsFailed h at → ⊥)
  pub listed : (at : ℕ) (item : Item) → IsCall h at (Add item) → Stands adds at item ⊎ IsFailed h at

-- the first add of the item that stands is here, or none stands
abbrev pub IsFirst : List (Option Item) → Item → Option ℕ → Type 0
IsFirst adds item None = (at : ℕ) → Stands adds at item → ⊥
IsFirst adds item (Some first) = Stands adds first item × ((at : ℕ) → Stands adds at item → first ≤ at)

-- the set is known to have the item since this place and no earlier one, or never
abbrev pub IsKnown : List Event → Item → Option ℕ → Type 0
IsKnown h item None = (at end : ℕ) → HadAt h at item end → ⊥
IsKnown h item (Some known) = ((at : ℕ) × HadAt h at item known) × ((at end : ℕ) → HadAt h at item end → known ≤ end)

-- the operation is a read that returned there, and found this
abbrev pub IsFound : List Event → ℕ → ℕ → List Item → Type 0
IsFound h at end s = IsCall h at Read × IsOk h at end (Replied.Members s)

-- what reads found, one set inside the next
pub record AreLevels (levels : List (List Item)) (h : List Event) : Type 0 where
  pub each : (s : List Item) → Contains levels s → (at : ℕ) × (end : ℕ) × IsFound h at end s
  pub all : (at end : ℕ) (s : List Item) → IsFound h at end s → Contains levels s
  pub rising : AllPairs IsBelow levels

-- the one read returned before the other
abbrev pub IsEarlier : List Event → ℕ × List Item → ℕ × List Item → Type 0
IsEarlier h q r = (end : ℕ) × (later : ℕ) × IsFound h q.0 end q.1 × IsFound h r.0 later r.1 × (end < later)

-- those are the reads that are ok, each with its place and what it found, in the order in which they returned
pub record AreReads (reads : List (ℕ × List Item)) (h : List Event) : Type 0 where
  pub each : (at : ℕ) (s : List Item) → Contains reads (at, s) → (end : ℕ) × IsFound h at end s
  pub all : (at end : ℕ) (s : List Item) → IsFound h at end s → Contains reads (at, s)
  pub rising : AllPairs (IsEarlier h) reads

-- each item of the set has an add that stands and was invoked by then
abbrev pub AreAddedBy : List (Item × Option ℕ) → ℕ → List Item → Type 0
AreAddedBy first place s = (item : Item) → Contains s item → (at : ℕ) × (place_in first item ≡ Some at) × (at ≤ place)

-- no operations conflict: each reply is one that a set gives; what was in the set was added before; and where a read did not find what was in the set
-- since a place, it was invoked before that place, and what it found was added before it
pub record AreFree (first : List (Item × Option ℕ)) (endings : Endings) (h : List Event) : Type 0 where
  pub answers : (at end : ℕ) (call : Call) (reply : Reply) → IsCall h at call → IsOk h at end reply → IsAnswer call reply
  pub added : (item : Item) (end : ℕ) → known_in endings item ≡ Some end → (at : ℕ) × (place_in first item ≡ Some at) × (at ≤ end)
  pub fits : (at until : ℕ) (s : List Item) (item : Item) (end : ℕ) → IsFound h at until s → known_in endings item ≡ Some end → (Contains s item → ⊥)
      → (end < at → ⊥) × AreAddedBy first end s
