-- Laws of the part of a history that is of one object: it may be judged alone.
use Rattle.std.specs.Prelude.{◌≡◌, ◌≢◌, ◌≤◌, ◌+◌, ◌↔◌, ℕ, Bool, List, [], ◌∷◌, ◌++◌, length, slice_get, take}
use Rattle.lin_events.specs.declared.items.Item.{Item}
use Rattle.lin_events.specs.declared.events.Event.{Event}
use Rattle.lin_events.specs.declared.calls.Call.{Call}
use Rattle.lin_events.specs.declared.calls.Name.{Name}
use Rattle.lin_events.specs.declared.calls.Reply.{Reply}
use Rattle.lin_events.specs.Operations.{IsEvent, IsOperation, IsEnd, IsOk, IsFailed, IsCrashed, IsOpen}
use Rattle.lin_events.specs.WellFormed.{IsWellFormed}
use Rattle.lin_objects.specs.declared.kinds.Kind.{Kind}
use Rattle.lin_objects.specs.Steps.{Step, start}
use Rattle.lin_order.specs.declared.placed.Placed.{Placed}
use Rattle.lin_order.specs.Orders.{IsBefore, IsOrder, IsOrderFor}
use Rattle.lin_order.specs.Linearizable.{IsLegalOrderFor, IsLegalOrderBy, IsLinearizableFor, IsLinearizableBy}
use Rattle.lin_order.specs.Parts.{part, ArePositionsOf, events_at, IsNth, IsCut, IsRenamed, renamed}

-- the events at the positions of a key are its part
pub record SpellsPart (key : Item) (h : List Event) (positions : List ℕ) : Type 0 where
  pub events_of : events_at h positions ≡ part key h
  pub length_of : length positions ≡ length (part key h)
  pub same : (n at : ℕ) → IsNth positions n at → slice_get (part key h) n ≡ slice_get h at

abbrev pub PositionsSpellParts : Type 0
PositionsSpellParts = (key : Item) (h : List Event) (positions : List ℕ) → ArePositionsOf key h positions → SpellsPart key h positions

-- the empty history has no positions of the key; one more event of the key adds its own, any other event none
pub record Growing (key : Item) (h : List Event) (event : Event) : Type 0 where
  pub more : event.key ≡ key → part key (h ++ event ∷ []) ≡ part key h ++ event ∷ []
  pub same : event.key ≢ key → part key (h ++ event ∷ []) ≡ part key h
  pub position : (positions : List ℕ) → event.key ≡ key → ArePositionsOf key h positions → ArePositionsOf key (h ++ event ∷ []) (positions ++ length h ∷ [])
  pub no_position : (positions : List ℕ) → event.key ≢ key → ArePositionsOf key h positions → ArePositionsOf key (h ++ event ∷ []) positions

abbrev pub NoPositionsAtStart : Type 0
NoPositionsAtStart = (key : Item) → ArePositionsOf key [] []

abbrev pub PartsGrow : Type 0
PartsGrow = (key : Item) (h : List Event) (event : Event) → Growing key h event

-- the part of a prefix is a prefix of the part: as many events as there are positions in the prefix
pub record IsPrefixCut (key : Item) (h : List Event) (positions : List ℕ) (count n : ℕ) : Type 0 where
  pub part_of : part key (take n h) ≡ take count (part key h)
  pub positions_of : ArePositionsOf key (take n h) (take count positions)

abbrev pub PartsOfPrefixes : Type 0
PartsOfPrefixes = (key : Item) (h : List Event) (positions : List ℕ) (count n : ℕ) → ArePositionsOf key h positions → IsCut positions count n → IsPrefixCut key h positions count n

-- each prefix has some of the first positions
abbrev pub PrefixesCutPositions : Type 0
PrefixesCutPositions = (key : Item) (h : List Event) (positions : List ℕ) (n : ℕ) → ArePositionsOf key h positions → (count : ℕ) × (count ≤ length positions) × IsCut positions count n

-- up to and with a position of the key
abbrev pub PartsUpToPositions : Type 0
PartsUpToPositions = (key : Item) (h : List Event) (positions : List ℕ) (i at : ℕ) → ArePositionsOf key h positions → IsNth positions i at → part key (take (at + 1) h) ≡ take (i + 1) (part key h)

-- the part of a well-formed history is well-formed
abbrev pub PartsAreWellFormed : Type 0
PartsAreWellFormed = (functions : Item → Name → Bool) (key : Item) (h : List Event) → IsWellFormed functions h → IsWellFormed functions (part key h)

-- operations stand, end and precede each other in the part as in the whole
pub record IsPartOf (positions : List ℕ) (inner h : List Event) : Type 0 where
  pub events : (n at : ℕ) (event : Event) → IsNth positions n at → IsEvent inner n event ↔ IsEvent h at event
  pub operations : (n at process : ℕ) (key : Item) (call : Call) → IsNth positions n at → IsOperation inner n process key call ↔ IsOperation h at process key call
  pub ends : (n at m end : ℕ) (ending : Event) → IsNth positions n at → IsNth positions m end → IsEnd inner n m ending ↔ IsEnd h at end ending
  -- an operation of the part ends in it
  pub ends_inside : (n at end : ℕ) (ending : Event) → IsNth positions n at → IsEnd h at end ending → (m : ℕ) × IsNth positions m end
  pub oks : (n at m end : ℕ) (reply : Reply) → IsNth positions n at → IsNth positions m end → IsOk inner n m reply ↔ IsOk h at end reply
  pub failed : (n at : ℕ) → IsNth positions n at → IsFailed inner n ↔ IsFailed h at
  pub crashed : (n at : ℕ) → IsNth positions n at → IsCrashed inner n ↔ IsCrashed h at
  pub open_ones : (n at process : ℕ) (key : Item) (call : Call) → IsNth positions n at → IsOpen inner n process key call ↔ IsOpen h at process key call
  pub before : (n at m later : ℕ) → IsNth positions n at → IsNth positions m later → IsBefore inner n m ↔ IsBefore h at later

abbrev pub PartsKeepOperations : Type 0
PartsKeepOperations = (functions : Item → Name → Bool) (key : Item) (h : List Event) (positions : List ℕ) → IsWellFormed functions h → ArePositionsOf key h positions
    → IsPartOf positions (part key h) h

-- the orders of the part are those of the whole for its key, renamed, and are legal together
pub record KeepsOrders (kinds : Item → Kind) (key : Item) (h : List Event) (positions : List ℕ) (inner outer : List Placed) : Type 0 where
  pub orders : IsOrder (part key h) inner ↔ IsOrderFor key h outer
  pub legal : IsLegalOrderBy (start (kinds key)) (Step (kinds key)) (part key h) inner ↔ IsLegalOrderFor kinds key h outer

abbrev pub RenamedOrdersAreLegal : Type 0
RenamedOrdersAreLegal = (functions : Item → Name → Bool) (kinds : Item → Kind) (key : Item) (h : List Event) (positions : List ℕ) (inner outer : List Placed)
    → IsWellFormed functions h → ArePositionsOf key h positions → IsRenamed positions inner outer → KeepsOrders kinds key h positions inner outer

-- each order of the part, and each of the whole for its key, can be renamed, in one way
pub record CanBeRenamed (key : Item) (h : List Event) (positions : List ℕ) : Type 0 where
  pub outer : (order : List Placed) → IsOrder (part key h) order → IsRenamed positions order (renamed positions order)
  pub inner : (order : List Placed) → IsOrderFor key h order → (order' : List Placed) × IsRenamed positions order' order
  pub one : (order other : List Placed) → IsRenamed positions order other → other ≡ renamed positions order

abbrev pub OrdersCanBeRenamed : Type 0
OrdersCanBeRenamed = (key : Item) (h : List Event) (positions : List ℕ) → ArePositionsOf key h positions → CanBeRenamed key h positions

-- a history is linearizable for an object exactly when the object's part of it is linearizable
abbrev pub LinearizableByPart : Type 0
LinearizableByPart = (functions : Item → Name → Bool) (kinds : Item → Kind) (key : Item) (h : List Event) → IsWellFormed functions h
    → IsLinearizableFor kinds key h ↔ IsLinearizableBy (start (kinds key)) (Step (kinds key)) (part key h)
