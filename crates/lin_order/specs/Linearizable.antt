-- Legal orders, and which histories are linearizable (Herlihy and Wing 1990, sections 2 and 3).
use Rattle.std.specs.Prelude.{◌≡◌, ◌+◌, ℕ, List, [], ◌∷◌, take}
use Rattle.lin_events.specs.declared.items.Item.{Item}
use Rattle.lin_events.specs.declared.events.Event.{Event}
use Rattle.lin_events.specs.declared.calls.Call.{Call}
use Rattle.lin_events.specs.declared.calls.Reply.{Reply}
use Rattle.lin_objects.specs.declared.kinds.Kind.{Kind}
use Rattle.lin_objects.specs.Steps.{Step, start}
use Rattle.lin_order.specs.declared.placed.Placed.{Placed}
use Rattle.lin_order.specs.Orders.{IsCall, IsOrder, IsOrderFor, part_of}

-- an object runs through the order from the one state to the other: each operation's call is a step that gives its reply
abbrev pub Runs : {S : Type 0} → (S → Call → S → Reply → Type 0) → List Event → S → List Placed → S → Type 0
Runs step h from [] to = from ≡ to
Runs {S} step h from (p ∷ order) to = (call : Call) × (next : S) × IsCall h p.at call × step from call next p.reply × Runs step h next order to

-- an object that begins here and takes these steps runs through the order
abbrev pub IsRun : {S : Type 0} → S → (S → Call → S → Reply → Type 0) → List Event → List Placed → Type 0
IsRun {S} start step h order = (last : S) × Runs step h start order last

-- an object of the kind runs through the order from its start
abbrev pub IsLegalFor : Kind → List Event → List Placed → Type 0
IsLegalFor kind h order = IsRun (start kind) (Step kind) h order

-- each object, of the kind that its key has, runs through its part of the order
abbrev pub IsLegal : (Item → Kind) → List Event → List Placed → Type 0
IsLegal kinds h order = (key : Item) → IsLegalFor (kinds key) h (part_of h key order)

-- a legal order of the history
pub record IsLegalOrder (kinds : Item → Kind) (h : List Event) (order : List Placed) : Type 0 where
  pub order_of : IsOrder h order
  pub legal : IsLegal kinds h order

-- a legal order of the history for one object
pub record IsLegalOrderFor (kinds : Item → Kind) (key : Item) (h : List Event) (order : List Placed) : Type 0 where
  pub order_of : IsOrderFor key h order
  pub legal : IsLegalFor (kinds key) h order

-- the history is linearizable
abbrev pub IsLinearizable : (Item → Kind) → List Event → Type 0
IsLinearizable kinds h = (order : List Placed) × IsLegalOrder kinds h order

-- the history is linearizable for one object
abbrev pub IsLinearizableFor : (Item → Kind) → Item → List Event → Type 0
IsLinearizableFor kinds key h = (order : List Placed) × IsLegalOrderFor kinds key h order

-- a legal order of a history that has one object, which begins here and takes these steps
pub record IsLegalOrderBy {S : Type 0} (start : S) (step : S → Call → S → Reply → Type 0) (h : List Event) (order : List Placed) : Type 0 where
  pub order_of : IsOrder h order
  pub legal : IsRun start step h order

-- a history that has one object, which begins here and takes these steps, is linearizable
abbrev pub IsLinearizableBy : {S : Type 0} → S → (S → Call → S → Reply → Type 0) → List Event → Type 0
IsLinearizableBy start step h = (order : List Placed) × IsLegalOrderBy start step h order

-- the order is a legal one of the history, for an object of the kind
abbrev pub IsLegalOrderAs : Kind → List Event → List Placed → Type 0
IsLegalOrderAs kind h order = IsLegalOrderBy (start kind) (Step kind) h order

-- an object of the kind has a legal order of the history
abbrev pub IsLinearizableAs : Kind → List Event → Type 0
IsLinearizableAs kind h = IsLinearizableBy (start kind) (Step kind) h

-- the shortest beginning without a legal order is the one up to and with this event
pub record IsDeadAt (kind : Kind) (h : List Event) (at : ℕ) : Type 0 where
  pub before : IsLinearizableAs kind (take at h)
  pub failing : IsLinearizableAs kind (take (at + 1) h) → ⊥
