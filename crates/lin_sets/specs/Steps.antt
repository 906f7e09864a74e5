-- What is looked at for one more event of a set.
use Rattle.std.specs.Prelude.{◌≡◌, ◌<◌, ◌≤◌, ◌⊎◌, ◌++◌, ◌∷◌, [], ℕ, Bool, List, Option, None, Some, Contains, length}
use Rattle.lin_events.specs.declared.items.Item.{Item}
use Rattle.lin_events.specs.declared.calls.Call.{Call}
use Rattle.lin_events.specs.declared.calls.Name.{Name}
use Rattle.lin_events.specs.declared.calls.Reply.{Reply}
use Rattle.lin_events.specs.declared.events.Event.{Event}
use Rattle.lin_events.specs.declared.events.Body.TheVariants.{Ok, Fail}
use Rattle.lin_events.specs.Alternation.{IsAlternating}
use Rattle.lin_events.specs.Operations.{IsEnd}
use Rattle.lin_order.specs.Orders.{IsCall}
use Rattle.lin_sets.specs.Places.{place_in}
use Rattle.lin_sets.specs.Parts.{AreAddedBy, Stands}
use Rattle.lin_sets.specs.declared.endings.Endings.{Endings}
use Rattle.lin_sets.specs.Endings.{known_in}

-- the event may come next
abbrev pub MayFollow : List Event → Event → Type 0
MayFollow h event = (functions : Item → Name → Bool) × IsAlternating functions (h ++ event ∷ [])

-- the event that comes next ends the operation, with this call
pub record EndsNext (h : List Event) (event : Event) (at : ℕ) (call : Call) : Type 0 where
  pub ends : IsEnd (h ++ event ∷ []) at (length h) event
  pub called : IsCall (h ++ event ∷ []) at call

-- so that it is ok, with this reply
abbrev pub ReturnsNext : List Event → Event → ℕ → Call → Reply → Type 0
ReturnsNext h event at call reply = EndsNext h event at call × ((name : Name) × (event.body ≡ Ok name reply))

-- so that it failed
abbrev pub FailsNext : List Event → Event → ℕ → Call → Type 0
FailsNext h event at call = EndsNext h event at call × ((name : Name) × (event.body ≡ Fail name))

-- the latest of a place and the first adds of the items of a set; none, where an item has no add
abbrev pub IsLatest : List (Item × Option ℕ) → ℕ → List Item → Option ℕ → Type 0
IsLatest first at s None = (item : Item) × Contains s item × (place_in first item ≡ None)
IsLatest first at s (Some latest) = (at ≤ latest)
    × AreAddedBy first latest s
    × ((at ≡ latest) ⊎ ((item : Item) × Contains s item × (place_in first item ≡ Some latest)))

-- what the set lacks was known late enough for a read that was invoked there and found the set
abbrev pub IsFitting : List (Item × Option ℕ) → Endings → ℕ → List Item → Type 0
IsFitting first endings at s = ((item : Item) → Contains s item → (added : ℕ) × (place_in first item ≡ Some added))
    × ((item : Item) (end : ℕ) → known_in endings item ≡ Some end → (Contains s item → ⊥) → (end < at → ⊥) × AreAddedBy first end s)

-- the same of these items of the set, and of what was known since a place
abbrev pub IsFittingSince : List (Item × Option ℕ) → Endings → ℕ → List Item → ℕ → List Item → Type 0
IsFittingSince first endings at s since items = ((item : Item) → Contains items item → (added : ℕ) × (place_in first item ≡ Some added))
    × ((item : Item) (end : ℕ) → known_in endings item ≡ Some end → (Contains s item → ⊥) → since ≤ end → (end < at → ⊥) × AreAddedBy first end items)

-- or an item has no add, or something that the set lacks was known before the read, or before each add of an item that it found
abbrev pub IsUnfit : List (Item × Option ℕ) → Endings → ℕ → List Item → Type 0
IsUnfit first endings at s = ((item : Item) × Contains s item × (place_in first item ≡ None))
    ⊎ ((item : Item) × (end : ℕ) × (known_in endings item ≡ Some end) × (Contains s item → ⊥)
    × ((end < at) ⊎ ((other : Item) × (added : ℕ) × Contains s other × (place_in first other ≡ Some added) × (end < added))))

-- the first add of the item that stands behind the place
abbrev pub IsNextAdd : List (Option Item) → Item → ℕ → Option ℕ → Type 0
IsNextAdd adds item after None = (at : ℕ) → after < at → Stands adds at item → ⊥
IsNextAdd adds item after (Some next) = (after < next) × Stands adds next item × ((at : ℕ) → after < at → Stands adds at item → next ≤ at)

-- an item whose first add is here now, if one is left, still was added before it was known, and before what reads lack that found it was
abbrev pub MayLose : Endings → List (List Item) → Item → Option ℕ → Type 0
MayLose endings levels item next = (end : ℕ) → known_in endings item ≡ Some end → (at : ℕ) × (next ≡ Some at) × (at ≤ end)
    × ((s : List Item) (other : Item) (known : ℕ) → Contains levels s → Contains s item → known_in endings other ≡ Some known → (Contains s other → ⊥) → at ≤ known)

-- or it wasn't
abbrev pub MayNotLose : Endings → List (List Item) → Item → Option ℕ → Type 0
MayNotLose endings levels item next = (end : ℕ) × (known_in endings item ≡ Some end)
    × ((next ≡ None) ⊎ ((at : ℕ) × (next ≡ Some at) × ((end < at)
    ⊎ ((s : List Item) × (other : Item) × (known : ℕ) × Contains levels s × Contains s item × (known_in endings other ≡ Some known) × (Contains s other → ⊥) × (known < at)))))
