-- What the intervals of a set tell of its events.
use Rattle.std.specs.Prelude.{◌≡◌, ◌⊎◌, ◌∷◌, ◌++◌, [], ℕ, Bool, List, Option, Some, AllPairs, length, take}
use Rattle.std.specs.Global.{Vec}
use Rattle.lin_events.specs.declared.items.Item.{Item}
use Rattle.lin_events.specs.declared.calls.Name.{Name}
use Rattle.lin_events.specs.declared.events.Event.{Event}
use Rattle.lin_events.specs.Operations.{IsEvent}
use Rattle.lin_events.specs.WellFormed.{IsWellFormed}
use Rattle.lin_objects.specs.declared.kinds.Kind.TheVariants.{Set}
use Rattle.lin_order.specs.Linearizable.{IsLinearizableAs}
use Rattle.lin_sets.specs.declared.intervals.Intervals.{Intervals}
use Rattle.lin_sets.specs.Places.{IsPut, place_in}
use Rattle.lin_sets.specs.Endings.{AreListed, known_in}
use Rattle.lin_sets.specs.Changes.{AreChanges}
use Rattle.lin_sets.specs.declared.changes.Change.{Change}
use Rattle.lin_sets.specs.Parts.{AreAdds, AreFree, AreLatest, AreLevels, AreNoted, AreReads, IsFirst, IsKnown}
use Rattle.lin_sets.specs.Steps.{IsNextAdd, MayLose, MayNotLose}
use Rattle.lin_sets.specs.Levels.{IsBelow}

-- how many events were taken in
abbrev pub reached_in : Intervals → ℕ
reached_in intervals = length intervals.adds.items

-- they are those of these events, of which none conflict
pub record AreAll (intervals : Intervals) (h : List Event) : Type 0 where
  pub opened : AreLatest intervals.openings h
  pub changes : AreChanges intervals.changes.items h
  pub adds : AreAdds intervals.adds.items h
  pub first : (item : Item) → IsFirst intervals.adds.items item (place_in intervals.first item)
  pub noted : AreNoted intervals.first h
  pub known : (item : Item) → IsKnown h item (known_in intervals.endings item)
  pub listed : AreListed intervals.endings
  pub levels : AreLevels intervals.levels.items h
  pub reads : AreReads intervals.reads.items h
  pub free : AreFree intervals.first intervals.endings h

-- they would be those of one more event, if it were still listed with what it changed
pub record AreAllBut (intervals : Intervals) (h : List Event) (change : Change) : Type 0 where
  pub adds : Vec (Option Item)
  pub changes : Vec Change
  pub event : Event
  pub all : AreAll (record intervals { adds = adds; changes = changes }) (h ++ event ∷ [])
  pub taken : intervals.adds.items ≡ take (length h) adds.items
  pub split : changes.items ≡ intervals.changes.items ++ change ∷ []

-- they are those of the first events, as many as were taken in
abbrev pub AreIntervalsOf : Intervals → List Event → Type 0
AreIntervalsOf intervals h = AreAll intervals (take (reached_in intervals) h)

-- the event is the next one of well-formed events of which they are the intervals
pub record IsNextOf (intervals : Intervals) (h : List Event) (event : Event) : Type 0 where
  pub told : AreIntervalsOf intervals h
  pub well_formed : (functions : Item → Name → Bool) × IsWellFormed functions h
  pub stands : IsEvent h (reached_in intervals) event

-- they are the intervals of the same events
abbrev pub IsAsBefore : Intervals → Intervals → Type 0
IsAsBefore old new = (reached_in new ≡ reached_in old) × ((h : List Event) → AreAll old h → AreAll new h)

abbrev pub IsStill : Intervals → Intervals → Type 0
IsStill old new = (reached_in new ≡ reached_in old) × ((h : List Event) → AreIntervalsOf old h → AreIntervalsOf new h)

-- intervals tell that the events that were taken in have a legal order
abbrev pub IntervalsTell : Type 0
IntervalsTell = (intervals : Intervals) (h : List Event) → AreIntervalsOf intervals h → IsLinearizableAs Set (take (reached_in intervals) h)

-- the first add of the item isn't the one at the place; or the next one was put in its place, which may be
abbrev pub IsMoved : Intervals → Intervals → Item → ℕ → Type 0
IsMoved old new item at = ((place_in old.first item ≡ Some at → ⊥) × (new ≡ old))
    ⊎ ((place_in old.first item ≡ Some at) × ((next : Option ℕ) × IsNextAdd old.adds.items item at next × IsPut old.first new.first item next
    × (AreListed old.endings → AllPairs IsBelow old.levels.items → MayLose old.endings old.levels.items item next)))

-- it is, and the next one may not be put in its place
abbrev pub IsStuck : Intervals → Item → ℕ → Type 0
IsStuck old item at = (place_in old.first item ≡ Some at)
    × ((next : Option ℕ) × IsNextAdd old.adds.items item at next × (AreListed old.endings → MayNotLose old.endings old.levels.items item next))
