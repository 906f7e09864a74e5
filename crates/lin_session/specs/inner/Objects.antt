-- What is found of objects that are kept, and what is left of their marks.
use Rattle.std.specs.Prelude.{Option, None, ◌+◌, slice_index, ◌≡◌, ◌<◌, ℕ, List, Some}
use Rattle.lin_events.specs.declared.items.Item.{Item}
use Rattle.lin_events.specs.declared.events.Event.{Event}
use Rattle.lin_order.specs.Parts.{renamed}
use Rattle.lin_order.specs.declared.placed.Placed.{Placed}
use Rattle.lin_engines.specs.declared.ends.End.{End}
use Rattle.lin_engines.specs.declared.ends.End.TheVariants.{Alive, Dead, Over}
use Rattle.lin_chain.specs.Chains.{IsFor, IsRight, kind_in, mark_in}
use Rattle.lin_chain.specs.Work.{Mark}
use Rattle.lin_session.specs.declared.kept.Object.{Object}
use Rattle.lin_session.specs.declared.kept.Objects.{Objects}
use Rattle.lin_session.specs.Known.{mark_of}
use Rattle.lin_session.specs.Leaving.{IsAppended, IsRaised, IsRekinded, IsTouched}
use Rattle.lin_session.specs.Objects.{known_keys}
use Rattle.lin_events.specs.Items.{item_eq}

-- the mark of the key's object
abbrev pub marks_in : Objects → Item → Mark
marks_in objects key = mark_of (known_keys objects) key

-- the object under a larger budget
pub record IsRaisedObject (budget : ℕ) (old new : Object) : Type 0 where
  pub picks : new.picks ≡ old.picks
  pub count : new.count ≡ old.count
  pub kind : kind_in new.chain ≡ kind_in old.chain
  pub right : (h : List Event) → IsRight old.chain h → IsRight new.chain h
  pub retried : IsFor budget new.chain
  pub mark : (h : List Event) → IsRight old.chain h → IsRaised (mark_in old.chain) (mark_in new.chain)

-- the object of the key is touched at the place, and no other one
abbrev pub AreTouched : Item → ℕ → (Item → Mark) → (Item → Mark) → Type 0
AreTouched key place old new = (x : Item) → IsTouched (item_eq key x) place (old x) (new x)

-- it has an event more
abbrev pub AreAppended : Item → (Item → Mark) → (Item → Mark) → Type 0
AreAppended key old new = (x : Item) → IsAppended (item_eq key x) (old x) (new x)

-- it is of another kind
abbrev pub AreRekinded : Item → (Item → Mark) → (Item → Mark) → Type 0
AreRekinded key old new = (x : Item) → IsRekinded (item_eq key x) (old x) (new x)

-- the place that an end tells, if it tells one, is among so many
abbrev pub IsPlaceIn : ℕ → End → Type 0
IsPlaceIn count Alive = Unit {0}
IsPlaceIn count (Dead i) = i < count
IsPlaceIn count (Over i) = i < count

-- the prefix that fails the object, or the position where it is over, told by its end in places among its events
abbrev pub Finds : List ℕ → End → Option ℕ × Option ℕ → Type 0
Finds picks Alive found = found ≡ (None, None)
Finds picks (Dead i) found = found ≡ (Some (slice_index picks i + 1), None)
Finds picks (Over i) found = found ≡ (None, Some (slice_index picks i))

-- the order is, in positions of the history, a legal one in places among the object's events
abbrev pub IsOrderIn : (List Placed → Type 0) → List ℕ → List Placed → Type 0
IsOrderIn legal picks order = (inner : List Placed) × (order ≡ renamed picks inner) × legal inner
