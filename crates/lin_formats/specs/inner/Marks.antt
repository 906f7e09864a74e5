-- What the code marks while it reads: cited by the contracts of private functions alone.
use Rattle.std.specs.Prelude.{◌≡◌, ℕ, suc, ◌+◌, ◌≤◌, Bool, true, false, List, [], ◌∷◌, ◌++◌, length, drop, Option, Some, None, Result, Ok, Err}
use Rattle.lin_bytes.specs.Bytes.{Kind}
use Rattle.lin_edn.specs.Grammar.{Frame, frame, Open, Blanks, Element, IsBlankText, IsUnfinished, longest}
use Rattle.lin_edn.specs.Value.{Value}
use Rattle.lin_history.specs.Reading.{Reading}
use Rattle.lin_history.specs.Sees.{most}
use Rattle.lin_history.specs.Stream.{Told, Gives, IsStream}
use Rattle.lin_history.specs.Table.{event}
use Rattle.lin_events.specs.declared.events.Event.{Event}
use Rattle.lin_events.specs.declared.lists.OutOfMemory.{OutOfMemory}
use Rattle.lin_history.specs.declared.table.EventFault.{EventFault}
use Rattle.lin_history.specs.declared.follow.FollowFault.{FollowFault}
use Rattle.lin_formats.specs.Places.{place_at, AreTags, is_row, Begins, ArePlaces, StopsAt, is_bad, IsBehind}
use Rattle.lin_texts.specs.declared.place.Place.{Place}
use Rattle.lin_formats.specs.declared.place.Cursor.{Cursor}
use Rattle.lin_formats.specs.declared.place.Stop.{Stop}
use Rattle.lin_formats.specs.declared.place.Stop.TheVariants as stop
use Rattle.lin_formats.specs.declared.mark.Read.{Read}
use Rattle.lin_formats.specs.declared.mark.Front.{Front}
use Rattle.lin_formats.specs.declared.mark.Front.TheVariants as front
use Rattle.lin_formats.specs.declared.mark.Maps.{Maps}
use Rattle.lin_formats.specs.declared.mark.Maps.TheVariants as maps

-- the places of a text, from a cursor on, have room in 64 bits
abbrev pub Fits : List ℕ → Cursor → Type 0
Fits text c = (c.at ≤ length text) × (c.place.offset + length text ≤ most + c.at) × (c.place.line ≤ suc c.place.offset)

-- some more were put behind
abbrev pub IsPutBehind : List Place → List Place → Type 0
IsPutBehind old new = (more : List Place) × (new ≡ old ++ more)

-- the place is put behind where an element says an event
abbrev pub IsPut : Result (Option Event) EventFault → Place → List Place → List Place → Type 0
IsPut (Ok (Some e)) p old new = new ≡ old ++ p ∷ []
IsPut (Ok None) p old new = new ≡ old
IsPut (Err f) p old new = ⊥

abbrev pub IsMarkedOne : Reading → Value → Place → List Place → List Place → Result Bool OutOfMemory → Type 0
IsMarkedOne m v p old new (Ok true) = IsPut (event m v) p old new
IsMarkedOne m v p old new (Ok false) = (f : EventFault) × (event m v ≡ Err f) × (new ≡ old)
IsMarkedOne m v p old new (Err _) = Unit {0}

-- behind blanks from a place on an element stands
abbrev pub StandsAt : List ℕ → ℕ → Value → ℕ → ℕ → Type 0
StandsAt s from v at used = (n : ℕ) × (n ≤ 64) × Blanks n from (drop from s) at (drop at s) × Element n at (drop at s) v used (drop used s) × (used ≤ from + longest)

-- elements and blanks, the first one first
pub data Follow : ℕ → ℕ → List ℕ → List Value → ℕ → List ℕ → Type 0 where
  no_more : {n p q : ℕ} {s t : List ℕ} → Blanks n p s q t → Follow n p s [] q t
  another : {n p q r o : ℕ} {s t u x : List ℕ} {v : Value} {vs : List Value} →
      Blanks n p s q t → Element n q t v r u → Follow n r u vs o x → Follow n p s (v ∷ vs) o x

-- at a place of a text, behind tags, an element stands that ends no later than another place
pub record IsStanding (s : List ℕ) (at : ℕ) (v : Value) (until : ℕ) : Type 0 where
  pub levels : ℕ
  pub st : List Frame
  pub used : ℕ
  pub few : levels ≤ 64
  pub are_tags : AreTags st
  pub is_open : Open s levels st at (drop at s)
  pub stands : Element levels at (drop at s) v used (drop used s)
  pub ends : used ≤ until
  pub short : until ≤ at + longest
  pub inside : until ≤ length s

-- at a place of a text a list or vector is open, behind tags, in which these elements stand before the place, and the others behind it
pub record IsAmong (s : List ℕ) (at : ℕ) (before others : List Value) (until : ℕ) : Type 0 where
  pub levels : ℕ
  pub kind : Kind
  pub begun : ℕ
  pub st : List Frame
  pub end : ℕ
  pub rest : List ℕ
  pub few : levels ≤ 64
  pub row : is_row kind ≡ true
  pub are_tags : AreTags st
  pub is_open : Open s levels (frame kind begun before ∷ st) at (drop at s)
  pub follow : Follow levels at (drop at s) others end rest
  pub ends : end ≤ until
  pub short : until ≤ at + longest
  pub inside : until ≤ length s

-- before a cursor of a text, which stands behind what is read of a longer one, these are the places
abbrev pub IsUpTo : Reading → List ℕ → ℕ → List Event → List ℕ → Cursor → List Place → Type 0
IsUpTo m whole p es text c places = (text ≡ drop p whole) × Gives m whole es p × (c.place ≡ place_at whole (p + c.at)) × ArePlaces m whole es places

-- what is told has its places, and no fault
abbrev pub IsSound : Reading → List ℕ → Told → Cursor → List Place → Cursor → List Place → Type 0
IsSound m text t from old next new = (fs : List Event) × (t ≡ record { events = fs; ends = None }) × ((whole : List ℕ) (p : ℕ) (es : List Event) →
    IsUpTo m whole p es text from old → (next.place ≡ place_at whole (p + next.at)) × ArePlaces m whole (es ++ fs) new)

-- what is told has its places, and its fault this one
abbrev pub IsUnsound : Reading → List ℕ → Told → Cursor → List Place → Place → List Place → Type 0
IsUnsound m text t from old bad new = (fs : List Event) × (cause : EventFault) × (t ≡ record { events = fs; ends = Some cause }) ×
    ((whole : List ℕ) (p : ℕ) (es : List Event) → IsUpTo m whole p es text from old →
    ArePlaces m whole (es ++ fs) new × (q : ℕ) × (v : Value) × Begins m whole (es ++ fs) q v × (event m v ≡ Err cause) × (bad ≡ place_at whole q))

abbrev pub AreMarked : Reading → List ℕ → Told → Cursor → List Place → List Place → Maps → Type 0
AreMarked m text t from old new (maps.Sound next) = IsSound m text t from old next new
AreMarked m text t from old new (maps.Bad bad) = IsUnsound m text t from old bad new

-- the maps of an element that begins at a place are passed up to another, if they are without fault; else the bad one isn't before the element
abbrev pub ArePassed : List ℕ → Place → ℕ → Maps → Type 0
ArePassed text from until (maps.Sound next) = (next.at ≡ until) × Fits text next
ArePassed text from until (maps.Bad bad) = from.offset ≤ bad.offset

-- what is read of a text up to a place, and the places in it
abbrev pub IsReadTo : Reading → List ℕ → Place → List Place → Type 0
IsReadTo m whole next places = (es : List Event) × Gives m whole es next.offset × (next ≡ place_at whole next.offset) × ArePlaces m whole es places

-- the places of a text, and where it stops; where it may go on, it is read up to a place
pub record Ends (m : Reading) (whole : List ℕ) (next : Place) (places : List Place) (x : Stop) : Type 0 where
  pub events : List Event
  pub outcome : Result (Unit {0}) FollowFault
  pub is_stream : IsStream m whole events outcome
  pub are_places : ArePlaces m whole events places
  pub stops : StopsAt m whole events outcome x
  pub goes_on : is_bad x ≡ false → Gives m whole events next.offset × (next ≡ place_at whole next.offset)

-- a text that stands from a place on is read as far as it goes
abbrev pub IsRead : Reading → List ℕ → Place → List Place → List Place → Read → Type 0
IsRead m text place old new r = (whole : List ℕ) → text ≡ drop place.offset whole → IsReadTo m whole place old →
    (r.next.place.offset ≡ place.offset + r.next.at) × Ends m whole r.next.place new r.stop

-- what stands in front of a text, which stands from a place on
abbrev pub IsFront : Reading → List ℕ → Place → List Place → List Place → Front → Type 0
IsFront m text place old new (front.Element next) =
    (whole : List ℕ) → text ≡ drop place.offset whole → IsReadTo m whole place old → (next.place.offset ≡ place.offset + next.at) × IsReadTo m whole next.place new
IsFront m text place old new (front.End r) = IsRead m text place old new r

-- what is done with lies within the text, and some of it with an element; a fault isn't before it
abbrev pub IsPassed : List ℕ → Front → Type 0
IsPassed text (front.Element next) = Fits text next × (1 ≤ next.at)
IsPassed text (front.End r) = Fits text r.next × IsBehind r.next.place r.stop

-- a text that is held goes on with what is unfinished in front of it, or is blank
abbrev pub IsResting : List ℕ → Place → Stop → Type 0
IsResting held next stop.Nowhere = IsBlankText held 0
IsResting held next (stop.Unfinished p) = (p ≡ next) × IsUnfinished held 0
IsResting held next (stop.Bad p) = ⊥
