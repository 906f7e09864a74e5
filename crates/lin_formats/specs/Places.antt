-- Where the events of a byte text stand.
use Rattle.std.specs.Prelude.{◌≡◌, ℕ, suc, ◌+◌, ◌≤◌, Bool, true, false, List, [], ◌∷◌, ◌++◌, length, take, drop, filter, Option, Some, None, Result, Ok, Err}
use Rattle.lin_bytes.specs.Bytes.{Kind, a_list, a_vector, a_set, a_map, is_newline}
use Rattle.lin_edn.specs.Grammar.{Frame, frame, discarding, tagging, Open, Element, Spells}
use Rattle.lin_edn.specs.Value.{Value, list, vector, tagged, Values, values_of}
use Rattle.lin_names.specs.Names.{AgreesWith}
use Rattle.lin_history.specs.Reading.{Reading}
use Rattle.lin_history.specs.Stream.{told_by, Gives, IsStream}
use Rattle.lin_history.specs.Table.{event}
use Rattle.lin_events.specs.declared.events.Event.{Event}
use Rattle.lin_history.specs.declared.follow.FollowFault.{FollowFault}
use Rattle.lin_history.specs.declared.follow.FollowFault.TheVariants as fault
use Rattle.lin_texts.specs.declared.place.Place.{Place}
use Rattle.lin_formats.specs.declared.place.Stop.{Stop}
use Rattle.lin_formats.specs.declared.place.Stop.TheVariants as stop

-- how many bytes end a line
abbrev pub newlines : List ℕ → ℕ
newlines bytes = length (filter is_newline bytes)

-- the place of the byte at an offset: its line is 1, and one more for each byte before it that ends a line
abbrev pub place_at : List ℕ → ℕ → Place
place_at text offset = record { offset = offset; line = suc (newlines (take offset text)) }

-- the elements of a list or vector; tags in front of it are read over
abbrev pub row_of : Value → Option Values
row_of (list vs) = Some vs
row_of (vector vs) = Some vs
row_of (tagged at tag v) = row_of v
row_of _ = None

-- a list or a vector
abbrev pub is_row : Kind → Bool
is_row a_list = true
is_row a_vector = true
is_row a_set = false
is_row a_map = false

-- tags alone are open
abbrev pub AreTags : List Frame → Type 0
AreTags [] = Unit {0}
AreTags (frame k at vs ∷ st) = ⊥
AreTags (discarding at ∷ st) = ⊥
AreTags (tagging at begun tag ∷ st) = AreTags st

-- Behind just these events an element begins at a place: it stands alone and is no list or vector, or it stands in a list or vector, with
-- tags in front of that or none.
pub data Begins : Reading → List ℕ → List Event → ℕ → Value → Type 0 where
  alone : {m : Reading} {s : List ℕ} {es : List Event} {p at used : ℕ} {v : Value} →
      Gives m s es p → Spells (drop p s) v at used → row_of v ≡ None → Begins m s es (p + at) v
  inside : {m : Reading} {s t u : List ℕ} {es fs : List Event} {p n o at used : ℕ} {k : Kind} {vs : List Value} {st : List Frame} {v : Value} →
      Gives m s es p → Open (drop p s) n (frame k o vs ∷ st) at t → is_row k ≡ true → AreTags st →
      told_by m (values_of vs) ≡ record { events = fs; ends = None } → Element n at t v used u → Begins m s (es ++ fs) (p + at) v

-- each event of a text has the place where its map begins
pub data ArePlaces : Reading → List ℕ → List Event → List Place → Type 0 where
  none : {m : Reading} {s : List ℕ} → ArePlaces m s [] []
  one_more : {m : Reading} {s : List ℕ} {es : List Event} {ps : List Place} {p : ℕ} {v : Value} {e : Event} →
      ArePlaces m s es ps → Begins m s es p v → event m v ≡ Ok (Some e) → ArePlaces m s (es ++ e ∷ []) (ps ++ place_at s p ∷ [])

-- Where a text with these events stops that ends so: nowhere, if it is blank; where something unfinished begins; at a fault of EDN; or at
-- the map that is no event.
abbrev pub StopsAt : Reading → List ℕ → List Event → Result (Unit {0}) FollowFault → Stop → Type 0
StopsAt m s es (Ok _) x = x ≡ stop.Nowhere
StopsAt m s es (Err (fault.Truncated at)) x = x ≡ stop.Unfinished (place_at s at)
StopsAt m s es (Err (fault.Edn at cause)) x = x ≡ stop.Bad (place_at s at)
StopsAt m s es (Err (fault.Event at cause)) x = (p : ℕ) × (v : Value) × Begins m s es p v × (event m v ≡ Err cause) × (x ≡ stop.Bad (place_at s p))
StopsAt m s es (Err fault.OutOfMemory) x = ⊥
StopsAt m s es (Err fault.TooMuch) x = ⊥

abbrev pub is_bad : Stop → Bool
is_bad stop.Nowhere = false
is_bad (stop.Unfinished p) = false
is_bad (stop.Bad p) = true

-- the place of the fault or of the map that is no event, if the text stops there
abbrev pub bad_of : Stop → Option Place
bad_of stop.Nowhere = None
bad_of (stop.Unfinished p) = None
bad_of (stop.Bad p) = Some p

-- a fault, and a map that is no event, stand at this place or behind it
abbrev pub IsBehind : Place → Stop → Type 0
IsBehind next stop.Nowhere = Unit {0}
IsBehind next (stop.Unfinished p) = Unit {0}
IsBehind next (stop.Bad p) = next.offset ≤ p.offset

-- the place of what is unfinished, if something is
abbrev pub unfinished_of : Stop → Option Place
unfinished_of stop.Nowhere = None
unfinished_of (stop.Unfinished p) = Some p
unfinished_of (stop.Bad p) = None

-- What a reader of places shows: whether values are pairs with keys, the places so far, where the text stops, how many bytes are done
-- with, and those behind them.
pub record Marked : Type 0 where
  pub keyed : Bool
  pub places : List Place
  pub stop : Stop
  pub next : Place
  pub held : List ℕ

-- Read so, the bytes fed are this text: its events have these places, and it stops there. Where it may go on, what is held stands behind
-- what is read.
pub record Marks (m : Reading) (marked : Marked) (text : List ℕ) : Type 0 where
  pub keyed : m.keyed ≡ marked.keyed
  pub events : List Event
  pub outcome : Result (Unit {0}) FollowFault
  pub is_stream : IsStream m text events outcome
  pub are_places : ArePlaces m text events marked.places
  pub stops : StopsAt m text events outcome marked.stop
  pub room : marked.next.offset + length marked.held ≤ length text
  pub is_held : is_bad marked.stop ≡ false →
      Gives m text events marked.next.offset × (marked.next ≡ place_at text marked.next.offset) × (marked.held ≡ drop marked.next.offset text)

-- what is held is what stands behind what is read
abbrev pub IsHeld : Marked → List ℕ → Type 0
IsHeld marked text = marked.held ≡ drop marked.next.offset text

-- What feeding a piece does, where these are the names behind it: read by them, the reader is right for the longer text, and what it holds
-- stands behind what is read, unless the text stopped at a fault before; or memory ran out, and nothing changed.
abbrev pub Feeds : {E : Type 0} → List (List ℕ) → Marked → List ℕ → Marked → Result (Unit {0}) E → Type 0
Feeds names old piece new (Ok _) = (new.keyed ≡ old.keyed) ×
    ((m : Reading) → AgreesWith names m.number → (text : List ℕ) → Marks m old text →
    Marks m new (text ++ piece) × (is_bad old.stop ≡ false → IsHeld new (text ++ piece)))
Feeds names old piece new (Err _) = new ≡ old
