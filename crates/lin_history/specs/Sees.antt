-- A follower of a stream: what it shows, and that this is right for the bytes that it was fed.
use Rattle.std.specs.Prelude.{◌≡◌, ℕ, ◌+◌, ◌<◌, ◌≤◌, Bool, true, false, List, [], ◌∷◌, ◌++◌, length, drop, Option, Some, None, Result, Ok, Err}
use Rattle.lin_names.specs.Names.{AgreesWith}
use Rattle.lin_history.specs.Reading.{Reading}
use Rattle.lin_history.specs.Stream.{Gives, IsStream}
use Rattle.lin_history.specs.Counts.{Passed}
use Rattle.lin_history.specs.PassedMaps.{ArePassedOver, PassesOver, counted}
use Rattle.lin_history.specs.Rests.{IsWaiting}
use Rattle.lin_events.specs.declared.events.Event.{Event}
use Rattle.lin_history.specs.declared.row.Row.{Row}
use Rattle.lin_history.specs.declared.follow.FollowFault.{FollowFault}
use Rattle.lin_history.specs.declared.follow.FollowFault.TheVariants as fault

-- What a follower shows: whether values are pairs with keys, the events that are ready, the maps that are passed over, how the stream
-- ends so far, how many bytes are done with, those behind them, and the list or vector that these begin with, as far as it is read.
pub record Followed : Type 0 where
  pub keyed : Bool
  pub ready : List Event
  pub passed_over : Passed
  pub outcome : Result (Unit {0}) FollowFault
  pub passed : ℕ
  pub held : List ℕ
  pub row : Option Row

-- an outcome behind which nothing is read
abbrev pub is_fault : Result (Unit {0}) FollowFault → Bool
is_fault (Ok _) = false
is_fault (Err (fault.Edn at cause)) = true
is_fault (Err (fault.Event at cause)) = true
is_fault (Err (fault.Truncated at)) = false
is_fault (Err fault.OutOfMemory) = false
is_fault (Err fault.TooMuch) = false

-- the maps that are passed over are counted up to a place of a stream, and if it is whole so are all
abbrev pub AreCounted : Followed → List ℕ → Type 0
AreCounted f stream = (ws : List (List ℕ)) × PassesOver stream ws f.passed × (f.passed_over ≡ counted ws) × (f.outcome ≡ Ok tt → ArePassedOver stream ws)

-- Read so, the bytes fed are this stream, and these events were taken: with those that are ready they are the stream's events, and
-- it ends as the follower says. Without a fault, what is held is what stands behind the elements that are read.
pub record Sees (m : Reading) (f : Followed) (stream : List ℕ) (taken : List Event) : Type 0 where
  pub keyed : m.keyed ≡ f.keyed
  pub is_stream : IsStream m stream (taken ++ f.ready) f.outcome
  pub is_held : is_fault f.outcome ≡ false →
      Gives m stream (taken ++ f.ready) f.passed × (f.passed ≤ length stream) × (f.held ≡ drop f.passed stream)
  pub waits : IsWaiting m f.row f.held
  pub over : is_fault f.outcome ≡ false → AreCounted f stream

-- the greatest number of bytes of a stream
abbrev pub most : ℕ
most = 1099511627776

-- The piece was taken in, and these events became ready: read by these names, the follower is right for the longer stream.
pub record IsTakenIn (names : List (List ℕ)) (old : Followed) (piece : List ℕ) (new : Followed) (more : List Event) : Type 0 where
  pub keyed : new.keyed ≡ old.keyed
  pub ready : new.ready ≡ old.ready ++ more
  pub sees : (m : Reading) → AgreesWith names m.number → (stream : List ℕ) (taken : List Event) → Sees m old stream taken → Sees m new (stream ++ piece) taken
  pub fits : is_fault old.outcome ≡ false → (m : Reading) (stream : List ℕ) (taken : List Event) → Sees m old stream taken → length stream + length piece ≤ most

-- the piece passes the greatest number of bytes
abbrev pub IsTooMuch : Followed → List ℕ → Type 0
IsTooMuch old piece = (m : Reading) (stream : List ℕ) (taken : List Event) → Sees m old stream taken → most < length stream + length piece

-- nothing changed, but that a list or vector may have to be read anew
pub record IsAsBefore (old new : Followed) : Type 0 where
  pub keyed : new.keyed ≡ old.keyed
  pub ready : new.ready ≡ old.ready
  pub outcome : new.outcome ≡ old.outcome
  pub passed_over : new.passed_over ≡ old.passed_over
  pub passed : new.passed ≡ old.passed
  pub held : new.held ≡ old.held
  pub sees : (m : Reading) (stream : List ℕ) (taken : List Event) → Sees m old stream taken → Sees m new stream taken

-- What feeding a piece answers and does, where these are the names behind it. A piece whose reading meets a fault is taken in too, and the
-- fault told.
abbrev pub Feeds : List (List ℕ) → Followed → List ℕ → Followed → Result ℕ FollowFault → Type 0
Feeds names old piece new (Ok n) = (more : List Event) × IsTakenIn names old piece new more × (n ≡ length more) × (is_fault new.outcome ≡ false)
Feeds names old piece new (Err (fault.Edn at cause)) = (more : List Event) × IsTakenIn names old piece new more × (new.outcome ≡ Err (fault.Edn at cause))
Feeds names old piece new (Err (fault.Event at cause)) = (more : List Event) × IsTakenIn names old piece new more × (new.outcome ≡ Err (fault.Event at cause))
Feeds names old piece new (Err (fault.Truncated at)) = ⊥
Feeds names old piece new (Err fault.OutOfMemory) = IsAsBefore old new
Feeds names old piece new (Err fault.TooMuch) = (new ≡ old) × IsTooMuch old piece

-- what is known of faults: nothing that is fed behind one changes it or the follower
abbrev pub StaysFaulty : Followed → Followed → Result ℕ FollowFault → Type 0
StaysFaulty old new result = (f : FollowFault) → old.outcome ≡ Err f → is_fault (Err f) ≡ true → (new ≡ old) × (result ≡ Err f)

-- taking the oldest event that is ready
abbrev pub Takes : Followed → Followed → Option Event → Type 0
Takes old new None = (old.ready ≡ []) × (new ≡ old)
Takes old new (Some e) = (old.ready ≡ e ∷ new.ready) × (new.keyed ≡ old.keyed) × (new.outcome ≡ old.outcome) ×
    ((m : Reading) (stream : List ℕ) (taken : List Event) → Sees m old stream taken → Sees m new stream (taken ++ e ∷ []))

-- taking all events that are ready
pub record TakesAll (old new : Followed) (es : List Event) : Type 0 where
  pub events : es ≡ old.ready
  pub none_ready : new.ready ≡ []
  pub keyed : new.keyed ≡ old.keyed
  pub outcome : new.outcome ≡ old.outcome
  pub sees : (m : Reading) (stream : List ℕ) (taken : List Event) → Sees m old stream taken → Sees m new stream (taken ++ es)

-- more bytes change nothing of a fault, nor of the events before it
abbrev pub FaultsStay : Type 0
FaultsStay = (m : Reading) (s more : List ℕ) (es : List Event) (o : Result (Unit {0}) FollowFault) →
    is_fault o ≡ true → IsStream m s es o → IsStream m (s ++ more) es o
