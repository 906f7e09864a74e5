-- What the code reads of the bytes that are held: cited by the contracts of private functions alone.
use Rattle.std.specs.Prelude.{◌≡◌, ℕ, ◌+◌, ◌<◌, ◌≤◌, true, false, List, [], ◌∷◌, ◌++◌, length, drop, Option, Some, None, Result, Ok, Err}
use Rattle.lin_edn.specs.Value.{Value, values_of}
use Rattle.lin_edn.specs.Grammar.{Spells}
use Rattle.lin_history.specs.Reading.{Reading}
use Rattle.lin_history.specs.Stream.{Told, told, told_by, Gives, IsStream}
use Rattle.lin_history.specs.Sees.{is_fault}
use Rattle.lin_history.specs.PassedMaps.{keywords_in}
use Rattle.lin_history.specs.inner.Passing.{Gathered, IsOver, passed_more}
use Rattle.lin_events.specs.declared.events.Event.{Event}
use Rattle.lin_history.specs.declared.table.EventFault.{EventFault}
use Rattle.lin_history.specs.declared.table.EventFault.TheVariants as cause
use Rattle.lin_history.specs.declared.follow.FollowFault.{FollowFault}
use Rattle.lin_history.specs.declared.follow.FollowFault.TheVariants as fault
use Rattle.lin_history.specs.declared.follow.Read.{Read}
use Rattle.lin_history.specs.declared.follow.Front.{Front}
use Rattle.lin_history.specs.declared.follow.Front.TheVariants as front
use Rattle.lin_events.specs.declared.lists.OutOfMemory.{OutOfMemory}

-- what an element tells is put behind what was ready
abbrev pub IsTold : Told → List Event → List Event → Result (Unit {0}) EventFault → Type 0
IsTold t old new (Ok _) = (t.ends ≡ None) × (new ≡ old ++ t.events)
IsTold t old new (Err cause.OutOfMemory) = (es : List Event) × (new ≡ old ++ es)
IsTold t old new (Err f) = (t.ends ≡ Some f) × (new ≡ old ++ t.events)

-- what a map tells, behind others that told something and end so far, is put behind what was told
abbrev pub IsToldOn : Reading → Value → List Event → Option EventFault → List Event → Option EventFault → Type 0
IsToldOn m v old ends new ends' = (more : List Event) × (new ≡ old ++ more) × ((vs : List Value) (es : List Event) →
    told_by m (values_of vs) ≡ record { events = es; ends = ends } → told_by m (values_of (vs ++ v ∷ [])) ≡ record { events = es ++ more; ends = ends' })

-- an outcome whose places count from a place on
abbrev pub behind : ℕ → Result (Unit {0}) FollowFault → Result (Unit {0}) FollowFault
behind p (Ok _) = Ok tt
behind p (Err (fault.Edn at c)) = Err (fault.Edn (p + at) c)
behind p (Err (fault.Event at c)) = Err (fault.Event (p + at) c)
behind p (Err (fault.Truncated at)) = Err (fault.Truncated (p + at))
behind p (Err fault.OutOfMemory) = Err fault.OutOfMemory
behind p (Err fault.TooMuch) = Err fault.TooMuch

-- a text that stands from a place of the stream on is read as far as it goes
pub record IsReadTo (m : Reading) (text : List ℕ) (p : ℕ) (old new : Gathered) (r : Read) : Type 0 where
  pub events : List Event
  pub outcome : Result (Unit {0}) FollowFault
  pub put : new.items ≡ old.items ++ events
  pub inside : r.used ≤ length text
  pub is_stream : IsStream m text events outcome
  pub told : r.outcome ≡ behind p outcome
  pub goes_on : is_fault outcome ≡ false → Gives m text events r.used
  pub over : is_fault outcome ≡ false → IsOver text outcome old.passed new.passed r.used

-- events were put behind those that were ready
abbrev pub IsPutBehind : List Event → List Event → Type 0
IsPutBehind old new = (es : List Event) × (new ≡ old ++ es)

-- an element without fault stands in front of a text, and tells these events; its maps that are passed over are counted
pub record IsElement (m : Reading) (text : List ℕ) (old new : Gathered) (used : ℕ) : Type 0 where
  pub events : List Event
  pub value : Value
  pub at : ℕ
  pub put : new.items ≡ old.items ++ events
  pub over : new.passed ≡ passed_more old.passed (keywords_in value)
  pub some : 0 < used
  pub inside : used ≤ length text
  pub spelled : Spells text value at used
  pub told : told m value ≡ record { events = events; ends = None }

-- what stands in front of a text: an element without fault, or the end
abbrev pub IsFront : Reading → List ℕ → ℕ → Gathered → Gathered → Front → Type 0
IsFront m text p old new (front.Element used) = IsElement m text old new used
IsFront m text p old new (front.End r) = IsReadTo m text p old new r

-- what is done with lies within the text, and some of it with an element
abbrev pub IsWithin : List ℕ → Front → Type 0
IsWithin text (front.Element used) = (0 < used) × (used ≤ length text)
IsWithin text (front.End r) = r.used ≤ length text

-- the fault of form that an outcome is, if it is one
abbrev pub IsStanding : Result (Unit {0}) FollowFault → Option FollowFault → Type 0
IsStanding o None = is_fault o ≡ false
IsStanding o (Some f) = (o ≡ Err f) × (is_fault o ≡ true)

-- a piece is put behind what is held, and what is read of both is dropped; or all is as it was
abbrev pub IsCut : List ℕ → List ℕ → Gathered → List ℕ → Gathered → Result Read OutOfMemory → Type 0
IsCut piece held ready held' ready' (Ok r) = IsPutBehind ready.items ready'.items × (r.used ≤ length (held ++ piece)) × (held' ≡ drop r.used (held ++ piece))
IsCut piece held ready held' ready' (Err _) = (held' ≡ held) × (ready' ≡ ready)
