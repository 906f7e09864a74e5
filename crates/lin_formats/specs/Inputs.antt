-- What the bytes of a file say, by names: a history, or why they are refused.
use Rattle.std.specs.Prelude.{◌≡◌, ◌<◌, ◌≤◌, ℕ, Bool, List, Result, Ok, Err, length}
use Rattle.lin_events.specs.declared.events.Event.{Event as EventOf}
use Rattle.lin_history.specs.declared.follow.FollowFault.{FollowFault}
use Rattle.lin_history.specs.declared.follow.FollowFault.TheVariants as fault
use Rattle.lin_history.specs.Stream.{IsStreamBy}
use Rattle.lin_formats.specs.declared.verdicts.Refusal.{Refusal}
use Rattle.lin_formats.specs.declared.verdicts.Refusal.TheVariants.{Edn, Event, Truncated, Full, BadPair, Few}
use Rattle.lin_texts.specs.declared.faults.RunFault.{RunFault}
use Rattle.lin_texts.specs.declared.faults.RunFault.TheVariants.{OutOfMemory, TooMuch}

-- the greatest number of events of a file
abbrev pub limit : ℕ
limit = 1000000

module _ (keyed : Bool) (names : List (List ℕ)) where
  -- the bytes are a whole stream of these events, and they are not too many
  abbrev pub IsWhole : List ℕ → List EventOf → Type 0
  IsWhole text events = IsStreamBy keyed names text events (Ok tt) × (length events ≤ limit)

  -- the stream ends by a fault, with not too many events before it
  abbrev pub IsFaulty : List ℕ → FollowFault → Type 0
  IsFaulty text fault = (events : List EventOf) × IsStreamBy keyed names text events (Err fault) × (length events ≤ limit)

  -- there are too many events, before a fault if there is one
  abbrev pub IsTooMany : List ℕ → Type 0
  IsTooMany text = (events : List EventOf) × (outcome : Result (Unit {0}) FollowFault) × IsStreamBy keyed names text events outcome × (limit < length events)

  -- the bytes are refused for this, however many events a history has to have
  abbrev pub AreRefused : List ℕ → Refusal → Type 0
  AreRefused text (Edn at cause) = IsFaulty text (fault.Edn at cause)
  AreRefused text (Event at cause) = IsFaulty text (fault.Event at cause)
  AreRefused text (Truncated at) = IsFaulty text (fault.Truncated at)
  AreRefused text Full = IsTooMany text
  AreRefused text (BadPair at) = ⊥
  AreRefused text (Few events wanted) = ⊥

  -- Where so many events of clients are wanted at least: the bytes are a whole stream of these events, and they are enough.
  abbrev pub IsEnough : ℕ → List ℕ → List EventOf → Type 0
  IsEnough least text events = IsWhole text events × (least ≤ length events)

  -- they are a whole stream of so many events, and more are wanted
  abbrev pub AreTooFew : ℕ → List ℕ → ℕ → ℕ → Type 0
  AreTooFew least text count wanted = (events : List EventOf) × IsWhole text events × (count ≡ length events) × (wanted ≡ least) × (count < wanted)

  -- the bytes are refused for this: they are no whole stream, or one of too few events
  abbrev pub AreRefusedFor : ℕ → List ℕ → Refusal → Type 0
  AreRefusedFor least text (Edn at cause) = AreRefused text (Edn at cause)
  AreRefusedFor least text (Event at cause) = AreRefused text (Event at cause)
  AreRefusedFor least text (Truncated at) = AreRefused text (Truncated at)
  AreRefusedFor least text Full = AreRefused text Full
  AreRefusedFor least text (BadPair at) = AreRefused text (BadPair at)
  AreRefusedFor least text (Few count wanted) = AreTooFew least text count wanted

-- the refusal, or the end of a run, that a fault of the stream comes to
abbrev pub refusal_of : FollowFault → Result Refusal RunFault
refusal_of (fault.Edn at cause) = Ok (Edn at cause)
refusal_of (fault.Event at cause) = Ok (Event at cause)
refusal_of (fault.Truncated at) = Ok (Truncated at)
refusal_of fault.OutOfMemory = Err OutOfMemory
refusal_of fault.TooMuch = Err TooMuch
