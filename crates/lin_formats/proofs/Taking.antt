-- What is taken in of a file, piece by piece, by names.
use Rattle.std.proofs.Common.{◌≡◌, ◌+◌, ◌<◌, ◌≤◌, false, ℕ, List, [], ◌∷◌, ◌++◌, length, Option, None, Some, Result, Ok, Err, IfSome, IsErrOf, MatchOption, MatchResult, refl, sym, ap, subst, ◌∙◌, arith, append-nil, length-append, true, true≢false}
use Rattle.lin_events.specs.declared.events.Event.{Event}
use Rattle.lin_names.specs.Names.{AgreesWith, Begins, Numbering}
use Rattle.lin_names.specs.lemmas.Begins.{agrees_before}
use Rattle.lin_history.specs.Reading.{IsReading, Reading}
use Rattle.lin_history.specs.Stream.{IsStreamBy, IsStream}
use Rattle.lin_history.specs.Sees.{Feeds, Followed, IsTakenIn, Sees, TakesAll, is_fault}
use Rattle.lin_history.specs.declared.follow.FollowFault.{FollowFault}
use Rattle.lin_history.specs.declared.follow.FollowFault.TheVariants as fault
use Rattle.lin_history.specs.Counts.{Passed}
use Rattle.lin_history.specs.PassedMaps.{IsPassed}
use Rattle.lin_formats.specs.Histories.{AreAllPassed, IsPassedIn, StopsFor, passed_with}
use Rattle.lin_formats.specs.Inputs.{limit, refusal_of, AreRefused, IsTooMany}
use Rattle.lin_formats.specs.Intakes.{AreSeen, IsFed, IsFedOn, IsTooMuch}
use Rattle.lin_formats.specs.declared.inputs.History.{History}
use Rattle.lin_formats.specs.declared.inputs.History.TheVariants.{Whole, Refused}
use Rattle.lin_formats.specs.declared.verdicts.Refusal.{Refusal}
use Rattle.lin_formats.specs.declared.verdicts.Refusal.TheVariants.{Edn, Event as OfEvent, Truncated}
use Rattle.lin_texts.specs.declared.faults.RunFault.{RunFault}
use Rattle.lin_texts.specs.declared.faults.RunFault.TheVariants.{TooMuch}

pub none_of : {X : Type 0} (xs : List X) → length xs ≡ 0 → [] ≡ xs
none_of [] none = refl
none_of (x ∷ xs) none = absurd (omega (arith, none))

-- events that are taken with those that were before
pub ready_fit : (names : List (List ℕ)) (old new : Followed) (bytes : List ℕ) (taken more all : List Event) → TakesAll old new more → AreSeen names old bytes taken
    → all ≡ taken ++ more → length all ≤ limit → IsFed names new bytes all
ready_fit names old new bytes taken more all takes seen are within = record {
  sees = λ m reading. subst (Sees m new bytes) (sym are) (takes.sees m bytes taken (seen m (reading.0 ∙ takes.keyed, reading.1)));
  none_ready = takes.none_ready;
  within = within;
}

-- they are too many
pub ready_many : (names : List (List ℕ)) (old new : Followed) (bytes : List ℕ) (taken more : List Event) → TakesAll old new more → AreSeen names old bytes taken
    → limit < length taken + length more → IsTooMany new.keyed names bytes
ready_many names old new bytes taken more takes seen many =
    let events = takes.events in
    let size : length more ≡ length old.ready = ap length events in
    (taken ++ old.ready, old.outcome, λ m reading. (seen m (reading.0 ∙ takes.keyed, reading.1)).is_stream, omega (arith, many, size, length-append taken old.ready))

-- a reading by a numbering
abbrev some_reading : Followed → Numbering → Reading
some_reading follow number = record { keyed = follow.keyed; number = number }

module _ (before names : List (List ℕ)) (old : Followed) (piece : List ℕ) (new : Followed) (begun : Begins before names)
    (numbers : (number : Numbering) × AgreesWith before number) where
  taken_on : (more : List Event) (refusal : Option Refusal) → IsTakenIn names old piece new more
      → MatchOption refusal (is_fault new.outcome ≡ false) (λ r. (fault : FollowFault) × (new.outcome ≡ Err fault) × (is_fault (Err fault) ≡ true) × (refusal_of fault ≡ Ok r))
      → IsFedOn before names old piece new refusal
  taken_on more refusal taken ends = record {
    seen = λ bytes events seen m reading. taken.sees m reading.1 bytes events
        (seen m (reading.0 ∙ taken.keyed, agrees_before before names m.number begun reading.1));
    fits = λ bytes events seen going. taken.fits going (some_reading old numbers.0) bytes events (seen (some_reading old numbers.0) (refl, numbers.1));
    ends = ends;
  }

  -- a piece without a fault
  pub fed_on : (n : ℕ) → Feeds names old piece new (Ok n) → IsFedOn before names old piece new None
  fed_on n fed = taken_on fed.0 None fed.1 fed.3

  -- one with a fault of the stream
  pub fed_fault : (f : FollowFault) (refusal : Refusal) → refusal_of f ≡ Ok refusal → Feeds names old piece new (Err f) → IsFedOn before names old piece new (Some refusal)
  fed_fault (fault.Edn at cause) refusal is fed = taken_on fed.0 (Some refusal) fed.1 (fault.Edn at cause, fed.2, refl, is)
  fed_fault (fault.Event at cause) refusal is fed = taken_on fed.0 (Some refusal) fed.1 (fault.Event at cause, fed.2, refl, is)
  fed_fault (fault.Truncated at) refusal is fed = absurd fed
  fed_fault fault.OutOfMemory refusal is fed = absurd (cc)
  fed_fault fault.TooMuch refusal is fed = absurd (cc)

  -- any other fault changes nothing
  pub fed_too_much : (f : FollowFault) → refusal_of f ≡ Err TooMuch → Feeds names old piece new (Err f) → IsTooMuch before old piece
  fed_too_much (fault.Edn at cause) is fed = absurd (cc)
  fed_too_much (fault.Event at cause) is fed = absurd (cc)
  fed_too_much (fault.Truncated at) is fed = absurd fed
  fed_too_much fault.OutOfMemory is fed = absurd (cc)
  fed_too_much fault.TooMuch is fed = λ bytes events seen. fed.1 (some_reading old numbers.0) bytes events (seen (some_reading old numbers.0) (refl, numbers.1))

abbrev refusal_ok : Refusal → Result Refusal RunFault
refusal_ok refusal = Ok refusal

-- what was fed is a stream of the events that were taken
pub stream_of : (names : List (List ℕ)) (follow : Followed) (bytes : List ℕ) (events : List Event) → IsFed names follow bytes events
    → IsStreamBy follow.keyed names bytes events follow.outcome
stream_of names follow bytes events fed m reading =
    subst (λ es. IsStream m bytes es follow.outcome) (ap (λ es. events ++ es) fed.none_ready ∙ append-nil events) (fed.sees m reading).is_stream

ok_same : (a b : Refusal) → refusal_ok a ≡ refusal_ok b → a ≡ b
ok_same a b e = cc

-- it ends by a fault
pub fed_refused : (names : List (List ℕ)) (follow : Followed) (bytes : List ℕ) (events : List Event) (f : FollowFault) (refusal : Refusal)
    → IsFed names follow bytes events → follow.outcome ≡ Err f → refusal_of f ≡ Ok refusal → AreRefused follow.keyed names bytes refusal
fed_refused names follow bytes events f refusal fed ends is =
    by f refusal is (λ m reading. subst (IsStream m bytes events) ends (stream_of names follow bytes events fed m reading))
  where
    by : (f : FollowFault) (refusal : Refusal) → refusal_of f ≡ Ok refusal → IsStreamBy follow.keyed names bytes events (Err f) → AreRefused follow.keyed names bytes refusal
    by (fault.Edn at cause) refusal e stream = subst (AreRefused follow.keyed names bytes) (ok_same (Edn at cause) refusal e) (events, stream, fed.within)
    by (fault.Event at cause) refusal e stream = subst (AreRefused follow.keyed names bytes) (ok_same (OfEvent at cause) refusal e) (events, stream, fed.within)
    by (fault.Truncated at) refusal e stream = subst (AreRefused follow.keyed names bytes) (ok_same (Truncated at) refusal e) (events, stream, fed.within)
    by fault.OutOfMemory refusal e stream = absurd (cc)
    by fault.TooMuch refusal e stream = absurd (cc)

-- no more is read behind such a fault
pub stops_behind : (f : FollowFault) (refusal : Refusal) (left : Option (List ℕ)) → is_fault (Err f) ≡ true → refusal_of f ≡ Ok refusal → StopsFor refusal left
stops_behind (fault.Edn at cause) refusal left ends is = subst (λ r. StopsFor r left) (ok_same (Edn at cause) refusal is) tt
stops_behind (fault.Event at cause) refusal left ends is = subst (λ r. StopsFor r left) (ok_same (OfEvent at cause) refusal is) tt
stops_behind (fault.Truncated at) refusal left ends is = absurd (true≢false (sym ends))
stops_behind fault.OutOfMemory refusal left ends is = absurd (cc)
stops_behind fault.TooMuch refusal left ends is = absurd (cc)

abbrev EndsFor : Option Refusal → Result (Unit {0}) FollowFault → Type 0
EndsFor refusal outcome = MatchOption refusal (is_fault outcome ≡ false)
    (λ r. (fault : FollowFault) × (outcome ≡ Err fault) × (is_fault (Err fault) ≡ true) × (refusal_of fault ≡ Ok r))

pub refusal_stops : (refusal : Option Refusal) (outcome : Result (Unit {0}) FollowFault) → EndsFor refusal outcome
    → IfSome refusal (λ r. (left : Option (List ℕ)) → StopsFor r left)
refusal_stops None outcome ends = tt
refusal_stops (Some r) outcome ends = λ left. stops_behind ends.0 r left ends.2 ends.3

-- the bytes were taken in, or are refused
pub piece_told : (names : List (List ℕ)) (follow : Followed) (bytes : List ℕ) (events : List Event) (refusal : Option Refusal)
    (outcome : Result (Unit {0}) FollowFault) → IsFed names follow bytes events → follow.outcome ≡ outcome → EndsFor refusal outcome
    → MatchOption refusal (IsFed names follow bytes events) (AreRefused follow.keyed names bytes)
piece_told names follow bytes events None outcome fed same ends = fed
piece_told names follow bytes events (Some r) outcome fed same ends = fed_refused names follow bytes events ends.0 r fed (same ∙ ends.1) ends.3

no_such_end : (m : Reading) (bytes : List ℕ) (events : List Event) (f : FollowFault) (r : RunFault) → refusal_of f ≡ Err r → IsStream m bytes events (Err f) → ⊥
no_such_end m bytes events (fault.Edn at cause) r e stream = cc
no_such_end m bytes events (fault.Event at cause) r e stream = cc
no_such_end m bytes events (fault.Truncated at) r e stream = cc
no_such_end m bytes events fault.OutOfMemory r e stream = elim stream [ ]
no_such_end m bytes events fault.TooMuch r e stream = elim stream [ ]

-- a stream doesn't end by want of memory or by its length
pub no_other_end : (names : List (List ℕ)) (follow : Followed) (bytes : List ℕ) (events : List Event) (f : FollowFault) (r : RunFault)
    → (number : Numbering) × AgreesWith names number → IsFed names follow bytes events → follow.outcome ≡ Err f → refusal_of f ≡ Err r → ⊥
no_other_end names follow bytes events f r numbers fed ends is =
    let reading = some_reading follow numbers.0 in
    no_such_end reading bytes events f r is (subst (IsStream reading bytes events) ends (stream_of names follow bytes events fed reading (refl, numbers.1)))

-- a follower of no bytes
pub fed_nothing : (names : List (List ℕ)) (follow : Followed) (events : List Event) → ((m : Reading) → IsReading follow.keyed names m → Sees m follow [] []) → follow.ready ≡ [] → events ≡ []
    → IsFed names follow [] events
fed_nothing names follow events sees ready none = record {
  sees = λ m reading. subst (Sees m follow []) (sym none) (sees m reading);
  none_ready = ready;
  within = omega (arith, ap length none);
}

-- what is passed over in a text that was fed whole
pub fed_passed : (names : List (List ℕ)) (follow : Followed) (bytes : List ℕ) (events : List Event) → (number : Numbering) × AgreesWith names number
    → IsFed names follow bytes events → follow.outcome ≡ Ok tt → IsPassed bytes follow.passed_over
fed_passed names follow bytes events numbers fed whole =
    let over = (fed.sees (some_reading follow numbers.0) (refl, numbers.1)).over (ap is_fault whole) in
    (over.0, over.3 whole, over.2)

-- what is kept in mind of it
pub passed_noted : (text : List ℕ) (history : History) (p q : Passed) → AreAllPassed text history p → q ≡ passed_with history p → IsPassedIn text history q
passed_noted text (Whole es) p q all is = subst (IsPassed text) (sym is) all
passed_noted text (Refused refusal) p q all is = is
