-- What a pull takes from a follower, piece by piece.
use Rattle.std.proofs.Common.{◌≡◌, ◌+◌, ◌-◌, ◌^◌, ◌<◌, ◌≤◌, ◌∷◌, ◌++◌, [], ℕ, Bool, List, Option, None, Some, Result, Ok, Err, length, take, inl, inr, refl, sym, ap, subst, ◌∙◌, arith, append_assoc, append-nil, length-append, ◌==◌, ne_eqb, lt-ltb, le-ltb}
use Rattle.std.specs.Prelude.{if◌then◌else◌}
use Rattle.std.specs.Io.KnownBytes.{Consumes, IsAtEnd}
use Rattle.std.proofs.Math.Seq.{take-append_seam}
use Rattle.std.proofs.lemmas.List.{take_all}
use Rattle.lin_events.specs.declared.events.Event.{Event}
use Rattle.lin_history.specs.declared.follow.FollowFault.{FollowFault}
use Rattle.lin_history.specs.declared.follow.FollowFault.TheVariants as fault
use Rattle.lin_history.specs.Reading.{IsReading, Reading}
use Rattle.lin_history.specs.Stream.{IsStreamBy, IsStream}
use Rattle.lin_history.specs.Sees.{Followed, IsTakenIn, IsTooMuch, Sees, Takes}
use Rattle.lin_names.specs.Names.{AgreesWith, AreEachOnce, IsSpelling, NumberingsAgree, number_of}
use Rattle.lin_names.specs.lemmas.Begins.{agrees_before, begins_itself, begins_on}
use Rattle.lin_answers.specs.Edits.{Present}
use Rattle.lin_formats.specs.Inputs.{limit}
use Rattle.lin_formats.specs.Intakes.{AreSeen}
use Rattle.lin_report.specs.Pulls.{Enters, IsAllOrFull, IsStop, StandsAt}
use Rattle.lin_report.specs.Runs.{AreMore, GoesOn, IsPull, IsReadOn, RunState, pull_refusal, refusal_in, room_in}
use Rattle.lin_formats.specs.declared.verdicts.Refusal.{Refusal}
use Rattle.lin_formats.specs.declared.verdicts.Refusal.TheVariants.{Edn, Event as OfEvent, Truncated, Full, BadPair, Few}

-- no event went yet
pub none_entered : (now : Present) (follow : Followed) → Enters now now follow follow []
none_entered now follow = record {
  present = ap (λ (h : List Event). record now { history = h }) (sym (append-nil now.history));
  keyed = refl;
  sees = λ m bytes put seen. subst (Sees m follow bytes) (sym (append-nil put)) seen;
  room = omega arith;
}

-- one more event went
pub one_more_entered : (now mid new : Present) (follow from after : Followed) (entered : List Event) (event : Event) → Enters now mid follow from entered
    → length mid.history < limit → Takes from after (Some event) → new ≡ record mid { history = mid.history ++ event ∷ [] }
    → Enters now new follow after (entered ++ event ∷ [])
one_more_entered now mid new follow from after entered event so_far room took put =
    let size : length mid.history ≡ length now.history + length entered = ap (λ p. length p.history) so_far.present ∙ length-append now.history entered in
    let longer : length (entered ++ event ∷ []) ≡ length entered + 1 = length-append entered (event ∷ []) in
    record {
      present = put ∙ ap (λ (p : Present). record p { history = p.history ++ event ∷ [] }) so_far.present ∙ ap (λ (h : List Event). record now { history = h }) (append_assoc now.history entered (event ∷ []));
      keyed = took.1 ∙ so_far.keyed;
      sees = λ m bytes before seen. subst (Sees m after bytes) (append_assoc before entered (event ∷ [])) (took.3 m bytes (before ++ entered) (so_far.sees m bytes before seen));
      room = omega arith;
    }

-- whether all that were ready went
pub all_or_full : (now : Present) (follow : Followed) (ready : List Event) → follow.ready ≡ ready → limit ≤ length now.history
    → IsAllOrFull (length ready == 0) now follow
all_or_full now follow [] is full = is
all_or_full now follow (e ∷ ready) is full =
    let size = ap length is in
    rw (ne_eqb (length (e ∷ ready)) 0 (λ (none : length (e ∷ ready) ≡ 0). absurd (omega arith))) (omega arith, full)

-- why no more may be read, where nothing is ready
pub stop_of : (now : Present) (follow : Followed) (outcome : Result (Unit {0}) FollowFault) → follow.ready ≡ [] → follow.outcome ≡ outcome
    → IsStop (refusal_in outcome) now follow
stop_of now follow (Ok x) none is = (none, ap refusal_in is)
stop_of now follow (Err (fault.Edn at cause)) none is = (none, ap refusal_in is)
stop_of now follow (Err (fault.Event at cause)) none is = (none, ap refusal_in is)
stop_of now follow (Err (fault.Truncated at)) none is = (none, ap refusal_in is)
stop_of now follow (Err fault.OutOfMemory) none is = (none, ap refusal_in is)
stop_of now follow (Err fault.TooMuch) none is = (none, ap refusal_in is)

-- no spelling has two numbers where none has one
none_spelled : (w : List ℕ) (n : ℕ) → IsSpelling [] w n → ⊥
none_spelled w n is = cc

pub no_names : AreEachOnce []
no_names m n w first second = absurd (none_spelled w m first)

-- more of more names
pub more_on : (a b c : List (List ℕ)) → AreMore a b → AreMore b c → AreMore a c
more_on a b c first second = (begins_on a b c first.0 second.0, second.1)

-- a reading by more names is one by those before
reading_before : (old new : List (List ℕ)) (keyed : Bool) (m : Reading) → AreMore old new → IsReading keyed new m → IsReading keyed old m
reading_before old new keyed m more is = (is.0, agrees_before old new m.number more.0 is.1)

pub seen_on : (old new : List (List ℕ)) (follow : Followed) (bytes : List ℕ) (put : List Event) → AreMore old new → AreSeen old follow bytes put → AreSeen new follow bytes put
seen_on old new follow bytes put more seen m is = seen m (reading_before old new follow.keyed m more is)

-- what a part of the file brought, of which these events went to the history; names got more
pub record HasPulled (now new : Present) (names names' : List (List ℕ)) (follow after : Followed) (part : List ℕ) (entered : List Event) : Type 0 where
  pub present : new ≡ record now { history = now.history ++ entered }
  pub more : AreMore names names'
  pub keyed : after.keyed ≡ follow.keyed
  pub sees : (m : Reading) → AgreesWith names' m.number → (bytes : List ℕ) (put : List Event) → Sees m follow bytes put → Sees m after (bytes ++ part) (put ++ entered)
  pub room : length entered ≤ limit - length now.history

pub pulled_none : (now : Present) (names : List (List ℕ)) (follow : Followed) → AreEachOnce names → HasPulled now now names names follow follow [] []
pulled_none now names follow once = record {
  present = ap (λ (h : List Event). record now { history = h }) (sym (append-nil now.history));
  more = (begins_itself names, once);
  keyed = refl;
  sees = λ m by bytes put seen. subst (λ b. Sees m follow b (put ++ [])) (sym (append-nil bytes)) (subst (Sees m follow bytes) (sym (append-nil put)) seen);
  room = omega arith;
}

-- more events went
pub pulled_more : (now mid new : Present) (names names' : List (List ℕ)) (follow from after : Followed) (part : List ℕ) (entered more : List Event) → HasPulled now mid names names' follow from part entered
    → Enters mid new from after more → HasPulled now new names names' follow after part (entered ++ more)
pulled_more now mid new names names' follow from after part entered more so_far next =
    let size : length mid.history ≡ length now.history + length entered = ap (λ p. length p.history) so_far.present ∙ length-append now.history entered in
    let both : length (entered ++ more) ≡ length entered + length more = length-append entered more in
    let first = so_far.room in
    let second = next.room in
    record {
      present = next.present ∙ ap (λ (p : Present). record p { history = p.history ++ more }) so_far.present ∙ ap (λ (h : List Event). record now { history = h }) (append_assoc now.history entered more);
      more = so_far.more;
      keyed = next.keyed ∙ so_far.keyed;
      sees = λ m by bytes put seen. subst (Sees m after (bytes ++ part)) (append_assoc put entered more) (next.sees m (bytes ++ part) (put ++ entered) (so_far.sees m by bytes put seen));
      room = omega arith;
    }

-- a further piece was read
pub pulled_piece : (now new : Present) (names mid names' : List (List ℕ)) (follow from after : Followed) (part piece : List ℕ) (entered more : List Event)
    → HasPulled now new names mid follow from part entered → AreMore mid names' → IsTakenIn names' from piece after more → HasPulled now new names names' follow after (part ++ piece) entered
pulled_piece now new names mid names' follow from after part piece entered more so_far grown taken = record {
  present = so_far.present;
  more = more_on names mid names' so_far.more grown;
  keyed = taken.keyed ∙ so_far.keyed;
  sees = λ m by bytes put seen. subst (λ b. Sees m after b (put ++ entered)) (append_assoc bytes part piece)
      (taken.sees m by (bytes ++ part) (put ++ entered) (so_far.sees m (agrees_before mid names' m.number grown.0 by) bytes put seen));
  room = so_far.room;
}

-- the follower is right for all bytes so far
seen_so_far : (now new : Present) (names names' : List (List ℕ)) (follow after : Followed) (part : List ℕ) (entered : List Event) → HasPulled now new names names' follow after part entered
    → (bytes : List ℕ) (put : List Event) → AreSeen names follow bytes put → AreSeen names' after (bytes ++ part) (put ++ entered)
seen_so_far now new names names' follow after part entered so_far bytes put seen m is =
    so_far.sees m is.1 bytes put (seen m (reading_before names names' follow.keyed m so_far.more (is.0 ∙ so_far.keyed, is.1)))

-- the stream of all bytes so far
stream_so_far : (keyed : Bool) (before : RunState) (now new : Present) (names names' : List (List ℕ)) (follow after : Followed) (left : Option (List ℕ)) (part : List ℕ) (entered : List Event)
    → StandsAt keyed before now names follow left → HasPulled now new names names' follow after part entered
    → IsStreamBy keyed names' (before.bytes ++ part) (before.put ++ (entered ++ after.ready)) after.outcome
stream_so_far keyed before now new names names' follow after left part entered stands so_far m is =
    let seen = seen_so_far now new names names' follow after part entered so_far before.bytes before.put stands.sees m (is.0 ∙ sym stands.keyed_is ∙ sym so_far.keyed, is.1) in
    subst (λ es. IsStream m (before.bytes ++ part) es after.outcome) (append_assoc before.put entered after.ready) seen.is_stream

-- too much is read where the piece that comes is too much for the follower
pub too_much_so_far : NumberingsAgree → (now new : Present) (names names' : List (List ℕ)) (follow after : Followed) (part piece : List ℕ) (entered : List Event)
    → HasPulled now new names names' follow after part entered → IsTooMuch after piece → (bytes : List ℕ) (put : List Event) → AreSeen names follow bytes put
    → 2 ^ 40 < length bytes + length (part ++ piece)
too_much_so_far agree now new names names' follow after part piece entered so_far large bytes put seen =
    let m : Reading = record { keyed = after.keyed; number = number_of names' } in
    let size = large m (bytes ++ part) (put ++ entered) (seen_so_far now new names names' follow after part entered so_far bytes put seen m (refl, agree names' so_far.more.1)) in
    let first = length-append bytes part in
    let second = length-append part piece in
    omega arith

-- the room at first
room_is : (keyed : Bool) (before : RunState) (now : Present) (names : List (List ℕ)) (follow : Followed) (left : Option (List ℕ)) → StandsAt keyed before now names follow left
    → limit - length now.history ≡ room_in before.present
room_is keyed before now names follow left stands = ap room_in stands.present_is

-- what fits is not refused for want of room
fitting : (room : ℕ) (waiting : List Event) (outcome : Result (Unit {0}) FollowFault) → length waiting ≤ room → pull_refusal room waiting outcome ≡ refusal_in outcome
fitting room waiting outcome fits =
    ap (λ b. if b then Some Full else refusal_in outcome) (le-ltb room (length waiting) fits)

-- and what doesn't fit is
not_fitting : (room : ℕ) (waiting : List Event) (outcome : Result (Unit {0}) FollowFault) → room < length waiting → pull_refusal room waiting outcome ≡ Some Full
not_fitting room waiting outcome more =
    ap (λ b. if b then Some Full else refusal_in outcome) (lt-ltb room (length waiting) more)

-- where nothing is ready and no fault stands, more may be read
pub goes_on : (keyed : Bool) (before : RunState) (now new : Present) (names names' : List (List ℕ)) (follow after : Followed) (left : Option (List ℕ)) (part : List ℕ) (entered : List Event)
    → StandsAt keyed before now names follow left → HasPulled now new names names' follow after part entered → IsStop None new after
    → GoesOn keyed names' (before.bytes ++ part) before.put (room_in before.present)
goes_on keyed before now new names names' follow after left part entered stands so_far stop =
    let same = room_is keyed before now names follow left stands in
    let all : entered ++ after.ready ≡ entered = ap (λ r. entered ++ r) stop.0 ∙ append-nil entered in
    let fits : length (entered ++ after.ready) ≤ room_in before.present = omega (arith, ap length all, so_far.room, same) in
    record {
      waiting = entered ++ after.ready;
      outcome = after.outcome;
      stream = stream_so_far keyed before now new names names' follow after left part entered stands so_far;
      unrefused = fitting (room_in before.present) (entered ++ after.ready) after.outcome fits ∙ stop.1;
    }

-- so it is by more names
goes_on_by : (keyed : Bool) (names names' : List (List ℕ)) (bytes : List ℕ) (put : List Event) (room : ℕ) → AreMore names names' → GoesOn keyed names bytes put room → GoesOn keyed names' bytes put room
goes_on_by keyed names names' bytes put room more on =
    record { waiting = on.waiting; outcome = on.outcome; stream = λ m is. on.stream m (reading_before names names' keyed m more is); unrefused = on.unrefused }

-- and that was so before the pull, if something was read
pub goes_on_still : (keyed : Bool) (names names' : List (List ℕ)) (before : RunState) (part piece : List ℕ) → AreMore names names' → IsReadOn keyed names before part
    → GoesOn keyed names (before.bytes ++ part) before.put (room_in before.present) → IsReadOn keyed names' before (part ++ piece)
goes_on_still keyed names names' before part piece more (inl none) now =
    inr (goes_on_by keyed names names' before.bytes before.put (room_in before.present) more
    (subst (λ b. GoesOn keyed names b before.put (room_in before.present)) (ap (λ p. before.bytes ++ p) none ∙ append-nil before.bytes) now))
goes_on_still keyed names names' before part piece more (inr on) now = inr (goes_on_by keyed names names' before.bytes before.put (room_in before.present) more on)

-- what went is what there was room for, and the refusal is the right one
pub ends_right : (now new : Present) (after : Followed) (entered : List Event) (refused : Option Refusal) → new ≡ record now { history = now.history ++ entered }
    → length entered ≤ limit - length now.history → IsStop refused new after
    → (entered ≡ take (limit - length now.history) (entered ++ after.ready)) × (refused ≡ pull_refusal (limit - length now.history) (entered ++ after.ready) after.outcome)
ends_right now new after entered refused made room stop =
    let size : length new.history ≡ length now.history + length entered = ap (λ p. length p.history) made ∙ length-append now.history entered in
    let both : length (entered ++ after.ready) ≡ length entered + length after.ready = length-append entered after.ready in
    by_refusal refused stop size both
  where
    settled : (r : Option Refusal) → after.ready ≡ [] → refusal_in after.outcome ≡ r
        → (entered ≡ take (limit - length now.history) (entered ++ after.ready)) × (r ≡ pull_refusal (limit - length now.history) (entered ++ after.ready) after.outcome)
    settled r none is =
        let all : entered ++ after.ready ≡ entered = ap (λ x. entered ++ x) none ∙ append-nil entered in
        let fits : length (entered ++ after.ready) ≤ limit - length now.history = omega (arith, ap length all, room) in (
          sym (take_all (limit - length now.history) (entered ++ after.ready) fits ∙ all),
          sym (fitting (limit - length now.history) (entered ++ after.ready) after.outcome fits ∙ is),
        )

    by_refusal : (r : Option Refusal) → IsStop r new after → length new.history ≡ length now.history + length entered
        → length (entered ++ after.ready) ≡ length entered + length after.ready
        → (entered ≡ take (limit - length now.history) (entered ++ after.ready)) × (r ≡ pull_refusal (limit - length now.history) (entered ++ after.ready) after.outcome)
    by_refusal None s size both = settled None s.0 s.1
    by_refusal (Some Full) s size both =
        let some = s.0 in
        let full = s.1 in
        let just : limit - length now.history ≡ length entered = omega arith in (
          sym (ap (λ n. take n (entered ++ after.ready)) just ∙ take-append_seam entered after.ready),
          sym (not_fitting (limit - length now.history) (entered ++ after.ready) after.outcome (omega arith)),
        )
    by_refusal (Some (Edn at cause)) s size both = settled (Some (Edn at cause)) s.0 s.1
    by_refusal (Some (OfEvent at cause)) s size both = settled (Some (OfEvent at cause)) s.0 s.1
    by_refusal (Some (Truncated at)) s size both = settled (Some (Truncated at)) s.0 s.1
    by_refusal (Some (BadPair at)) s size both = settled (Some (BadPair at)) s.0 s.1
    by_refusal (Some (Few count wanted)) s size both = settled (Some (Few count wanted)) s.0 s.1

-- where a pull ends, it did what it should
pub pull_ends : (keyed : Bool) (before : RunState) (now new : Present) (names names' : List (List ℕ)) (follow after : Followed) (old left : Option (List ℕ)) (part : List ℕ) (entered : List Event)
    (refused : Option Refusal) → StandsAt keyed before now names follow old → HasPulled now new names names' follow after part entered → IsStop refused new after
    → Consumes old left part → (refused ≡ None → IsAtEnd left) → IsReadOn keyed names' before part
    → (end : RunState) × StandsAt keyed end new names' after left × IsPull keyed before end refused
pull_ends keyed before now new names names' follow after old left part entered refused stands so_far stop consumed to_end read_on =
    let right = ends_right now new after entered refused so_far.present so_far.room stop in
    let same = room_is keyed before now names follow old stands in
    let took : entered ≡ take (room_in before.present) (entered ++ after.ready) = right.0 ∙ ap (λ n. take n (entered ++ after.ready)) same in
    let end : RunState = record { present = new; names = names'; bytes = before.bytes ++ part; put = before.put ++ entered; left = left } in (
      end,
      record {
        present_is = refl;
        names_are = refl;
        once = so_far.more.1;
        sees = seen_so_far now new names names' follow after part entered so_far before.bytes before.put stands.sees;
        keyed_is = so_far.keyed ∙ stands.keyed_is;
        left_is = refl;
      },
      record {
        part = part;
        waiting = entered ++ after.ready;
        outcome = after.outcome;
        reads = subst (λ l. Consumes l left part) stands.left_is consumed;
        to_end = to_end;
        no_further = read_on;
        names = subst (λ n. AreMore n names') stands.names_are so_far.more;
        bytes = refl;
        stream = stream_so_far keyed before now new names names' follow after old part entered stands so_far;
        put = ap (λ es. before.put ++ es) took;
        present = so_far.present ∙ ap (λ (p : Present). record p { history = p.history ++ entered }) stands.present_is
            ∙ ap (λ (es : List Event). record before.present { history = before.present.history ++ es }) took;
        refusal = right.1 ∙ ap (λ n. pull_refusal n (entered ++ after.ready) after.outcome) same;
      },
    )

-- a refusal is one
pub not_none : (refusal : Refusal) → Some refusal ≡ None → ⊥
not_none refusal none = cc
