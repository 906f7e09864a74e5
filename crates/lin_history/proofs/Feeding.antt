-- What a follower sees when a piece is taken in.
use Rattle.std.proofs.Common.{◌≡◌, ℕ, ◌+◌, ◌-◌, ◌≤◌, Bool, true, false, List, [], ◌++◌, Option, None, Ok, Err, drop, length, refl, sym, ap, ◌∙◌, subst, arith, append_assoc, append-nil, length-append, length-drop, true≢false}
use Rattle.std.proofs.lemmas.List.{drop-drop, drop-append-le}
use Rattle.lin_edn.specs.Grammar.{nothing_more, no_blank_yet}
use Rattle.lin_names.specs.Names.{AgreesWith}
use Rattle.lin_history.specs.Reading.{Reading, IsReading}
use Rattle.lin_history.specs.Rests.{IsWaiting}
use Rattle.lin_history.specs.Stream.{Gives, nothing, IsStream, blank}
use Rattle.lin_history.specs.Sees.{Followed, Sees, is_fault, IsTakenIn, IsAsBefore, Feeds, most}
use Rattle.lin_history.specs.Counts.{none_passed}
use Rattle.lin_history.specs.PassedMaps.{nothing as passes_nothing}
use Rattle.lin_history.specs.inner.Passing.{Gathered}
use Rattle.lin_history.specs.inner.Reads.{behind, IsReadTo}
use Rattle.lin_events.specs.declared.events.Event.{Event}
use Rattle.lin_history.specs.declared.follow.Read.{Read}
use Rattle.lin_history.specs.declared.row.Row.{Row}
use Rattle.lin_history.specs.declared.follow.FollowFault.{FollowFault}
use Rattle.lin_history.specs.declared.follow.FollowFault.TheVariants as fault
use Rattle.lin_history.proofs.Reading.{fault_behind}
use Rattle.lin_history.proofs.Counting.{counted_on, passes_more}
use Rattle.lin_history.proofs.Streams.{SpelledStays, PassedStays, RefusedStays, SpelledInside, PassedInside, gives_join, stream_join, gives_more, fault_more}

-- a follower of an empty stream
pub sees_nothing : (m : Reading) (k : Bool) → m.keyed ≡ k → Sees m (record { keyed = k; ready = []; passed_over = none_passed; outcome = Ok tt; passed = 0; held = []; row = None }) [] []
sees_nothing m k is = record {
  keyed = is;
  is_stream = blank nothing (nothing_more no_blank_yet);
  is_held = λ h. (nothing, omega arith, refl);
  waits = tt;
  over = λ h. ([], passes_nothing, refl, λ ok. (0, 0, passes_nothing, nothing_more no_blank_yet));
}

-- a piece behind a fault is taken in as it is
behind_fault : SpelledInside → PassedInside → SpelledStays → PassedStays → RefusedStays →
    (names : List (List ℕ)) (f : Followed) (piece : List ℕ) → is_fault f.outcome ≡ true → IsTakenIn names f piece f []
behind_fault a b c d e names f piece h = record {
  keyed = refl;
  ready = sym (append-nil f.ready);
  sees = λ m agrees stream taken s. record {
    keyed = s.keyed;
    is_stream = fault_more a b c d e piece h s.is_stream;
    is_held = λ n. absurd (true≢false (sym h ∙ n));
    waits = s.waits;
    over = λ n. absurd (true≢false (sym h ∙ n));
  };
  fits = λ n. absurd (true≢false (sym h ∙ n));
}

-- a fault that the outcome is, is what feeding answers
pub feeds_fault : (names : List (List ℕ)) (old new : Followed) (piece : List ℕ) (more : List Event) (f : FollowFault) → new.outcome ≡ Err f → is_fault new.outcome ≡ true →
    IsTakenIn names old piece new more → Feeds names old piece new (Err f)
feeds_fault names old new piece more (fault.Edn at cause) e h t = (more, t, e)
feeds_fault names old new piece more (fault.Event at cause) e h t = (more, t, e)
feeds_fault names old new piece more (fault.Truncated at) e h t = absurd (true≢false (sym h ∙ ap is_fault e))
feeds_fault names old new piece more fault.OutOfMemory e h t = absurd (true≢false (sym h ∙ ap is_fault e))
feeds_fault names old new piece more fault.TooMuch e h t = absurd (true≢false (sym h ∙ ap is_fault e))

pub feeds_behind_fault : SpelledInside → PassedInside → SpelledStays → PassedStays → RefusedStays →
    (names : List (List ℕ)) (old : Followed) (piece : List ℕ) (f : FollowFault) → old.outcome ≡ Err f → is_fault old.outcome ≡ true → Feeds names old piece old (Err f)
feeds_behind_fault a b c d e names old piece f is h = feeds_fault names old old piece [] f is h (behind_fault a b c d e names old piece h)

-- what is held and read, and what was put behind what was ready
abbrev pub follower_with : Followed → Read → Gathered → List ℕ → Option Row → Followed
follower_with f r ready held row = record { keyed = f.keyed; ready = ready.items; passed_over = ready.passed; outcome = r.outcome; passed = f.passed + r.used; held = held; row = row }

-- what is read of what is held with a piece behind it, wherever what waits is right for it
abbrev pub IsReadBy : List (List ℕ) → Followed → List ℕ → Read → Gathered → List ℕ → Option Row → Type 0
IsReadBy names f piece r ready held row = (m : Reading) → IsReading f.keyed names m → IsWaiting m f.row f.held →
    IsReadTo m (f.held ++ piece) f.passed (record { items = f.ready; passed = f.passed_over }) ready r × IsWaiting m row held

pub taken_in : SpelledInside → PassedInside → SpelledStays → PassedStays →
    (names : List (List ℕ)) (f : Followed) (piece : List ℕ) (r : Read) (ready : Gathered) (held : List ℕ) (row : Option Row) (more : List Event) →
    is_fault f.outcome ≡ false → f.passed + length f.held + length piece ≤ most → ready.items ≡ f.ready ++ more → held ≡ drop r.used (f.held ++ piece) →
    IsReadBy names f piece r ready held row → IsTakenIn names f piece (follower_with f r ready held row) more
taken_in a b c d names f piece r ready held row more sound small put dropped read = record {
  keyed = refl;
  ready = put;
  sees = λ (m : Reading) (agrees : AgreesWith names m.number) (stream : List ℕ) (taken : List Event) (s : Sees m f stream taken). sees_on m agrees stream taken s;
  fits = λ n m stream taken s.
      let h = s.is_held n in
      let inside : f.passed ≤ length stream = h.1 in
      let size : length f.held ≡ length stream - f.passed = ap length h.2 ∙ length-drop f.passed stream in
      omega arith;
}
  where
    sees_on : (m : Reading) → AgreesWith names m.number → (stream : List ℕ) (taken : List Event) → Sees m f stream taken → Sees m (follower_with f r ready held row) (stream ++ piece) taken
    sees_on m agrees stream taken s =
        let h = s.is_held sound in
        let both = read m (s.keyed, agrees) s.waits in
        let e = both.0 in
        let inside : f.passed ≤ length stream = h.1 in
        let before : Gives m (stream ++ piece) (taken ++ f.ready) f.passed = gives_more a b c d piece h.0 in
        let text : f.held ++ piece ≡ drop f.passed (stream ++ piece) = ap (λ l. l ++ piece) h.2 ∙ sym (drop-append-le f.passed stream piece inside) in
        let events : (taken ++ f.ready) ++ e.events ≡ taken ++ ready.items = append_assoc taken f.ready e.events ∙ ap (λ l. taken ++ l) (sym e.put) in
        record {
          keyed = s.keyed;
          is_stream = subst (λ o. IsStream m (stream ++ piece) (taken ++ ready.items) o) (sym e.told)
              (subst (λ l. IsStream m (stream ++ piece) l (behind f.passed e.outcome)) events (stream_join before e.is_stream text));
          is_held = λ n.
              let calm : is_fault e.outcome ≡ false = sym (fault_behind f.passed e.outcome) ∙ ap is_fault (sym e.told) ∙ n in
              let size : length f.held ≡ length stream - f.passed = ap length h.2 ∙ length-drop f.passed stream in
              let longer : length (f.held ++ piece) ≡ length f.held + length piece = length-append f.held piece in
              let whole : length (stream ++ piece) ≡ length stream + length piece = length-append stream piece in
              let used : r.used ≤ length (f.held ++ piece) = e.inside in (
                subst (λ l. Gives m (stream ++ piece) l (f.passed + r.used)) events (gives_join before (e.goes_on calm) text),
                omega arith,
                dropped ∙ ap (drop r.used) text ∙ drop-drop r.used f.passed (stream ++ piece),
              );
          waits = both.1;
          over = λ n.
              let calm : is_fault e.outcome ≡ false = sym (fault_behind f.passed e.outcome) ∙ ap is_fault (sym e.told) ∙ n in
              let so_far = s.over sound in
              counted_on (stream ++ piece) (f.held ++ piece) f.passed_over ready.passed so_far.0 f.passed r.used e.outcome r.outcome
              (passes_more a b c d piece so_far.1) so_far.2 (e.over calm) text e.told;
        }

-- refused, all is as it was, but that what waited may have to be read anew
abbrev pub follower_again : Followed → Option Row → Followed
follower_again f row = record { keyed = f.keyed; ready = f.ready; passed_over = f.passed_over; outcome = f.outcome; passed = f.passed; held = f.held; row = row }

pub as_before : (f : Followed) (row : Option Row) → ((m : Reading) → IsWaiting m f.row f.held → IsWaiting m row f.held) → IsAsBefore f (follower_again f row)
as_before f row waits = record {
  keyed = refl;
  ready = refl;
  outcome = refl;
  passed_over = refl;
  passed = refl;
  held = refl;
  sees = λ m stream taken s. record { keyed = s.keyed; is_stream = s.is_stream; is_held = s.is_held; waits = waits m s.waits; over = s.over };
}

-- the events that became ready, counted
pub feeds_ok : (names : List (List ℕ)) (old new : Followed) (piece : List ℕ) (more : List Event) (n : ℕ) → is_fault new.outcome ≡ false → n ≡ length new.ready - length old.ready →
    IsTakenIn names old piece new more → Feeds names old piece new (Ok n)
feeds_ok names old new piece more n calm count t =
    let longer : length new.ready ≡ length old.ready + length more = ap length t.ready ∙ length-append old.ready more in
    (more, t, omega arith, calm)
