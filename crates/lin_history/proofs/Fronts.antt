-- What stands at the front of a text, as the end of what is read of it.
use Rattle.std.proofs.Common.{◌≡◌, ◌≢◌, ℕ, ◌+◌, ◌≤◌, List, [], ◌∷◌, ◌++◌, None, Some, Ok, Err, length, refl, sym, ap, ◌∙◌, subst, arith, append-nil, zero-add}
use Rattle.lin_edn.specs.Value.{Value, values_of}
use Rattle.lin_edn.specs.Grammar.{Spells, ShortBlanks, IsBlankText, IsUnfinished}
use Rattle.lin_edn.specs.Reading.{Refuses}
use Rattle.lin_edn.specs.declared.EdnCause.{EdnCause}
use Rattle.lin_edn.specs.declared.EdnCause.TheVariants as edn
use Rattle.lin_history.specs.Reading.{Reading}
use Rattle.lin_history.specs.Stream.{Told, before, told, told_by, Gives, nothing, blanks, blank, unfinished, no_element, no_event}
use Rattle.lin_history.specs.Table.{event, IsAnswer}
use Rattle.lin_history.specs.PassedMaps.{PassesOver, nothing as passes_nothing, blanks as passes_blanks}
use Rattle.lin_history.specs.inner.Passing.{Gathered}
use Rattle.lin_history.specs.inner.Reads.{IsReadTo, IsTold}
use Rattle.lin_events.specs.declared.events.Event.{Event}
use Rattle.lin_history.specs.declared.table.EventFault.{EventFault}
use Rattle.lin_history.specs.declared.table.EventFault.TheVariants as cause
use Rattle.lin_history.specs.declared.follow.FollowFault.TheVariants as fault
use Rattle.lin_history.proofs.Counting.{over_nothing}

-- blanks in front
front : {k : Reading} {s t : List ℕ} (n : ℕ) → ShortBlanks s n t → Gives k s [] n
front {k} {s} n b = subst (λ m. Gives k s [] m) (zero-add n) (blanks nothing b)

front_passes : {s t : List ℕ} (n : ℕ) → ShortBlanks s n t → PassesOver s [] n
front_passes {s} n b = subst (λ m. PassesOver s [] m) (zero-add n) (passes_blanks passes_nothing b)

place_is : (p at : ℕ) → p + at ≡ p + (0 + at)
place_is p at = omega arith

pub ends_in_fault : (k : Reading) (s : List ℕ) (p : ℕ) (old new : Gathered) (v : Value) (at used : ℕ) (cause : EventFault) →
    Spells s v at used → used ≤ length s → (told k v).ends ≡ Some cause → new.items ≡ old.items ++ (told k v).events →
    IsReadTo k s p old new (record { used = used; outcome = Err (fault.Event (p + at) cause) })
ends_in_fault k s p old new v at used cause spelled inside ends put = record {
  events = (told k v).events;
  outcome = Err (fault.Event (0 + at) cause);
  put = put;
  inside = inside;
  is_stream = no_event nothing spelled (ap (λ e. record { events = (told k v).events; ends = e }) ends);
  told = ap (λ n. Err (fault.Event n cause)) (place_is p at);
  goes_on = λ h. cc;
  over = λ h. cc;
}

pub ends_unfinished : (k : Reading) (s t : List ℕ) (p : ℕ) (old : Gathered) (at : ℕ) → IsUnfinished s at → ShortBlanks s at t →
    IsReadTo k s p old old (record { used = at; outcome = Err (fault.Truncated (p + at)) })
ends_unfinished k s t p old at u b = record {
  events = [];
  outcome = Err (fault.Truncated (0 + at));
  put = sym (append-nil old.items);
  inside = (let h = u.0 in omega arith);
  is_stream = unfinished at nothing u;
  told = ap (λ n. Err (fault.Truncated n)) (place_is p at);
  goes_on = λ h. front at b;
  over = λ h. over_nothing s (Err (fault.Truncated (0 + at))) old.passed at (front_passes at b) (λ ok. cc);
}

pub ends_blank : (k : Reading) (s t : List ℕ) (p : ℕ) (old : Gathered) (used : ℕ) → used ≤ length s → IsBlankText s used → ShortBlanks s used t →
    IsReadTo k s p old old (record { used = used; outcome = Ok tt })
ends_blank k s t p old used inside u b = record {
  events = [];
  outcome = Ok tt;
  put = sym (append-nil old.items);
  inside = inside;
  is_stream = blank nothing u;
  told = refl;
  goes_on = λ h. front used b;
  over = λ h. over_nothing s (Ok tt) old.passed used (front_passes used b) (λ ok. (0, used, passes_nothing, u));
}

pub ends_refused : (k : Reading) (s : List ℕ) (p : ℕ) (old : Gathered) (at : ℕ) (cause : EdnCause) → Refuses s at cause → cause ≢ edn.OutOfMemory →
    IsReadTo k s p old old (record { used = 0; outcome = Err (fault.Edn (p + at) cause) })
ends_refused k s p old at cause r c = record {
  events = [];
  outcome = Err (fault.Edn (0 + at) cause);
  put = sym (append-nil old.items);
  inside = omega arith;
  is_stream = no_element at cause nothing r c;
  told = ap (λ n. Err (fault.Edn n cause)) (place_is p at);
  goes_on = λ h. cc;
  over = λ h. cc;
}

abbrev none_behind : Told
none_behind = record { events = []; ends = None }

failed : (m : Reading) (v : Value) (old : List Event) (f : EventFault) → event m v ≡ Err f →
    ((told_by m (values_of (v ∷ []))).ends ≡ Some f) × (old ≡ old ++ (told_by m (values_of (v ∷ []))).events)
failed m v old f h =
    let is : told_by m (values_of (v ∷ [])) ≡ record { events = []; ends = Some f } = ap (λ r. before r none_behind) h in
    (ap (λ t. t.ends) is, sym (append-nil old) ∙ ap (λ (t : Told). old ++ t.events) (sym is))

-- a map that says no event tells its fault alone, or wants memory
pub told_failed : (m : Reading) (v : Value) (old : List Event) (f : EventFault) → IsAnswer (event m v) (Err f) → IsTold (told_by m (values_of (v ∷ []))) old old (Err f)
told_failed m v old cause.NotAMap h = failed m v old cause.NotAMap h
told_failed m v old cause.DuplicateKey h = failed m v old cause.DuplicateKey h
told_failed m v old cause.Missing h = failed m v old cause.Missing h
told_failed m v old cause.BadProcess h = failed m v old cause.BadProcess h
told_failed m v old cause.BadType h = failed m v old cause.BadType h
told_failed m v old cause.BadFunction h = failed m v old cause.BadFunction h
told_failed m v old cause.BadKey h = failed m v old cause.BadKey h
told_failed m v old cause.BadValue h = failed m v old cause.BadValue h
told_failed m v old cause.OutOfMemory h = ([], sym (append-nil old))

-- a fault that isn't want of memory is that of the element
pub told_fault : (t : Told) (old new : List Event) (f : EventFault) → f ≢ cause.OutOfMemory → IsTold t old new (Err f) → (t.ends ≡ Some f) × (new ≡ old ++ t.events)
told_fault t old new cause.NotAMap h e = e
told_fault t old new cause.DuplicateKey h e = e
told_fault t old new cause.Missing h e = e
told_fault t old new cause.BadProcess h e = e
told_fault t old new cause.BadType h e = e
told_fault t old new cause.BadFunction h e = e
told_fault t old new cause.BadKey h e = e
told_fault t old new cause.BadValue h e = e
told_fault t old new cause.OutOfMemory h e = absurd (h refl)
