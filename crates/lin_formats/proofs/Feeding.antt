-- What a reader of places marks when a piece is taken in.
use Rattle.std.proofs.Common.{◌≡◌, ℕ, ◌+◌, ◌-◌, ◌<◌, ◌≤◌, ◌==◌, Bool, true, false, List, [], ◌∷◌, ◌++◌, Result, Err, Ok, drop, length, refl, sym, ap, subst, arith, ◌∙◌, length-append, length-drop}
use Rattle.std.proofs.lemmas.Bool.{false≢true}
use Rattle.std.proofs.lemmas.Bool.Decides.{nat_tests}
use Rattle.std.proofs.lemmas.List.{drop-append-le, drop-drop}
use Rattle.lin_edn.specs.Grammar.{Spells, ShortBlanks, frame, Open, IsBlankText, IsUnfinished, nothing_more, no_blank_yet}
use Rattle.lin_edn.specs.Reading.{Refuses}
use Rattle.lin_edn.specs.Value.{Value}
use Rattle.lin_edn.specs.declared.EdnCause.{EdnCause}
use Rattle.lin_history.specs.Reading.{Reading}
use Rattle.lin_history.specs.Stream.{Gives, nothing, blanks, element, IsStream, blank, unfinished, no_element, no_event}
use Rattle.lin_history.specs.Sees.{is_fault, FaultsStay}
use Rattle.lin_events.specs.declared.events.Event.{Event}
use Rattle.lin_history.specs.declared.follow.FollowFault.{FollowFault}
use Rattle.lin_history.specs.declared.follow.FollowFault.TheVariants as fault
use Rattle.lin_formats.specs.Places.{place_at, Begins, alone, inside, ArePlaces, none, one_more, StopsAt, is_bad, IsBehind, IsHeld, Marked, Marks}
use Rattle.lin_formats.specs.inner.Marks.{IsReadTo, Ends, IsRead, IsResting}
use Rattle.lin_texts.specs.declared.place.Place.{Place}
use Rattle.lin_formats.specs.declared.place.Stop.{Stop}
use Rattle.lin_formats.specs.declared.place.Stop.TheVariants as stop
use Rattle.lin_formats.specs.declared.mark.Read.{Read}
use Rattle.lin_formats.specs.Rests.{IsCut}
use Rattle.lin_formats.proofs.Tails.{open_tail}
use Rattle.lin_edn.specs.lemmas.Rising.{tail_size}
use Rattle.lin_formats.proofs.Newlines.{place_stays}
use Rattle.lin_edn.specs.lemmas.Longer.{open_longer, element_longer}

abbrev pub SpelledStays : Type 0
SpelledStays = (s x : List ℕ) (v : Value) (at used : ℕ) → Spells s v at used → Spells (s ++ x) v at used

abbrev pub PassedStays : Type 0
PassedStays = (s x t : List ℕ) (n : ℕ) → ShortBlanks s n t → ShortBlanks (s ++ x) n (t ++ x)

abbrev pub SpelledInside : Type 0
SpelledInside = (s : List ℕ) (v : Value) (at used : ℕ) → Spells s v at used → (at < used) × (used ≤ length s)

abbrev pub PassedInside : Type 0
PassedInside = (s t : List ℕ) (n : ℕ) → ShortBlanks s n t → n ≤ length s

abbrev pub RefusedInside : Type 0
RefusedInside = (s : List ℕ) (at : ℕ) (cause : EdnCause) → Refuses s at cause → at ≤ length s

-- the laws of what stands in front of texts
pub record Laws : Type 0 where
  pub spelled : SpelledInside
  pub passed : PassedInside
  pub spelled_stays : SpelledStays
  pub passed_stays : PassedStays

-- what is read ends inside the text
pub gives_inside : Laws → {k : Reading} {s : List ℕ} {es : List Event} {p : ℕ} → Gives k s es p → p ≤ length s
gives_inside l {k} {s} {es} {p} nothing = omega arith
gives_inside l {k} {s} {es} {p} (blanks {t = t} {p = q} {n = n} h x) =
    let before : q ≤ length s = gives_inside l h in
    let here : n ≤ length (drop q s) = l.passed (drop q s) t n x in
    let size = length-drop q s in
    omega arith
gives_inside l {k} {s} {es} {p} (element {v = v} {p = q} {at = at} {used = used} h x w) =
    let before : q ≤ length s = gives_inside l h in
    let here : used ≤ length (drop q s) = (l.spelled (drop q s) v at used x).1 in
    let size = length-drop q s in
    omega arith

-- more bytes change nothing of what is read
pub gives_more : Laws → {k : Reading} {s : List ℕ} {es : List Event} {p : ℕ} (x : List ℕ) → Gives k s es p → Gives k (s ++ x) es p
gives_more l {k} {s} {es} {p} x nothing = nothing
gives_more l {k} {s} {es} {p} x (blanks {t = t} {p = q} {n = n} h y) =
    blanks (gives_more l x h) (subst (λ z. ShortBlanks z n (t ++ x)) (sym (drop-append-le q s x (gives_inside l h))) (l.passed_stays (drop q s) x t n y))
gives_more l {k} {s} {es} {p} x (element {v = v} {p = q} {at = at} {used = used} h y w) =
    element (gives_more l x h) (subst (λ z. Spells z v at used) (sym (drop-append-le q s x (gives_inside l h))) (l.spelled_stays (drop q s) x v at used y)) w

-- and nothing of where a map begins
begins_more : Laws → {k : Reading} {s : List ℕ} {es : List Event} {p : ℕ} {v : Value} (x : List ℕ) → Begins k s es p v → Begins k (s ++ x) es p v
begins_more l {s = s} x (alone {p = q} {at = at} {used = used} {v = v} g y r) =
    alone (gives_more l x g) (subst (λ z. Spells z v at used) (sym (drop-append-le q s x (gives_inside l g))) (l.spelled_stays (drop q s) x v at used y)) r
begins_more l {s = s} x (inside {t = t} {p = q} {n = n} {o = o} {at = at} {k = k} {vs = vs} {st = st} g open_there r tags w e) =
    inside (gives_more l x g) (subst (λ z. Open z n (frame k o vs ∷ st) at (t ++ x)) (sym (drop-append-le q s x (gives_inside l g))) (open_longer open_there x)) r tags w (element_longer e x)

begun_inside : Laws → {k : Reading} {s : List ℕ} {es : List Event} {p : ℕ} {v : Value} → Begins k s es p v → p ≤ length s
begun_inside l {s = s} (alone {p = q} {at = at} {used = used} {v = v} g y r) =
    let before : q ≤ length s = gives_inside l g in
    let here = l.spelled (drop q s) v at used y in
    let size = length-drop q s in
    omega arith
begun_inside l {s = s} (inside {t = t} {p = q} {at = at} g o r tags w e) =
    let before : q ≤ length s = gives_inside l g in
    let size = length-drop q s in
    let all : 0 + length (drop q s) ≡ at + length t = tail_size (open_tail o) in
    omega arith

pub places_more : Laws → {k : Reading} {s : List ℕ} {es : List Event} {ps : List Place} (x : List ℕ) → ArePlaces k s es ps → ArePlaces k (s ++ x) es ps
places_more l x none = none
places_more l {k = k} {s = s} x (one_more {es = es} {ps = ps} {p = p} {e = e} h b is) =
    subst (λ q. ArePlaces k (s ++ x) (es ++ e ∷ []) (ps ++ q ∷ [])) (place_stays s x p (begun_inside l b)) (one_more (places_more l x h) (begins_more l x b) is)

pub read_more : Laws → (k : Reading) (s x : List ℕ) (next : Place) (ps : List Place) → IsReadTo k s next ps → IsReadTo k (s ++ x) next ps
read_more l k s x next ps h = (h.0, gives_more l x h.1, h.2 ∙ sym (place_stays s x next.offset (gives_inside l h.1)), places_more l x h.3)

-- a fault lies within the text
fault_inside : Laws → RefusedInside → {k : Reading} {s : List ℕ} {es : List Event} {o : Result (Unit {0}) FollowFault} (at : ℕ) (cause : EdnCause) → IsStream k s es o → o ≡ Err (fault.Edn at cause) → at ≤ length s
fault_inside l r at cause (blank g b) h = cc
fault_inside l r at cause (unfinished a g b) h = cc
fault_inside l r {s = s} at cause (no_element {p = p} a c g b known) h =
    let before : p ≤ length s = gives_inside l g in
    let here : a ≤ length (drop p s) = r (drop p s) a c b in
    let size = length-drop p s in
    let same : p + a ≡ at = (cc) in
    omega arith
fault_inside l r at cause (no_event g b w) h = cc

-- more bytes change nothing of where a text stops at a fault
stops_more : Laws → RefusedInside → (k : Reading) (s y : List ℕ) (es : List Event) (o : Result (Unit {0}) FollowFault) (x : Stop) → IsStream k s es o → is_bad x ≡ true → StopsAt k s es o x →
    (is_fault o ≡ true) × StopsAt k (s ++ y) es o x
stops_more l r k s y es (Ok u) x i bad h = absurd (false≢true (ap is_bad (sym h) ∙ bad))
stops_more l r k s y es (Err (fault.Truncated at)) x i bad h = absurd (false≢true (ap is_bad (sym h) ∙ bad))
stops_more l r k s y es (Err (fault.Edn at cause)) x i bad h = (refl, h ∙ ap stop.Bad (sym (place_stays s y at (fault_inside l r at cause i refl))))
stops_more l r k s y es (Err (fault.Event at cause)) x i bad h = (refl, (h.0, h.1, begins_more l y h.2, h.3, h.4 ∙ ap stop.Bad (sym (place_stays s y h.0 (begun_inside l h.2)))))
stops_more l r k s y es (Err fault.OutOfMemory) x i bad h = absurd h
stops_more l r k s y es (Err fault.TooMuch) x i bad h = absurd h

-- a piece behind a fault
pub marks_behind : Laws → RefusedInside → FaultsStay → (k : Reading) (m : Marked) (piece text : List ℕ) → is_bad m.stop ≡ true → Marks k m text → Marks k m (text ++ piece)
marks_behind l r stay k m piece text bad h =
    let s = stops_more l r k text piece h.events h.outcome m.stop h.is_stream bad h.stops in
    let longer = length-append text piece in
    let room = h.room in record {
      keyed = h.keyed;
      events = h.events;
      outcome = h.outcome;
      is_stream = stay k text piece h.events h.outcome s.0 h.is_stream;
      are_places = places_more l piece h.are_places;
      stops = s.1;
      room = omega arith;
      is_held = λ n. absurd (false≢true (sym n ∙ bad));
    }

-- a piece that is taken in
pub marks_taken : Laws → (k : Reading) (m : Marked) (piece text held : List ℕ) (places : List Place) (r : Read) → is_bad m.stop ≡ false → IsCut piece m.held m.places held places (Ok r) →
    IsRead k (m.held ++ piece) m.next m.places places r → Marks k m text →
    let new : Marked = record { keyed = m.keyed; places = places; stop = r.stop; next = r.next.place; held = held } in Marks k new (text ++ piece) × IsHeld new (text ++ piece)
marks_taken l k m piece text held places r calm cut t h =
    let old = h.is_held calm in
    let within : m.next.offset ≤ length text = gives_inside l old.0 in
    let front : m.held ++ piece ≡ drop m.next.offset (text ++ piece) = ap (λ b. b ++ piece) old.2 ∙ sym (drop-append-le m.next.offset text piece within) in
    let read : IsReadTo k (text ++ piece) m.next m.places = read_more l k text piece m.next m.places (h.events, old.0, old.1, h.are_places) in
    let now = t (text ++ piece) front read in
    let e : Ends k (text ++ piece) r.next.place places r.stop = now.1 in
    let offset : r.next.place.offset ≡ m.next.offset + r.next.at = now.0 in
    let behind : held ≡ drop r.next.place.offset (text ++ piece) = cut.0 ∙ ap (drop r.next.at) front ∙ drop-drop r.next.at m.next.offset (text ++ piece) ∙ ap (λ n. drop n (text ++ piece)) (sym offset) in
    let far : r.next.at ≤ length (m.held ++ piece) = cut.1.0 in
    let size : length (m.held ++ piece) ≡ length (text ++ piece) - m.next.offset = ap length front ∙ length-drop m.next.offset (text ++ piece) in
    let longer = length-append text piece in
    let left : length held ≡ length (text ++ piece) - r.next.place.offset = ap length behind ∙ length-drop r.next.place.offset (text ++ piece) in (
      record {
        keyed = h.keyed;
        events = e.events;
        outcome = e.outcome;
        is_stream = e.is_stream;
        are_places = e.are_places;
        stops = e.stops;
        room = omega arith;
        is_held = λ n. (let on = e.goes_on n in (on.0, on.1, behind));
      },
      behind,
    )

-- what rests has no fault
pub rest_behind : (held : List ℕ) (next : Place) (x : Stop) → IsResting held next x → IsBehind next x
rest_behind held next stop.Nowhere rests = tt
rest_behind held next (stop.Unfinished p) rests = tt
rest_behind held next (stop.Bad p) rests = absurd rests

-- an empty text
pub marks_nothing : (k : Reading) (keyed : Bool) → k.keyed ≡ keyed → Marks k (record { keyed = keyed; places = []; stop = stop.Nowhere; next = record { offset = 0; line = 1 }; held = [] }) []
marks_nothing k keyed is = record {
  keyed = is;
  events = [];
  outcome = Ok tt;
  is_stream = blank nothing (nothing_more no_blank_yet);
  are_places = none;
  stops = refl;
  room = omega arith;
  is_held = λ n. (nothing, refl, refl);
}

-- bytes that are held and still unfinished
pub ends_resting : (k : Reading) (whole held : List ℕ) (next : Place) (ps : List Place) (x : Stop) → held ≡ drop next.offset whole → IsResting held next x → IsReadTo k whole next ps → Ends k whole next ps x
ends_resting k whole held next ps stop.Nowhere is rests h = record {
  events = h.0;
  outcome = Ok tt;
  is_stream = blank h.1 (subst (λ b. IsBlankText b 0) is rests);
  are_places = h.3;
  stops = refl;
  goes_on = λ n. (h.1, h.2);
}
ends_resting k whole held next ps (stop.Unfinished p) is rests h =
    let same : next.offset ≡ next.offset + 0 = omega arith in record {
      events = h.0;
      outcome = Err (fault.Truncated (next.offset + 0));
      is_stream = unfinished 0 h.1 (subst (λ b. IsUnfinished b 0) is rests.1);
      are_places = h.3;
      stops = ap stop.Unfinished (rests.0 ∙ h.2 ∙ ap (place_at whole) same);
      goes_on = λ n. (h.1, h.2);
    }
ends_resting k whole held next ps (stop.Bad p) is rests h = absurd rests

pub none_rests : (b : List ℕ) → length b ≡ 0 → IsBlankText b 0
none_rests [] e = nothing_more no_blank_yet
none_rests (c ∷ b) e = absurd (omega arith)

pub is_zero : (n : ℕ) → (n == 0) ≡ true → n ≡ 0
is_zero n h = grind (arith, nat_tests)

pub is_some : (n : ℕ) → (n == 0) ≡ false → 0 < n
is_some n h = grind (arith, nat_tests)
