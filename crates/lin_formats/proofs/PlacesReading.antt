-- A text that is read element by element.
use Rattle.std.proofs.Common.{◌≡◌, ◌≢◌, ℕ, ◌+◌, ◌-◌, ◌≤◌, List, ◌++◌, Ok, Err, drop, length, refl, sym, ap, subst, arith, ◌∙◌}
use Rattle.std.proofs.lemmas.Bool.{false≢true}
use Rattle.std.proofs.lemmas.List.{drop-drop, length-drop}
use Rattle.lin_edn.specs.Grammar.{Spells, ShortBlanks, IsBlankText, IsUnfinished}
use Rattle.lin_edn.specs.Reading.{Refuses}
use Rattle.lin_edn.specs.Value.{Value}
use Rattle.lin_edn.specs.declared.EdnCause.{EdnCause}
use Rattle.lin_edn.specs.declared.EdnCause.TheVariants as edn
use Rattle.lin_history.specs.Reading.{Reading}
use Rattle.lin_history.specs.Stream.{told, Gives, blanks, element, blank, unfinished, no_element, no_event}
use Rattle.lin_history.specs.declared.follow.FollowFault.TheVariants as fault
use Rattle.lin_formats.specs.Places.{place_at}
use Rattle.lin_formats.specs.inner.Marks.{Fits, AreMarked, IsReadTo, IsRead, IsFront, IsPassed}
use Rattle.lin_texts.specs.declared.place.Place.{Place}
use Rattle.lin_formats.specs.declared.place.Cursor.{Cursor}
use Rattle.lin_formats.specs.declared.place.Stop.TheVariants as stop
use Rattle.lin_formats.specs.declared.mark.Read.{Read}
use Rattle.lin_formats.specs.declared.mark.Front.TheVariants as front
use Rattle.lin_formats.specs.declared.mark.Maps.TheVariants as maps

-- a place of a text, as one of the longer text that it stands in
abbrev pub IsPlaced : List ℕ → Place → Cursor → Type 0
IsPlaced text place c = (whole : List ℕ) (p : ℕ) → text ≡ drop p whole → place ≡ place_at whole (p + 0) → c.place ≡ place_at whole (p + c.at)

start : (whole : List ℕ) (place : Place) → place ≡ place_at whole place.offset → place ≡ place_at whole (place.offset + 0)
start whole place h = let same : place.offset ≡ place.offset + 0 = omega arith in h ∙ ap (place_at whole) same

-- a cursor's offset and place, by those of the text
offset_at : (whole : List ℕ) (p : ℕ) (place : Place) → place ≡ place_at whole p → place.offset ≡ p
offset_at whole p place h = ap (λ x. x.offset) h

is_place_at : (whole : List ℕ) (p : ℕ) (place : Place) → place ≡ place_at whole p → place ≡ place_at whole place.offset
is_place_at whole p place h = h ∙ ap (place_at whole) (sym (offset_at whole p place h))

pub front_element : (k : Reading) (text : List ℕ) (place : Place) (old new : List Place) (v : Value) (at used : ℕ) (begun next : Cursor) → Spells text v at used → begun.at ≡ at → next.at ≡ used →
    IsPlaced text place begun → AreMarked k text (told k v) begun old new (maps.Sound next) → IsFront k text place old new (front.Element next)
front_element k text place old new v at used begun next spelled begins ends placed m = λ whole is read.
    let p : ℕ = place.offset in
    let gives : Gives k whole read.0 p = read.1 in
    let far = m.2 whole p read.0 (is, gives, placed whole p is (start whole place read.2), read.3) in
    let here : next.place ≡ place_at whole (p + next.at) = far.0 in
    let offset : next.place.offset ≡ p + next.at = offset_at whole (p + next.at) next.place here in
    let same : p + used ≡ next.place.offset = omega arith in
    let on : Gives k whole (read.0 ++ m.0) (p + used) = element gives (subst (λ l. Spells l v at used) is spelled) m.1 in (
      offset,
      (read.0 ++ m.0, subst (λ n. Gives k whole (read.0 ++ m.0) n) same on, is_place_at whole (p + next.at) next.place here, far.1),
    )

pub front_bad : (k : Reading) (text : List ℕ) (place : Place) (old new : List Place) (v : Value) (at used : ℕ) (begun : Cursor) (bad : Place) →
    Spells text v at used → IsPlaced text place begun → AreMarked k text (told k v) begun old new (maps.Bad bad) →
    IsRead k text place old new (record { next = record { at = 0; place = place }; stop = stop.Bad bad })
front_bad k text place old new v at used begun bad spelled placed m = λ whole is read.
    let p : ℕ = place.offset in
    let far = m.3 whole p read.0 (is, read.1, placed whole p is (start whole place read.2), read.3) in (
      omega arith,
      record {
        events = read.0 ++ m.0;
        outcome = Err (fault.Event (p + at) m.1);
        is_stream = no_event read.1 (subst (λ l. Spells l v at used) is spelled) m.2;
        are_places = far.0;
        stops = (far.1, far.2, far.3, far.4, ap stop.Bad far.5);
        goes_on = λ h. absurd (false≢true (sym h));
      },
    )

pub front_unfinished : (k : Reading) (text t : List ℕ) (place : Place) (old : List Place) (next : Cursor) → IsPlaced text place next → IsUnfinished text next.at → ShortBlanks text next.at t →
    IsRead k text place old old (record { next = next; stop = stop.Unfinished next.place })
front_unfinished k text t place old next placed u b = λ whole is read.
    let p : ℕ = place.offset in
    let here : next.place ≡ place_at whole (p + next.at) = placed whole p is (start whole place read.2) in
    let offset : next.place.offset ≡ p + next.at = offset_at whole (p + next.at) next.place here in (
      offset,
      record {
        events = read.0;
        outcome = Err (fault.Truncated (p + next.at));
        is_stream = unfinished next.at read.1 (subst (λ l. IsUnfinished l next.at) is u);
        are_places = read.3;
        stops = ap stop.Unfinished here;
        goes_on = λ h. (
          subst (λ n. Gives k whole read.0 n) (sym offset) (blanks read.1 (subst (λ l. ShortBlanks l next.at t) is b)),
          is_place_at whole (p + next.at) next.place here,
        );
      },
    )

pub front_blank : (k : Reading) (text t : List ℕ) (place : Place) (old : List Place) (next : Cursor) → IsPlaced text place next → IsBlankText text next.at → ShortBlanks text next.at t →
    IsRead k text place old old (record { next = next; stop = stop.Nowhere })
front_blank k text t place old next placed u b = λ whole is read.
    let p : ℕ = place.offset in
    let here : next.place ≡ place_at whole (p + next.at) = placed whole p is (start whole place read.2) in
    let offset : next.place.offset ≡ p + next.at = offset_at whole (p + next.at) next.place here in (
      offset,
      record {
        events = read.0;
        outcome = Ok tt;
        is_stream = blank read.1 (subst (λ l. IsBlankText l next.at) is u);
        are_places = read.3;
        stops = refl;
        goes_on = λ h. (
          subst (λ n. Gives k whole read.0 n) (sym offset) (blanks read.1 (subst (λ l. ShortBlanks l next.at t) is b)),
          is_place_at whole (p + next.at) next.place here,
        );
      },
    )

pub front_refused : (k : Reading) (text : List ℕ) (place : Place) (old : List Place) (bad : Cursor) (cause : EdnCause) → IsPlaced text place bad →
    Refuses text bad.at cause → cause ≢ edn.OutOfMemory → IsRead k text place old old (record { next = record { at = 0; place = place }; stop = stop.Bad bad.place })
front_refused k text place old bad cause placed r c = λ whole is read.
    let p : ℕ = place.offset in (
      omega arith,
      record {
        events = read.0;
        outcome = Err (fault.Edn (p + bad.at) cause);
        is_stream = no_element bad.at cause read.1 (subst (λ l. Refuses l bad.at cause) is r) c;
        are_places = read.3;
        stops = ap stop.Bad (placed whole p is (start whole place read.2));
        goes_on = λ h. absurd (false≢true (sym h));
      },
    )

-- up to a place of a text, which fits from there on
abbrev pub IsUp : List ℕ → ℕ → Place → Type 0
IsUp text at place = (at ≤ length text) × Fits (drop at text) (record { at = 0; place = place })

-- how far a text is read
abbrev pub IsReadUp : Reading → List ℕ → Place → ℕ → Place → List Place → List Place → Type 0
IsReadUp k text first at place old places =
    (whole : List ℕ) → text ≡ drop first.offset whole → IsReadTo k whole first old → (place.offset ≡ first.offset + at) × IsReadTo k whole place places

behind : (whole text : List ℕ) (first place : Place) (at : ℕ) → text ≡ drop first.offset whole → place.offset ≡ first.offset + at → drop at text ≡ drop place.offset whole
behind whole text first place at is offset = ap (drop at) is ∙ drop-drop at first.offset whole ∙ ap (λ n. drop n whole) (sym offset)

pub up_more : (text : List ℕ) (at : ℕ) (place : Place) (next : Cursor) → IsUp text at place → IsPassed (drop at text) (front.Element next) → IsUp text (at + next.at) next.place
up_more text at place next up f =
    let inside : at ≤ length text = up.0 in
    let size : length (drop at text) ≡ length text - at = length-drop at text in
    let later : length (drop (at + next.at) text) ≡ length text - (at + next.at) = length-drop (at + next.at) text in
    let within : next.at ≤ length (drop at text) = f.0.0 in
    let room = f.0.1 in
    (omega arith, (omega arith, omega arith, f.0.2))

pub one_front : (k : Reading) (text : List ℕ) (first : Place) (at : ℕ) (place : Place) (old places new : List Place) (next : Cursor) → IsReadUp k text first at place old places →
    IsFront k (drop at text) place places new (front.Element next) → IsReadUp k text first (at + next.at) next.place old new
one_front k text first at place old places new next up f = λ whole is read.
    let here = up whole is read in
    let on = f whole (behind whole text first place at is here.0) here.1 in (
      (let a : place.offset ≡ first.offset + at = here.0 in let b : next.place.offset ≡ place.offset + next.at = on.0 in omega arith),
      on.1,
    )

pub end_fits : (text : List ℕ) (at : ℕ) (place : Place) (next : Cursor) → IsUp text at place → Fits (drop at text) next → Fits text (record { at = at + next.at; place = next.place })
end_fits text at place next up fits =
    let inside : at ≤ length text = up.0 in
    let size : length (drop at text) ≡ length text - at = length-drop at text in
    let within : next.at ≤ length (drop at text) = fits.0 in
    let room = fits.1 in
    (omega arith, omega arith, fits.2)

pub the_end : (k : Reading) (text : List ℕ) (first : Place) (at : ℕ) (place : Place) (old places new : List Place) (r : Read) → IsReadUp k text first at place old places →
    IsRead k (drop at text) place places new r → IsRead k text first old new (record { next = record { at = at + r.next.at; place = r.next.place }; stop = r.stop })
the_end k text first at place old places new r up f = λ whole is read.
    let here = up whole is read in
    let on = f whole (behind whole text first place at is here.0) here.1 in (
      (let a : place.offset ≡ first.offset + at = here.0 in let b : r.next.place.offset ≡ place.offset + r.next.at = on.0 in omega arith),
      on.1,
    )
