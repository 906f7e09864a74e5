-- The places of maps, one after another.
use Rattle.std.proofs.Common.{◌≡◌, ℕ, zero, suc, ◌+◌, ◌<◌, ◌≤◌, Bool, true, false, List, [], ◌∷◌, ◌++◌, length, drop, take, map, get_or, take-append-drop, Option, Some, None, Result, Ok, Err, refl, sym, ap, subst, arith, ◌∙◌, append_assoc, append-nil}
use Rattle.lin_edn.specs.Grammar.{Blanks, no_blank, one_more as one_more_blank, Element, Row, blank, element, Frame, frame, Open, none_open, within, Spells, spells, longest}
use Rattle.lin_bytes.specs.Bytes.{Kind}
use Rattle.lin_edn.specs.Value.{Value, no_values, value, values_of}
use Rattle.std.proofs.lemmas.Bool.{false≢true}
use Rattle.lin_edn.specs.View.{view}
use Rattle.lin_edn.specs.declared.Edn.{Edn}
use Rattle.lin_history.specs.Reading.{Reading, IsReading}
use Rattle.lin_history.specs.Stream.{Told, before, told_by, told, Gives}
use Rattle.lin_history.specs.Table.{event}
use Rattle.lin_events.specs.declared.events.Event.{Event}
use Rattle.lin_history.specs.declared.table.EventFault.{EventFault}
use Rattle.lin_formats.specs.Places.{place_at, row_of, Begins, alone, inside, ArePlaces, one_more}
use Rattle.lin_formats.specs.inner.Marks.{IsPutBehind, IsMarkedOne, IsPut, StandsAt, Follow, another, IsAmong, IsStanding, IsSound, IsUnsound, AreMarked, ArePassed}
use Rattle.lin_texts.specs.declared.place.Place.{Place}
use Rattle.lin_formats.specs.declared.place.Cursor.{Cursor}
use Rattle.lin_names.specs.Names.{Begins as BeginNames}
use Rattle.lin_names.specs.lemmas.Begins.{agrees_before}
use Rattle.lin_formats.specs.declared.mark.Maps.{Maps}
use Rattle.lin_formats.specs.declared.mark.Maps.TheVariants as maps
use Rattle.lin_formats.proofs.Tails.{short_tail, tail_is}
use Rattle.lin_edn.specs.lemmas.Rising.{tail_rises, blanks_tail, element_past}
use Rattle.lin_formats.proofs.Rows.{follow_rises}
use Rattle.lin_formats.proofs.Telling.{behind_told, told_behind, lone_map}

-- more behind more
pub put_again : (a b c : List Place) → IsPutBehind a b → IsPutBehind b c → IsPutBehind a c
put_again a b c h k = (h.0 ++ k.0, k.1 ∙ ap (λ l. l ++ k.0) h.1 ∙ append_assoc a h.0 k.0)

pub put_none : (a b : List Place) → b ≡ a → IsPutBehind a b
put_none a b h = ([], h ∙ sym (append-nil a))

-- what is read by more names is read by those before
pub reading_before : (keyed : Bool) (old new : List (List ℕ)) (k : Reading) → BeginNames old new → IsReading keyed new k → IsReading keyed old k
reading_before keyed old new k begun is = (is.0, agrees_before old new k.number begun is.1)

pub put_of : (r : Result (Option Event) EventFault) (p : Place) (old new : List Place) → IsPut r p old new → IsPutBehind old new
put_of (Ok (Some e)) p old new h = (p ∷ [], h)
put_of (Ok None) p old new h = put_none old new h
put_of (Err f) p old new h = absurd h

-- a map that is sound, where it begins behind some events
pub one_put : (k : Reading) (v : Value) (r : Result (Option Event) EventFault) (at : Place) (old new : List Place) → event k v ≡ r → IsPut r at old new →
    (gs : List Event) × (told_by k (value v no_values) ≡ record { events = gs; ends = None }) × ((whole : List ℕ) (es : List Event) (q : ℕ) →
    ArePlaces k whole es old → Begins k whole es q v → at ≡ place_at whole q → ArePlaces k whole (es ++ gs) new)
one_put k v (Ok None) at old new is h = (
  [],
  ap (λ r. before r (record { events = []; ends = None })) is,
  λ whole es q places begins here. subst (λ l. ArePlaces k whole (es ++ []) l) (sym h) (subst (λ l. ArePlaces k whole l old) (sym (append-nil es)) places),
)
one_put k v (Ok (Some e)) at old new is h = (
  e ∷ [],
  ap (λ r. before r (record { events = []; ends = None })) is,
  λ whole es q places begins here. subst (λ l. ArePlaces k whole (es ++ e ∷ []) l) (ap (λ x. old ++ x ∷ []) (sym here) ∙ sym h) (one_more places begins is),
)
one_put k v (Err f) at old new is h = absurd h

with_blanks : {n p q r : ℕ} {s t u : List ℕ} {vs : List Value} → Row n p s vs q t → Blanks n q t r u → Row n p s vs r u
with_blanks row no_blank = row
with_blanks row (one_more_blank bs b) = blank (with_blanks row bs) b

more_in : {n o p r : ℕ} {s t x : List ℕ} {st : List Frame} {k : Kind} {vs ws : List Value} → Open s n (frame k o vs ∷ st) p t →
    ((q : ℕ) (u : List ℕ) → Row n q u vs p t → Row n q u ws r x) → Open s n (frame k o ws ∷ st) r x
more_in (within {q = q} {u = u} o i row) more = within o i (more q u row)

record First (n p : ℕ) (s : List ℕ) (v : Value) (vs : List Value) (o : ℕ) (x : List ℕ) : Type 0 where
  begun : ℕ
  used : ℕ
  from : List ℕ
  rest : List ℕ
  blanks : Blanks n p s begun from
  stands : Element n begun from v used rest
  others : Follow n used rest vs o x

first : {n p o : ℕ} {s x : List ℕ} {v : Value} {vs : List Value} → Follow n p s (v ∷ vs) o x → First n p s v vs o x
first (another {q = q} {r = r} {t = t} {u = u} bs e f) = record { begun = q; used = r; from = t; rest = u; blanks = bs; stands = e; others = f }

-- the next element of a list or vector, where it begins and ends
pub record Next (s : List ℕ) (at : ℕ) (before : List Value) (v : Value) (others : List Value) (until : ℕ) : Type 0 where
  pub begun : ℕ
  pub used : ℕ
  pub stands_at : StandsAt s at v begun used
  pub later : at ≤ begun
  pub some : begun < used
  pub ends : used ≤ until
  pub among : IsAmong s used (before ++ v ∷ []) others until
  pub begins : (k : Reading) (whole : List ℕ) (p : ℕ) (es fs : List Event) → s ≡ drop p whole → Gives k whole es p →
      told_by k (values_of before) ≡ record { events = fs; ends = None } → Begins k whole (es ++ fs) (p + begun) v

pub next_among : (s : List ℕ) (at : ℕ) (before : List Value) (v : Value) (others : List Value) (until : ℕ) → IsAmong s at before (v ∷ others) until → Next s at before v others until
next_among s at before v others until h =
    let f : First h.levels at (drop at s) v others h.end h.rest = first h.follow in
    let from : f.from ≡ drop f.begun s = tail_is s (blanks_tail f.blanks) refl in
    let rest : f.rest ≡ drop f.used s = tail_is s (element_past f.stands).1 from in
    let later : at ≤ f.begun = tail_rises (blanks_tail f.blanks) in
    let some : f.begun < f.used = (element_past f.stands).0 in
    let few : h.levels ≤ 64 = h.few in
    let short : until ≤ at + longest = h.short in
    let ends : h.end ≤ until = h.ends in
    let last : f.used ≤ h.end = follow_rises f.others in
    let blanks : Blanks h.levels at (drop at s) f.begun (drop f.begun s) = subst (λ l. Blanks h.levels at (drop at s) f.begun l) from f.blanks in
    let stands : Element h.levels f.begun (drop f.begun s) v f.used (drop f.used s) =
    subst (λ l. Element h.levels f.begun l v f.used (drop f.used s)) from (subst (λ l. Element h.levels f.begun f.from v f.used l) rest f.stands) in
    let here : Open s h.levels (frame h.kind h.begun before ∷ h.st) f.begun (drop f.begun s) = more_in h.is_open (λ q u row. with_blanks row blanks) in record {
      begun = f.begun;
      used = f.used;
      stands_at = (h.levels, few, blanks, stands, omega arith);
      later = later;
      some = some;
      ends = omega arith;
      among = record {
        levels = h.levels;
        kind = h.kind;
        begun = h.begun;
        st = h.st;
        end = h.end;
        rest = h.rest;
        few = few;
        row = h.row;
        are_tags = h.are_tags;
        is_open = more_in here (λ q u row. element row stands);
        follow = subst (λ l. Follow h.levels f.used l others h.end h.rest) rest f.others;
        ends = ends;
        short = omega arith;
        inside = h.inside;
      };
      begins = λ k whole p es fs is gives sound. inside gives (subst (λ l. Open l h.levels (frame h.kind h.begun before ∷ h.st) f.begun (drop f.begun s)) is here) h.row h.are_tags sound stands;
    }

-- one more sound map
pub sound_next : (k : Reading) (text : List ℕ) (at until : ℕ) (before others : List Value) (v : Value) (from next here : Cursor) (start old new : List Place) (n : Next text at before v others until) →
    here.at ≡ n.begun → ((whole : List ℕ) (p : ℕ) → text ≡ drop p whole → next.place ≡ place_at whole (p + next.at) → here.place ≡ place_at whole (p + n.begun)) →
    IsSound k text (told_by k (values_of before)) from start next old → IsPut (event k v) here.place old new →
    IsSound k text (told_by k (values_of (before ++ v ∷ []))) from start here new
sound_next k text at until before others v from next here start old new n is place sound put =
    let one = one_put k v (event k v) here.place old new refl put in (
      sound.0 ++ one.0,
      told_behind k before (v ∷ []) sound.0 sound.1 ∙ ap (behind_told sound.0) one.1,
      λ whole p es up.
          let far = sound.2 whole p es up in
          let at_here : here.place ≡ place_at whole (p + n.begun) = place whole p up.0 far.0 in (
            at_here ∙ ap (λ i. place_at whole (p + i)) (sym is),
            subst (λ l. ArePlaces k whole l new) (append_assoc es sound.0 one.0)
                (one.2 whole (es ++ sound.0) (p + n.begun) far.1 (n.begins k whole p es sound.0 up.0 up.1 sound.1) at_here),
          ),
    )

-- a later place without maps between
pub sound_later : (k : Reading) (text : List ℕ) (t : Told) (from here next : Cursor) (start new : List Place) →
    ((whole : List ℕ) (p : ℕ) → text ≡ drop p whole → here.place ≡ place_at whole (p + here.at) → next.place ≡ place_at whole (p + next.at)) →
    IsSound k text t from start here new → IsSound k text t from start next new
sound_later k text t from here next start new place sound = (
  sound.0,
  sound.1,
  λ whole p es up. (let far = sound.2 whole p es up in (place whole p up.0 far.0, far.1)),
)

-- a map that is no event, behind sound ones
pub unsound_next : (k : Reading) (text : List ℕ) (at until : ℕ) (before others : List Value) (v : Value) (from next here : Cursor) (start old new : List Place) (n : Next text at before v others until) (f : EventFault) →
    ((whole : List ℕ) (p : ℕ) → text ≡ drop p whole → next.place ≡ place_at whole (p + next.at) → here.place ≡ place_at whole (p + n.begun)) →
    IsSound k text (told_by k (values_of before)) from start next old → event k v ≡ Err f → new ≡ old →
    IsUnsound k text (told_by k (values_of (before ++ v ∷ others))) from start here.place new
unsound_next k text at until earlier others v from next here start old new n f place sound bad same = (
  sound.0,
  f,
  told_behind k earlier (v ∷ others) sound.0 sound.1 ∙ ap (λ r. behind_told sound.0 (before r (told_by k (values_of others)))) bad
      ∙ ap (λ l. record { events = l; ends = Some f }) (append-nil sound.0),
  λ whole p es up.
      let far = sound.2 whole p es up in (
        subst (λ l. ArePlaces k whole (es ++ sound.0) l) (sym same) far.1,
        p + n.begun,
        v,
        n.begins k whole p es sound.0 up.0 up.1 sound.1,
        bad,
        place whole p up.0 far.0,
      ),
)

-- an item of a list, and what stands before and behind it
taken : (es : List Edn) (i : ℕ) (e : Edn) → i < length es → e ≡ get_or es i e →
    (take (suc i) (map view es) ≡ take i (map view es) ++ view e ∷ []) × (drop i (map view es) ≡ view e ∷ drop (suc i) (map view es))
taken [] i e lt h = absurd (omega arith)
taken (x ∷ xs) zero e lt h = (ap (λ y. view y ∷ []) (sym h), ap (λ y. view y ∷ map view xs) (sym h))
taken (x ∷ xs) (suc i) e lt h = let rest = taken xs i e (omega arith) h in (ap (λ l. view x ∷ l) rest.0, rest.1)

pub took : (es : List Edn) (i : ℕ) (e : Edn) → i < length es → e ≡ get_or es i e → take i (map view es) ++ view e ∷ [] ≡ take (i + 1) (map view es)
took es i e lt h = let one : suc i ≡ i + 1 = omega arith in sym (taken es i e lt h).0 ∙ ap (λ n. take n (map view es)) one

leaves : (es : List Edn) (i : ℕ) (e : Edn) → i < length es → e ≡ get_or es i e → drop i (map view es) ≡ view e ∷ drop (i + 1) (map view es)
leaves es i e lt h = let one : suc i ≡ i + 1 = omega arith in (taken es i e lt h).1 ∙ ap (λ n. view e ∷ drop n (map view es)) one

pub all_items : (es : List Edn) (i : ℕ) (e : Edn) → i < length es → e ≡ get_or es i e → take i (map view es) ++ view e ∷ drop (i + 1) (map view es) ≡ map view es
all_items es i e lt h = ap (λ l. take i (map view es) ++ l) (sym (leaves es i e lt h)) ∙ take-append-drop i (map view es)

pub among_item : (s : List ℕ) (at until : ℕ) (es : List Edn) (i : ℕ) (e : Edn) → i < length es → e ≡ get_or es i e → IsAmong s at (take i (map view es)) (drop i (map view es)) until →
    Next s at (take i (map view es)) (view e) (drop (i + 1) (map view es)) until
among_item s at until es i e lt h among =
    next_among s at (take i (map view es)) (view e) (drop (i + 1) (map view es)) until (subst (λ l. IsAmong s at (take i (map view es)) l until) (leaves es i e lt h) among)

pub among_ends : (s : List ℕ) (at : ℕ) (before others : List Value) (until : ℕ) → IsAmong s at before others until → at ≤ until
among_ends s at before others until h =
    let a : at ≤ h.end = follow_rises h.follow in
    let b : h.end ≤ until = h.ends in omega arith

pub marked_sound : (k : Reading) (v : Value) (p : Place) (old new : List Place) (b : Bool) → b ≡ true → IsMarkedOne k v p old new (Ok b) → IsPut (event k v) p old new
marked_sound k v p old new true h m = m
marked_sound k v p old new false h m = absurd (false≢true h)

pub marked_bad : (k : Reading) (v : Value) (p : Place) (old new : List Place) (b : Bool) → b ≡ false → IsMarkedOne k v p old new (Ok b) → (f : EventFault) × (event k v ≡ Err f) × (new ≡ old)
marked_bad k v p old new false h m = m
marked_bad k v p old new true h m = absurd (false≢true (sym h))

-- what stands before a place changes nothing of what is marked from a later one on, if no map stands between
pub marked_from : (k : Reading) (text : List ℕ) (t u : Told) (from later : Cursor) (old new : List Place) (r : Maps) → t ≡ u →
    ((whole : List ℕ) (p : ℕ) → text ≡ drop p whole → from.place ≡ place_at whole (p + from.at) → later.place ≡ place_at whole (p + later.at)) →
    AreMarked k text t later old new r → AreMarked k text u from old new r
marked_from k text t u from later old new (maps.Sound next) same place m =
    (m.0, sym same ∙ m.1, λ whole p es up. m.2 whole p es (up.0, up.1, place whole p up.0 up.2, up.3))
marked_from k text t u from later old new (maps.Bad bad) same place m =
    (m.0, m.1, sym same ∙ m.2, λ whole p es up. m.3 whole p es (up.0, up.1, place whole p up.0 up.2, up.3))

alone_at : (k : Reading) (text whole : List ℕ) (p at until : ℕ) (es : List Event) (v : Value) → text ≡ drop p whole → Gives k whole es p → Spells text v at until → row_of v ≡ None →
    Begins k whole es (p + at) v
alone_at k text whole p at until es v is gives spelled none = alone gives (subst (λ l. Spells l v at until) is spelled) none

-- a map that stands alone
pub lone_sound : (k : Reading) (text : List ℕ) (v : Value) (begun next : Cursor) (until : ℕ) (old new : List Place) → Spells text v begun.at until → row_of v ≡ None →
    IsPut (event k v) begun.place old new →
    ((whole : List ℕ) (p : ℕ) → text ≡ drop p whole → begun.place ≡ place_at whole (p + begun.at) → next.place ≡ place_at whole (p + next.at)) →
    IsSound k text (told k v) begun old next new
lone_sound k text v begun next until old new spelled none put place =
    let one = one_put k v (event k v) begun.place old new refl put in (
      one.0,
      lone_map k v none ∙ one.1,
      λ whole p es up. (
        place whole p up.0 up.2,
        one.2 whole es (p + begun.at) up.3 (alone_at k text whole p begun.at until es v up.0 up.1 spelled none) up.2,
      ),
    )

pub lone_unsound : (k : Reading) (text : List ℕ) (v : Value) (begun : Cursor) (until : ℕ) (old new : List Place) → Spells text v begun.at until → row_of v ≡ None →
    (f : EventFault) × (event k v ≡ Err f) × (new ≡ old) → IsUnsound k text (told k v) begun old begun.place new
lone_unsound k text v begun until old new spelled none bad = (
  [],
  bad.0,
  lone_map k v none ∙ ap (λ r. before r (record { events = []; ends = None })) bad.1,
  λ whole p es up. (
    subst (λ l. ArePlaces k whole l new) (sym (append-nil es)) (subst (λ l. ArePlaces k whole es l) (sym bad.2) up.3),
    p + begun.at,
    v,
    subst (λ l. Begins k whole l (p + begun.at) v) (sym (append-nil es)) (alone_at k text whole p begun.at until es v up.0 up.1 spelled none),
    bad.1,
    up.2,
  ),
)

-- what is spelled stands at its place
pub standing : (s : List ℕ) (v : Value) (at used : ℕ) → Spells s v at used → used ≤ length s → IsStanding s at v used
standing s v at used (spells {t = t} {u = u} bs e le) all_there =
    let from : t ≡ drop at s = tail_is s (short_tail bs) refl in
    let rest : u ≡ drop used s = tail_is s (element_past e).1 from in record {
      levels = 64;
      st = [];
      used = used;
      few = omega arith;
      are_tags = tt;
      is_open = subst (λ l. Open s 64 [] at l) from (none_open bs);
      stands = subst (λ l. Element 64 at l v used (drop used s)) from (subst (λ l. Element 64 at t v used l) rest e);
      ends = omega arith;
      short = le;
      inside = all_there;
    }

-- a fault that isn't before a later place isn't before an earlier one
pub passed_from : (text : List ℕ) (from later : Place) (until : ℕ) (r : Maps) → from.offset ≤ later.offset → ArePassed text later until r → ArePassed text from until r
passed_from text from later until (maps.Sound next) h passed = passed
passed_from text from later until (maps.Bad bad) h passed = omega (arith, h, passed)
