-- Lists and vectors, element by element.
use Rattle.std.proofs.Common.{◌≡◌, ℕ, ℤ, suc, ◌+◌, ◌<◌, ◌≤◌, Bool, true, false, List, [], ◌∷◌, ◌++◌, length, length-append, drop, Option, Some, None, option_map, if◌then◌else◌, codes, refl, sym, ap, subst, arith}
use Rattle.std.proofs.lemmas.Bool.{false≢true}
use Rattle.std.specs.Str.{bytes_eq}
use Rattle.lin_bytes.specs.Bytes.{Kind, a_list, a_vector, a_set, a_map, closing, is_stop}
use Rattle.lin_edn.specs.Grammar.{one, Tag, first_of_tag, next_of_tag, Opens, bracket, set_bracket, Blank, Blanks, no_blank, one_more, Element, run, hash_alone, whole_text, tagged_element, collection, Row, empty, blank, element, frame, tagging, Open, within, awaits, longest}
use Rattle.lin_edn.specs.Run.{run_value, of_number, is_keyword, integer}
use Rattle.lin_edn.specs.Value.{Value, nil, bool, atom, keyword, list, vector, set, map, tagged, Values, values_of, made, Entries, pairs_from}
use Rattle.lin_formats.specs.Places.{row_of, is_row}
use Rattle.lin_formats.specs.inner.Marks.{Follow, no_more, another, StandsAt, IsStanding, IsAmong}
use Rattle.lin_formats.proofs.Tails.{tail_is}
use Rattle.lin_edn.specs.lemmas.Rising.{tail_rises, blanks_tail, element_past, opens_past, tag_past}

-- blanks behind blanks
blanks_join : {n p q r : ℕ} {s t u : List ℕ} → Blanks n p s q t → Blanks n q t r u → Blanks n p s r u
blanks_join bs no_blank = bs
blanks_join bs (one_more cs b) = one_more (blanks_join bs cs) b

follow_blank : {n p q r : ℕ} {s t u : List ℕ} {vs : List Value} → Follow n p s vs q t → Blank n q t r u → Follow n p s vs r u
follow_blank (no_more bs) b = no_more (one_more bs b)
follow_blank (another bs e f) b = another bs e (follow_blank f b)

follow_element : {n p q r : ℕ} {s t u : List ℕ} {vs : List Value} {v : Value} → Follow n p s vs q t → Element n q t v r u → Follow n p s (vs ++ v ∷ []) r u
follow_element (no_more bs) e = another bs e (no_more no_blank)
follow_element (another bs d f) e = another bs d (follow_element f e)

-- the elements of a row, the first one first
pub follow_row : {n p q : ℕ} {s t : List ℕ} {vs : List Value} → Row n p s vs q t → Follow n p s vs q t
follow_row empty = no_more no_blank
follow_row (blank row b) = follow_blank (follow_row row) b
follow_row (element row e) = follow_element (follow_row row) e

pub follow_rises : {n p q : ℕ} {s t : List ℕ} {vs : List Value} → Follow n p s vs q t → p ≤ q
follow_rises (no_more bs) = tail_rises (blanks_tail bs)
follow_rises (another {p = p} {q = q} {r = r} {o = o} bs e f) =
    let a : p ≤ q = tail_rises (blanks_tail bs) in
    let b : q < r = (element_past e).0 in
    let c : r ≤ o = follow_rises f in omega arith

-- what is no list or vector
if_none : (b : Bool) (x y : Value) → row_of x ≡ None → row_of y ≡ None → row_of (if b then x else y) ≡ None
if_none true x y h k = h
if_none false x y h k = k

row_of_number : (p : ℕ) (w : List ℕ) (o : Option ℤ) → row_of (of_number p w o) ≡ None
row_of_number p w (Some z) = refl
row_of_number p w None = if_none (is_keyword w) (keyword p w) (atom p w) refl refl

row_of_run : (p : ℕ) (w : List ℕ) → row_of (run_value p w) ≡ None
row_of_run p w = if_none (bytes_eq w (codes "nil")) nil _ refl (if_none (bytes_eq w (codes "true")) (bool true) _ refl
    (if_none (bytes_eq w (codes "false")) (bool false) _ refl (row_of_number p w (integer w))))

some_differs : (o : Option Values) (vs : Values) → o ≡ None → o ≡ Some vs → ⊥
some_differs o vs h k = cc

same_values : (vs ws : List Value) → values_of vs ≡ values_of ws → vs ≡ ws
same_values [] [] h = refl
same_values [] (w ∷ ws) h = cc
same_values (v ∷ vs) [] h = cc
same_values (v ∷ vs) (w ∷ ws) h =
    let first : v ≡ w = (cc) in
    let others : values_of vs ≡ values_of ws = (cc) in
    let rest : vs ≡ ws = same_values vs ws others in (cc)

the_row : (o : Option Values) (x y : Values) → o ≡ Some x → o ≡ Some y → x ≡ y
the_row o x y h k = cc

the_value : (x y : Value) → Some x ≡ Some y → x ≡ y
the_value x y h = cc

-- what brackets make, without tags in front
abbrev IsMade : Value → Type 0
IsMade (list vs) = Unit {0}
IsMade (vector vs) = Unit {0}
IsMade (set vs) = Unit {0}
IsMade (map es) = Unit {0}
IsMade _ = ⊥

made_of : (o : Option Entries) (v : Value) → option_map map o ≡ Some v → (es : Entries) × (map es ≡ v)
made_of None v h = cc
made_of (Some es) v h = (es, the_value (map es) v h)

is_made : (k : Kind) (vs : List Value) (v : Value) → made k vs ≡ Some v → IsMade v
is_made a_list vs v m = subst IsMade (the_value (list (values_of vs)) v m) tt
is_made a_vector vs v m = subst IsMade (the_value (vector (values_of vs)) v m) tt
is_made a_set vs v m = subst IsMade (the_value (set (values_of vs)) v m) tt
is_made a_map vs v m = let es = made_of (pairs_from None vs) v m in subst IsMade es.1 tt

values_in : (k : Kind) (vs ws : List Value) (v : Value) → made k vs ≡ Some v → row_of v ≡ Some (values_of ws) → (is_row k ≡ true) × (vs ≡ ws)
values_in a_list vs ws v m r = (
  refl,
  same_values vs ws (the_row (row_of v) (values_of vs) (values_of ws) (ap row_of (sym (the_value (list (values_of vs)) v m))) r),
)
values_in a_vector vs ws v m r = (
  refl,
  same_values vs ws (the_row (row_of v) (values_of vs) (values_of ws) (ap row_of (sym (the_value (vector (values_of vs)) v m))) r),
)
values_in a_set vs ws v m r = absurd (some_differs (row_of v) (values_of ws) (ap row_of (sym (the_value (set (values_of vs)) v m))) r)
values_in a_map vs ws v m r = let es = made_of (pairs_from None vs) v m in absurd (some_differs (row_of v) (values_of ws) (ap row_of (sym es.1)) r)

opens_one : {p q : ℕ} {s t : List ℕ} {k : Kind} → is_row k ≡ true → Opens k p s q t → q ≡ p + 1
opens_one h (bracket (one c)) = refl
opens_one h (set_bracket i b) = absurd (false≢true h)

tag_size : {p q : ℕ} {s t w : List ℕ} → Tag p s w q t → q ≡ (p + 1) + length w
tag_size (first_of_tag (one h) b) = omega arith
tag_size (next_of_tag {b = b} {w = w} i h) = let before = tag_size i in let size = length-append w (b ∷ []) in omega arith

-- a tag, blanks and the element behind it
record Behind (n p : ℕ) (s w : List ℕ) (v : Value) (q : ℕ) (t : List ℕ) : Type 0 where
  levels : ℕ
  end : ℕ
  stop : ℕ
  rest : List ℕ
  at : ℕ
  others : List ℕ
  deeper : n ≡ suc levels
  tag : Tag p s w end (stop ∷ rest)
  stops : is_stop stop ≡ true
  blanks : Blanks levels end (stop ∷ rest) at others
  stands : Element levels at others v q t

behind_tag : {n p q i : ℕ} {s t w : List ℕ} {x v : Value} {vs : Values} → Element n p s x q t → x ≡ tagged i w v → row_of x ≡ Some vs → Behind n p s w v q t × (i ≡ p + 1)
behind_tag {vs = vs} (run {p = p} {w = w} h c) e r = absurd (some_differs (row_of (run_value p w)) vs (row_of_run p w) r)
behind_tag (hash_alone h c) e r = cc
behind_tag (whole_text h c) e r = cc
behind_tag {i = i} {s = s} {w = w} {v = v} (tagged_element {n = n} {p = p} {q = q} {r = b} {o = o} {c = c} {t = t} {u = u} {x = x'} {w = name} {v = y} tg h bs el) e r =
    let same : y ≡ v = (cc) in
    let names : name ≡ w = (cc) in
    let place : i ≡ p + 1 = (cc) in (
      record {
        levels = n;
        end = q;
        stop = c;
        rest = t;
        at = b;
        others = u;
        deeper = refl;
        tag = subst (λ l. Tag p s l q (c ∷ t)) names tg;
        stops = h;
        blanks = bs;
        stands = subst (λ z. Element n b u z o x') same el;
      },
      place,
    )
behind_tag {i = i} {w = w} {v = v} (collection {vs = vs} {v = x} {k = k} o row m) e r = absurd (subst IsMade e (is_made k vs x m))

-- a bracket, and what stands up to the closing one
record Opened (n p : ℕ) (s : List ℕ) (vs : List Value) (q : ℕ) (t : List ℕ) : Type 0 where
  levels : ℕ
  kind : Kind
  end : ℕ
  inner : List ℕ
  rest : List ℕ
  deeper : n ≡ suc levels
  row : is_row kind ≡ true
  opens : Opens kind p s (p + 1) inner
  follow : Follow levels (p + 1) inner vs end rest
  ends : end < q

opened : {n p q : ℕ} {s t : List ℕ} {x : Value} {vs : List Value} → Element n p s x q t → ((i : ℕ) (w : List ℕ) (v : Value) → x ≡ tagged i w v → ⊥) → row_of x ≡ Some (values_of vs) → Opened n p s vs q t
opened {vs = vs} (run {p = p} {w = w} h c) none r = absurd (some_differs (row_of (run_value p w)) (values_of vs) (row_of_run p w) r)
opened (hash_alone h c) none r = cc
opened (whole_text h c) none r = cc
opened (tagged_element {p = p} {w = w} {v = v} tg h bs el) none r = absurd (none (p + 1) w v refl)
opened {p = p} {s = s} {vs = ws} (collection {n = n} {q = q} {r = r} {t = t} {u = u} {vs = vs} {v = v} {k = k} o row m) none e =
    let is = values_in k vs ws v m e in
    let here : q ≡ p + 1 = opens_one is.0 o in record {
      levels = n;
      kind = k;
      end = r;
      inner = t;
      rest = closing k ∷ u;
      deeper = refl;
      row = is.0;
      opens = subst (λ b. Opens k p s b t) here o;
      follow = subst (λ b. Follow n b t ws r (closing k ∷ u)) here (subst (λ l. Follow n q t l r (closing k ∷ u)) is.1 (follow_row row));
      ends = omega arith;
    }

-- behind a tag, the element that it stands before
pub standing_behind : (s w : List ℕ) (at i until : ℕ) (v : Value) (vs : Values) → IsStanding s at (tagged i w v) until → row_of v ≡ Some vs →
    (begun : ℕ) × (used : ℕ) × StandsAt s (i + length w) v begun used × IsStanding s begun v until × (i + length w ≤ begun) × (at < begun) × (begun < length s)
standing_behind s w at i until v vs h r =
    let parts : Behind h.levels at (drop at s) w v h.used (drop h.used s) × (i ≡ at + 1) = behind_tag h.stands refl r in
    let b = parts.0 in
    let size : b.end ≡ (at + 1) + length w = tag_size b.tag in
    let end : b.end ≡ i + length w = (let e = parts.1 in omega arith) in
    let behind : b.stop ∷ b.rest ≡ drop b.end s = tail_is s (tag_past b.tag).1 refl in
    let others : b.others ≡ drop b.at s = tail_is s (blanks_tail b.blanks) behind in
    let rises : b.end ≤ b.at = tail_rises (blanks_tail b.blanks) in
    let some : b.at < h.used = (element_past b.stands).0 in
    let d : h.levels ≡ suc b.levels = b.deeper in
    let f : h.levels ≤ 64 = h.few in
    let few : b.levels ≤ 64 = omega arith in
    let ends : h.used ≤ until = h.ends in
    let short : until ≤ at + longest = h.short in
    let inside : until ≤ length s = h.inside in
    let blanks : Blanks b.levels (i + length w) (drop (i + length w) s) b.at (drop b.at s) =
    subst (λ e. Blanks b.levels e (drop e s) b.at (drop b.at s)) end
    (subst (λ l. Blanks b.levels b.end l b.at (drop b.at s)) behind (subst (λ l. Blanks b.levels b.end (b.stop ∷ b.rest) b.at l) others b.blanks)) in
    let stands : Element b.levels b.at (drop b.at s) v h.used (drop h.used s) = subst (λ l. Element b.levels b.at l v h.used (drop h.used s)) others b.stands in
    let is_open : Open s b.levels (tagging at (at + 1) w ∷ h.st) b.at (drop b.at s) =
    subst (λ l. Open s b.levels (tagging at (at + 1) w ∷ h.st) b.at l) others
    (awaits (subst (λ n. Open s n h.st at (drop at s)) b.deeper h.is_open) b.tag b.stops b.blanks) in (
      b.at,
      h.used,
      (b.levels, few, blanks, stands, omega arith),
      record { levels = b.levels; st = tagging at (at + 1) w ∷ h.st; used = h.used; few = few; are_tags = h.are_tags; is_open = is_open; stands = stands; ends = ends; short = omega arith; inside = inside },
      omega arith,
      omega arith,
      omega arith,
    )

-- the elements of a list or vector stand behind its bracket
pub standing_row : (s : List ℕ) (at until : ℕ) (v : Value) (vs : List Value) → IsStanding s at v until → ((i : ℕ) (w : List ℕ) (x : Value) → v ≡ tagged i w x → ⊥) →
    row_of v ≡ Some (values_of vs) → (at < until) × IsAmong s (at + 1) [] vs until
standing_row s at until v vs h none r =
    let o : Opened h.levels at (drop at s) vs h.used (drop h.used s) = opened h.stands none r in
    let behind : o.inner ≡ drop (at + 1) s = tail_is s (opens_past o.opens).1 refl in
    let d : h.levels ≡ suc o.levels = o.deeper in
    let f : h.levels ≤ 64 = h.few in
    let few : o.levels ≤ 64 = omega arith in
    let ends : h.used ≤ until = h.ends in
    let before : o.end < h.used = o.ends in
    let rises : at + 1 ≤ o.end = follow_rises o.follow in
    let short : until ≤ at + longest = h.short in (
      omega arith,
      record {
        levels = o.levels;
        kind = o.kind;
        begun = at;
        st = h.st;
        end = o.end;
        rest = o.rest;
        few = few;
        row = o.row;
        are_tags = h.are_tags;
        is_open = subst (λ l. Open s o.levels (frame o.kind at [] ∷ h.st) (at + 1) l) behind (within (subst (λ n. Open s n h.st at (drop at s)) o.deeper h.is_open) o.opens empty);
        follow = subst (λ l. Follow o.levels (at + 1) l vs o.end o.rest) behind o.follow;
        ends = omega arith;
        short = omega arith;
        inside = h.inside;
      },
    )
