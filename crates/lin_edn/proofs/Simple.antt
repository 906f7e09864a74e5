-- Elements that are found in place: those that are made of simple bytes.
use Rattle.std.proofs.Common.{rules, inl, inr, ◌≡◌, ℕ, suc, ◌+◌, ◌-◌, ◌<◌, ◌≤◌, Bool, true, false, not, ◌==◌, if◌then◌else◌, List, ◌∷◌, drop, get_or, get_or-drop, add-zero, Some, refl, sym, ap, subst, arith, ◌∙◌, true≢false}
use Rattle.std.proofs.lemmas.Bool.{cases_lt}
use Rattle.std.proofs.lemmas.List.{drop-drop}
use Rattle.lin_bytes.specs.Bytes.{Kind, a_list, a_vector, a_map, Class, class, white, semicolon, opener, closer, quote, backslash, hash, inside, is_white, is_stop, closing, Behind, behind, opens_set, opens_text, discards as discards_next, joins, stands_apart, names_tag, quoted, ends}
use Rattle.lin_edn.specs.Grammar.{one, Inside, first, joined, character, next, Tag, first_of_tag, next_of_tag, IsTagAt, Text, Escape, opened, opened_by_hash, plain, pair, escape, Comment, starts, goes, Opens, bracket, set_bracket, discards, Blank, white_byte, comment, discarded, Blanks, Element, run, hash_alone, whole_text, tagged_element, collection, Row}
use Rattle.lin_edn.specs.Scans.{IsStopAt, is_dark, is_quoting}
use Rattle.lin_edn.specs.Simple.{is_simple, is_simple_behind, IsSimple}
use Rattle.lin_edn.specs.inner.Turns.{behind_of}
use Rattle.lin_edn.specs.Value.{Value, made}
use Rattle.lin_edn.specs.declared.reader.Behind.{Behind as CodeBehind}
use Rattle.lin_edn.specs.declared.reader.Behind.TheVariants as code
use Rattle.lin_edn.proofs.Ahead.{stays_of}
use Rattle.lin_edn.specs.lemmas.Rising.{Tail, tail_rises, tag_past, text_past, element_past}
use Rattle.lin_edn.proofs.Sizes.{tail_drop}
use Rattle.lin_edn.proofs.Standing.{hashes}

-- bytes and classes
unlit : (b : Bool) → not b ≡ true → b ≡ false
unlit true h = absurd (true≢false (sym h))
unlit false h = refl

odd_hash : (k : Class) (b : Behind) → k ≡ hash → is_simple_behind b ≡ false → is_simple k b ≡ true → ⊥
odd_hash k b h f e = true≢false (sym e ∙ ap (λ l. is_simple l b) h ∙ f)

odd_byte : (k l : Class) (b : Behind) → k ≡ l → is_simple l b ≡ false → is_simple k b ≡ true → ⊥
odd_byte k l b h f e = true≢false (sym e ∙ ap (λ x. is_simple x b) h ∙ f)

-- a test that a class fails leaves the others
fails : {A : Type 0} (b : Bool) (x y : A) (f : A → Bool) → f x ≡ false → f y ≡ false → f (if b then x else y) ≡ false
fails true x y f h g = h
fails false x y f h g = g

abbrev is_quote : Class → Bool
is_quote white = false
is_quote semicolon = false
is_quote (opener k) = false
is_quote closer = false
is_quote quote = true
is_quote backslash = false
is_quote hash = false
is_quote inside = false

abbrev begins_level : Class → Bool
begins_level white = false
begins_level semicolon = false
begins_level (opener k) = true
begins_level closer = false
begins_level quote = false
begins_level backslash = false
begins_level hash = true
begins_level inside = false

not_quote : (c : ℕ) → (c == 34) ≡ false → is_quote (class c) ≡ false
not_quote c h = rw h
    (fails (is_white c) white _ is_quote refl (fails (c == 40) (opener a_list) _ is_quote refl (fails (c == 41) closer _ is_quote refl
    (fails (c == 91) (opener a_vector) _ is_quote refl (fails (c == 93) closer _ is_quote refl (fails (c == 123) (opener a_map) _ is_quote refl
    (fails (c == 125) closer _ is_quote refl (fails (c == 59) semicolon _ is_quote refl (fails (c == 92) backslash _ is_quote refl
    (fails (c == 35) hash inside is_quote refl refl))))))))))

pub no_level : (c : ℕ) → (c == 40) ≡ false → (c == 91) ≡ false → (c == 123) ≡ false → (c == 35) ≡ false → begins_level (class c) ≡ false
no_level c h i j k = rw (h, i, j, k)
    (fails (is_white c) white _ begins_level refl (fails (c == 41) closer _ begins_level refl (fails (c == 93) closer _ begins_level refl
    (fails (c == 125) closer _ begins_level refl (fails (c == 34) quote _ begins_level refl (fails (c == 59) semicolon _ begins_level refl
    (fails (c == 92) backslash inside begins_level refl refl)))))))

pub no_number : (a b : ℕ) → (a ≡ b → ⊥) → (a == b) ≡ false
no_number a b other = search rules

pub text_begins : (c : ℕ) → (c ≡ 34 → ⊥) → class c ≡ quote → ⊥
text_begins c other h = true≢false (sym (ap is_quote h) ∙ not_quote c (no_number c 34 other))

abbrev is_hash : Class → Bool
is_hash white = false
is_hash semicolon = false
is_hash (opener k) = false
is_hash closer = false
is_hash quote = false
is_hash backslash = false
is_hash hash = true
is_hash inside = false

not_hash : (c : ℕ) → (c == 35) ≡ false → is_hash (class c) ≡ false
not_hash c h = rw h
    (fails (is_white c) white _ is_hash refl (fails (c == 40) (opener a_list) _ is_hash refl (fails (c == 41) closer _ is_hash refl
    (fails (c == 91) (opener a_vector) _ is_hash refl (fails (c == 93) closer _ is_hash refl (fails (c == 123) (opener a_map) _ is_hash refl
    (fails (c == 125) closer _ is_hash refl (fails (c == 34) quote _ is_hash refl (fails (c == 59) semicolon _ is_hash refl
    (fails (c == 92) backslash inside is_hash refl refl))))))))))

pub hash_begins : (c : ℕ) → (c ≡ 35 → ⊥) → class c ≡ hash → ⊥
hash_begins c other h = true≢false (sym (ap is_hash h) ∙ not_hash c (no_number c 35 other))

abbrev is_white_class : Class → Bool
is_white_class white = true
is_white_class semicolon = false
is_white_class (opener k) = false
is_white_class closer = false
is_white_class quote = false
is_white_class backslash = false
is_white_class hash = false
is_white_class inside = false

not_white : (c : ℕ) → is_white c ≡ false → is_white_class (class c) ≡ false
not_white c h = rw h
    (fails (c == 40) (opener a_list) _ is_white_class refl (fails (c == 41) closer _ is_white_class refl
    (fails (c == 91) (opener a_vector) _ is_white_class refl (fails (c == 93) closer _ is_white_class refl (fails (c == 123) (opener a_map) _ is_white_class refl
    (fails (c == 125) closer _ is_white_class refl (fails (c == 34) quote _ is_white_class refl (fails (c == 59) semicolon _ is_white_class refl
    (fails (c == 92) backslash _ is_white_class refl (fails (c == 35) hash inside is_white_class refl refl))))))))))

pub dark_class : (c : ℕ) → is_dark c ≡ true → class c ≡ white → ⊥
dark_class c h e = true≢false (sym (ap is_white_class e) ∙ not_white c (unlit (is_white c) h))

abbrev is_set_behind : Behind → Bool
is_set_behind opens_set = true
is_set_behind opens_text = false
is_set_behind discards_next = false
is_set_behind joins = false
is_set_behind stands_apart = false
is_set_behind names_tag = false

not_set : (c : ℕ) → (c == 123) ≡ false → is_set_behind (behind c) ≡ false
not_set c h = rw h
    (fails (c == 34) opens_text _ is_set_behind refl (fails (c == 95) discards_next _ is_set_behind refl (fails (c == 35) joins _ is_set_behind refl
    (fails (c == 39) joins _ is_set_behind refl (fails _ stands_apart names_tag is_set_behind refl refl)))))

pub set_begins : (c : ℕ) → (c ≡ 123 → ⊥) → behind c ≡ opens_set → ⊥
set_begins c other h = true≢false (sym (ap is_set_behind h) ∙ not_set c (no_number c 123 other))

-- what runs, tags, texts, comments and collections begin with
abbrev pub IsSimpleHead : List ℕ → Type 0
IsSimpleHead s = is_simple (class (get_or s 0 0)) (behind (get_or s 1 0)) ≡ true

abbrev pub head : List ℕ → Class
head s = class (get_or s 0 0)

inside_simple : {p q : ℕ} {s t w : List ℕ} → Inside p s w q t → IsSimpleHead s → head s ≡ inside
inside_simple (first (one h)) e = h
inside_simple (joined {b = b} (one {b = c} h) j) e = absurd (odd_hash (class c) (behind b) h (ap is_simple_behind j) e)
inside_simple (character {b = b} (one {b = c} h)) e = absurd (odd_byte (class c) backslash (behind b) h refl e)
inside_simple (next i h) e = inside_simple i e

inside_dark : {p q : ℕ} {s t w : List ℕ} → Inside p s w q t → head s ≡ white → ⊥
inside_dark (first (one h)) e = let f = sym h ∙ e in cc
inside_dark (joined (one h) j) e = let f = sym h ∙ e in cc
inside_dark (character (one h)) e = let f = sym h ∙ e in cc
inside_dark (next i h) e = inside_dark i e

pub tag_hash : {p q : ℕ} {s t w : List ℕ} → Tag p s w q t → head s ≡ hash
tag_hash (first_of_tag (one h) f) = h
tag_hash (next_of_tag i h) = tag_hash i

pub tag_names : {p q : ℕ} {s t w : List ℕ} → Tag p s w q t → behind (get_or s 1 0) ≡ names_tag
tag_names (first_of_tag (one h) f) = f
tag_names (next_of_tag i h) = tag_names i

mutual
  text_simple : {p q : ℕ} {s t w : List ℕ} → Text p s w q t → IsSimpleHead s → head s ≡ quote
  text_simple (opened (one h)) e = h
  text_simple (opened_by_hash {b = b} (one {b = c} h) j) e = absurd (odd_hash (class c) (behind b) h (ap is_simple_behind j) e)
  text_simple (plain i h) e = text_simple i e
  text_simple (pair i) e = escape_simple i e

  escape_simple : {p q : ℕ} {s t w : List ℕ} → Escape p s w q t → IsSimpleHead s → head s ≡ quote
  escape_simple (escape i h) e = text_simple i e

mutual
  text_dark : {p q : ℕ} {s t w : List ℕ} → Text p s w q t → head s ≡ white → ⊥
  text_dark (opened (one h)) e = let f = sym h ∙ e in cc
  text_dark (opened_by_hash (one h) j) e = let f = sym h ∙ e in cc
  text_dark (plain i h) e = text_dark i e
  text_dark (pair i) e = escape_dark i e

  escape_dark : {p q : ℕ} {s t w : List ℕ} → Escape p s w q t → head s ≡ white → ⊥
  escape_dark (escape i h) e = text_dark i e

mutual
  text_no_run : {p q : ℕ} {s t w : List ℕ} → Text p s w q t → head s ≡ inside → ⊥
  text_no_run (opened (one h)) e = let f = sym h ∙ e in cc
  text_no_run (opened_by_hash (one h) j) e = let f = sym h ∙ e in cc
  text_no_run (plain i h) e = text_no_run i e
  text_no_run (pair i) e = escape_no_run i e

  escape_no_run : {p q : ℕ} {s t w : List ℕ} → Escape p s w q t → head s ≡ inside → ⊥
  escape_no_run (escape i h) e = text_no_run i e

comment_begins : {p q : ℕ} {s t : List ℕ} → Comment p s q t → head s ≡ semicolon
comment_begins (starts (one h)) = h
comment_begins (goes i h) = comment_begins i

opens_dark : {p q : ℕ} {s t : List ℕ} {k : Kind} → Opens k p s q t → head s ≡ white → ⊥
opens_dark (bracket (one h)) e = let f = sym h ∙ e in cc
opens_dark (set_bracket (one h) j) e = let f = sym h ∙ e in cc

pub element_dark : {n p q : ℕ} {s t : List ℕ} {v : Value} → Element n p s v q t → head s ≡ white → ⊥
element_dark (run i h) e = inside_dark i e
element_dark (hash_alone (one h) j) e = let f = sym h ∙ e in cc
element_dark (whole_text i h) e = text_dark i e
element_dark (tagged_element tg h bs i) e = let f = sym (tag_hash tg) ∙ e in cc
element_dark (collection i row m) e = opens_dark i e

-- a blank of simple bytes is a white byte, and so is one that begins with such a byte
pub simple_blank : {n p q : ℕ} {s t : List ℕ} → Blank n p s q t → IsSimpleHead s → head s ≡ white
simple_blank (white_byte (one h)) e = h
simple_blank {s = s} (comment i h) e = absurd (odd_byte (head s) semicolon (behind (get_or s 1 0)) (comment_begins i) refl e)
simple_blank (discarded (discards {b = b} (one {b = c} h) j bs i)) e = absurd (odd_hash (class c) (behind b) h (ap is_simple_behind j) e)

pub one_white : {n p q : ℕ} {s t : List ℕ} → Blank n p s q t → head s ≡ white → (q ≡ p + 1) × (t ≡ drop 1 s)
one_white (white_byte (one h)) e = (refl, refl)
one_white (comment i h) e = let f = sym (comment_begins i) ∙ e in cc
one_white (discarded (discards (one h) j bs i)) e = let f = sym h ∙ e in cc

-- a `#` opens a set alone
opens_hash : {p q : ℕ} {s t : List ℕ} {k : Kind} → Opens k p s q t → head s ≡ hash → (q ≡ p + 2) × (behind (get_or s 1 0) ≡ opens_set)
opens_hash (bracket (one h)) e = let f = sym h ∙ e in absurd (cc)
opens_hash (set_bracket {q = q} (one {p = p} h) f) e = (omega arith, f)

opens_level : {p q : ℕ} {s t : List ℕ} {k : Kind} → Opens k p s q t → begins_level (head s) ≡ true
opens_level (bracket (one h)) = ap begins_level h
opens_level (set_bracket (one h) f) = ap begins_level h

-- what opens a collection is known
pub opens_one : {p q r : ℕ} {s t u : List ℕ} {k j : Kind} → Opens k p s q t → Opens j p s r u → (k ≡ j) × (q ≡ r) × (t ≡ u)
opens_one {k = k} {j = j} (bracket (one h)) (bracket (one g)) = (let e : opener k ≡ opener j = sym h ∙ g in cc, refl, refl)
opens_one (bracket (one h)) (set_bracket (one g) f) = let e = sym h ∙ g in cc
opens_one (set_bracket (one h) f) (bracket (one g)) = let e = sym h ∙ g in cc
opens_one (set_bracket (one h) f) (set_bracket (one g) e) = (refl, refl, refl)

-- the sorts of elements of simple bytes
pub data Sort : ℕ → ℕ → List ℕ → Value → ℕ → List ℕ → Type 0 where
  a_run : {n p q : ℕ} {s t : List ℕ} {v : Value} → head s ≡ inside → Sort n p s v q t
  a_text : {n p q c : ℕ} {s t w : List ℕ} {v : Value} → head s ≡ quote → Text p s w q (c ∷ t) → quoted c ≡ ends → Sort n p s v (q + 1) t
  a_tag : {n p q r o c : ℕ} {s t u x w : List ℕ} {v y : Value} → Tag p s w q (c ∷ t) → is_stop c ≡ true → Blanks n q (c ∷ t) r u → Element n r u v o x →
      Sort (suc n) p s y o x
  a_collection : {n p q r : ℕ} {s t u : List ℕ} {vs : List Value} {v : Value} {k : Kind} → Opens k p s q t → Row n q t vs r (closing k ∷ u) → made k vs ≡ Some v →
      Sort (suc n) p s v (r + 1) u

pub sort_of : {n p q : ℕ} {s t : List ℕ} {v : Value} → Element n p s v q t → IsSimpleHead s → Sort n p s v q t
sort_of (run i h) e = a_run (inside_simple i e)
sort_of (hash_alone {c = c} (one {b = b} h) j) e = absurd (odd_hash (class b) (behind c) h (ap is_simple_behind j) e)
sort_of (whole_text i h) e = a_text (text_simple i e) i h
sort_of (tagged_element tg h bs i) e = a_tag tg h bs i
sort_of (collection i row m) e = a_collection i row m

row_as : {n o q r : ℕ} {t u x : List ℕ} {vs : List Value} {k j : Kind} → k ≡ j → q ≡ r → t ≡ u → Row n q t vs o (closing k ∷ x) → Row n r u vs o (closing j ∷ x)
row_as {n = n} {o = o} {r = r} {t = t} {u = u} {x = x} {vs = vs} {k = k} a b d row =
    subst (λ j. Row n r u vs o (closing j ∷ x)) a (subst (λ l. Row n r l vs o (closing k ∷ x)) d (subst (λ i. Row n i t vs o (closing k ∷ x)) b row))

pub only_collection : {n p q r : ℕ} {s t u : List ℕ} {v : Value} {k : Kind} → Sort (suc n) p s v q t → Opens k p s r u →
    (vs : List Value) × (o : ℕ) × Row n r u vs o (closing k ∷ t) × (q ≡ o + 1) × (made k vs ≡ Some v)
only_collection (a_run h) (bracket (one g)) = let e = sym h ∙ g in absurd (cc)
only_collection (a_run h) (set_bracket (one g) f) = let e = sym h ∙ g in absurd (cc)
only_collection (a_text h i j) (bracket (one g)) = let e = sym h ∙ g in absurd (cc)
only_collection (a_text h i j) (set_bracket (one g) f) = let e = sym h ∙ g in absurd (cc)
only_collection (a_tag tg h bs i) (bracket (one g)) = let e = sym (tag_hash tg) ∙ g in absurd (cc)
only_collection (a_tag tg h bs i) (set_bracket (one g) f) = let e = sym (tag_names tg) ∙ f in absurd (cc)
only_collection {v = v} (a_collection {r = o} {vs = vs} i row m) j =
    let same = opens_one i j in (vs, o, row_as same.0 same.1 same.2 row, refl, subst (λ k. made k vs ≡ Some v) same.0 m)

-- the first byte and the next one
pub first_byte : (s : List ℕ) (from : ℕ) → get_or (drop from s) 0 0 ≡ get_or s from 0
first_byte s from = get_or-drop from s 0 0 ∙ ap (λ i. get_or s i 0) (add-zero from)

pub simple_at : (s : List ℕ) (from until at : ℕ) → IsSimple s from until → from ≤ at → at < until → IsSimpleHead (drop at s)
simple_at s from until at h le lt = rw (first_byte s at, get_or-drop at s 1 0) (h at le lt)

-- where it ends, the bytes go on
pub tail_at : (s : List ℕ) {p q : ℕ} {t : List ℕ} → Tail p (drop p s) q t → t ≡ drop q s
tail_at s {p = p} {q = q} h = let le : p ≤ q = tail_rises h in tail_drop h ∙ drop-drop (q - p) p s ∙ ap (λ n. drop n s) (omega arith)

-- a run ends before a byte that stops it
run_stops : {n p q : ℕ} {s t : List ℕ} {v : Value} → Element n p s v q t → head s ≡ inside → is_stop (get_or t 0 0) ≡ true
run_stops (run i h) e = h
run_stops (hash_alone (one h) j) e = let f = sym h ∙ e in absurd (cc)
run_stops (whole_text i h) e = absurd (text_no_run i e)
run_stops (tagged_element tg h bs i) e = let f = sym (tag_hash tg) ∙ e in absurd (cc)
run_stops (collection (bracket (one h)) row m) e = let f = sym h ∙ e in absurd (cc)
run_stops (collection (set_bracket (one h) j) row m) e = let f = sym h ∙ e in absurd (cc)

pub run_found : (s : List ℕ) (from until end n used : ℕ) (v : Value) → IsStopAt is_stop s (from + 1) end until → until ≡ end →
    Element n from (drop from s) v used (drop used s) → class (get_or s from 0) ≡ inside → used < end → ⊥
run_found s from until end n used v h whole e begins lt =
    let past : from < used = (element_past e).0 in
    let stop : is_stop (get_or s used 0) ≡ true = ap is_stop (sym (first_byte s used)) ∙ run_stops e (ap class (first_byte s from) ∙ begins) in
    true≢false (sym stop ∙ h.2 used (omega arith) (omega arith))

-- a byte behind a row of bytes
byte_behind : (s : List ℕ) {p q c : ℕ} {t : List ℕ} → Tail p (drop p s) q (c ∷ t) → c ≡ get_or s q 0
byte_behind s {q = q} h = ap (λ l. get_or l 0 0) (tail_at s h) ∙ first_byte s q

-- a text without backslash ends in its first quote
abbrev HasQuote : List ℕ → ℕ → ℕ → Type 0
HasQuote s from used = (o : ℕ) × (used ≡ o + 1) × (from < o) × (quoted (get_or s o 0) ≡ ends)

text_closes : (s : List ℕ) {n from used : ℕ} {l t : List ℕ} {v : Value} → l ≡ drop from s → Sort n from l v used t → head l ≡ quote → HasQuote s from used
text_closes s same (a_run h) e = let f = sym h ∙ e in absurd (cc)
text_closes s same (a_text {p = p} {q = o} {c = c} {t = t} {w = w} h i f) e =
    (o, refl, (text_past i).0, subst (λ b. quoted b ≡ ends) (byte_behind s (text_past (subst (λ l. Text p l w o (c ∷ t)) same i)).1) f)
text_closes s same (a_tag tg h bs i) e = let f = sym (tag_hash tg) ∙ e in absurd (cc)
text_closes s same (a_collection (bracket (one h)) row m) e = let f = sym h ∙ e in absurd (cc)
text_closes s same (a_collection (set_bracket (one h) j) row m) e = let f = sym h ∙ e in absurd (cc)

quoted_as : (c : ℕ) → is_quoting c ≡ false → quoted c ≡ ends → ⊥
quoted_as c h e = let f = sym (stays_of c h) ∙ e in cc

text_in : (s : List ℕ) (from until end n used : ℕ) (v : Value) → Element n from (drop from s) v used (drop used s) → IsSimple s from used → class (get_or s from 0) ≡ quote → HasQuote s from used
text_in s from until end n used v e simple begins =
    text_closes s refl (sort_of e (simple_at s from used from simple (omega arith) (element_past e).0)) (ap class (first_byte s from) ∙ begins)

pub text_found : (s : List ℕ) (from until end n used : ℕ) (v : Value) → IsStopAt is_quoting s (from + 1) end until → until ≡ end →
    Element n from (drop from s) v used (drop used s) → IsSimple s from used → class (get_or s from 0) ≡ quote → used < end → ⊥
text_found s from until end n used v h whole e simple begins lt =
    let q = text_in s from until end n used v e simple begins in
    let a : used ≡ q.0 + 1 = q.1 in
    let b : from < q.0 = q.2 in
    quoted_as (get_or s q.0 0) (h.2 q.0 (omega arith) (omega arith)) q.3

escaping : (c : ℕ) → is_quoting c ≡ true → (c ≡ 34 → ⊥) → c ≡ 92
escaping c h other = search rules

pub text_unescaped : (s : List ℕ) (from until end n used : ℕ) (v : Value) → IsStopAt is_quoting s (from + 1) end until → until < end → (get_or s until 0 ≡ 34 → ⊥) →
    Element n from (drop from s) v used (drop used s) → IsSimple s from used → class (get_or s from 0) ≡ quote → used < end → ⊥
text_unescaped s from until end n used v h before other e simple begins lt =
    let q = text_in s from until end n used v e simple begins in
    let a : used ≡ q.0 + 1 = q.1 in
    let b : from < q.0 = q.2 in
    let d : from + 1 ≤ until = h.0 in
    elim (cases_lt q.0 until) [
      | inl lt ↦ quoted_as (get_or s q.0 0) (h.2 q.0 (omega arith) lt) q.3
      | inr le ↦ odd_byte (class (get_or s until 0)) backslash (behind (get_or s (until + 1) 0)) (ap class (escaping (get_or s until 0) (h.3 before) other)) refl
          (simple until (omega arith) (omega arith))
    ]

-- a tag ends in its first stop byte
tag_two : {p q : ℕ} {s t w : List ℕ} → Tag p s w q t → p + 2 ≤ q
tag_two (first_of_tag {p = p} (one h) f) = omega arith
tag_two (next_of_tag {p = p} {q = q} i h) = let a : p + 2 ≤ q = tag_two i in omega arith

tag_bytes : (s : List ℕ) {p q : ℕ} {l t w : List ℕ} → l ≡ drop p s → Tag p l w q t → (i : ℕ) → p + 2 ≤ i → i < q → is_stop (get_or s i 0) ≡ false
tag_bytes s same (first_of_tag {p = p} (one h) f) i le lt = absurd (omega arith)
tag_bytes s same (next_of_tag {p = p} {q = o} {b = b} {t = t} {w = w} tg h) i le lt = elim (cases_lt i o) [
  | inl earlier ↦ tag_bytes s same tg i le earlier
  | inr later ↦ (let here : o ≡ i = omega arith in
      subst (λ c. is_stop c ≡ false) (byte_behind s (tag_past (subst (λ l. Tag p l w o (b ∷ t)) same tg)).1 ∙ ap (λ j. get_or s j 0) here) h)
]

pub tag_ends : (s : List ℕ) (from code end until : ℕ) → IsStopAt is_stop s (from + 2) end code → IsTagAt s from until → until < end → code ≡ until
tag_ends s from code end until h tag lt =
    let two : from + 2 ≤ until = tag_two tag.3 in
    let stop : is_stop (get_or s until 0) ≡ true = ap is_stop (sym (ap (λ l. get_or l 0 0) (sym tag.5) ∙ first_byte s until)) ∙ tag.4 in
    elim (cases_lt code until) [
      | inl less ↦ absurd (true≢false (sym (h.3 (omega arith)) ∙ tag_bytes s refl tag.3 code h.0 less))
      | inr le ↦ elim (cases_lt until code) [
        | inl less ↦ absurd (true≢false (sym stop ∙ h.2 until two less))
        | inr more ↦ omega arith
      ]
    ]

pub tag_room : (s : List ℕ) (from until : ℕ) → IsTagAt s from until → from + 2 ≤ until
tag_room s from until tag = tag_two tag.3

pub tag_begins : (s : List ℕ) (from until : ℕ) → IsTagAt s from until → class (get_or s from 0) ≡ hash
tag_begins s from until tag = ap class (sym (first_byte s from)) ∙ tag_hash tag.3

pub tag_named : (s : List ℕ) (from until : ℕ) → IsTagAt s from until → behind (get_or s (from + 1) 0) ≡ names_tag
tag_named s from until tag = ap behind (sym (get_or-drop from s 1 0)) ∙ tag_names tag.3

pub only_tag : (b : CodeBehind) → behind_of b ≡ names_tag → b ≡ code.Tag
only_tag code.Set h = cc
only_tag code.Text h = cc
only_tag code.Discard h = cc
only_tag code.Atom h = cc
only_tag code.Apart h = cc
only_tag code.Tag h = refl

pub set_only : (s : List ℕ) (from inner : ℕ) (t : List ℕ) (k : Kind) → get_or s from 0 ≡ 35 → Opens k from (drop from s) inner t →
    (inner ≡ from + 2) × (behind (get_or s (from + 1) 0) ≡ opens_set)
set_only s from inner t k byte i =
    let h = opens_hash i (ap class (first_byte s from) ∙ hashes (get_or s from 0) byte) in (h.0, ap behind (sym (get_or-drop from s 1 0)) ∙ h.1)

pub none_opens : (s : List ℕ) (from inner : ℕ) (t : List ℕ) (k : Kind) → (get_or s from 0 ≡ 40 → ⊥) → (get_or s from 0 ≡ 91 → ⊥) → (get_or s from 0 ≡ 123 → ⊥) →
    (get_or s from 0 ≡ 35 → ⊥) → Opens k from (drop from s) inner t → ⊥
none_opens s from inner t k a b d e i =
    let c = get_or s from 0 in
    true≢false (sym (ap (λ x. begins_level (class x)) (sym (first_byte s from)) ∙ opens_level i) ∙ no_level c (no_number c 40 a) (no_number c 91 b) (no_number c 123 d) (no_number c 35 e))

-- a tag is no set
pub tag_opens_none : (s : List ℕ) (from until inner : ℕ) (t : List ℕ) (k : Kind) → IsTagAt s from until → Opens k from (drop from s) inner t → ⊥
tag_opens_none s from until inner t k tag i =
    let h = opens_hash i (ap class (first_byte s from) ∙ tag_begins s from until tag) in
    let e = sym h.1 ∙ tag_names tag.3 in cc
