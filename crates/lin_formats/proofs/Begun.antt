-- Where a map begins in front of a text.
use Rattle.std.proofs.Common.{inl, inr, ◌≡◌, ℕ, ◌+◌, ◌<◌, ◌≤◌, Bool, true, false, not, List, ◌∷◌, length, drop, get_or, get_or-drop, add-zero, Option, Some, None, refl, sym, ap, subst, arith, ◌∙◌, true≢false}
use Rattle.std.proofs.lemmas.Bool.{cases_lt}
use Rattle.std.proofs.lemmas.List.{length-drop}
use Rattle.std.specs.Option.{option_map}
use Rattle.lin_bytes.specs.Bytes.{a_list, a_vector, a_set, a_map, Class, class, white, semicolon, opener, closer, quote, backslash, hash, inside, is_white, is_stop, Behind, behind, opens_set, opens_text, discards as discards_next, joins, stands_apart, names_tag}
use Rattle.lin_edn.specs.Grammar.{one, Inside, first, joined, character, next, Tag, first_of_tag, next_of_tag, IsTagAt, Text, Escape, opened, opened_by_hash, plain, pair, escape, Comment, starts, goes, bracket, set_bracket, discards, Blank, white_byte, comment, discarded, Blanks, no_blank, one_more, Element, run, hash_alone, whole_text, tagged_element, collection, ShortBlanks, no_blank_yet, one_more_short, Spells, spells}
use Rattle.lin_edn.specs.Scans.{IsStopAt, is_dark}
use Rattle.lin_edn.specs.Value.{Value, map, Entries, made, pairs_from}
use Rattle.lin_edn.specs.lemmas.Rising.{tail_size, tag_past}
use Rattle.lin_formats.specs.Places.{row_of}
use Rattle.lin_formats.proofs.Tails.{tail_is, short_tail}

-- the first byte, and the next one
abbrev head : List ℕ → Class
head s = class (get_or s 0 0)

abbrev second : List ℕ → Behind
second s = behind (get_or s 1 0)

-- a byte of this class with this behind it is white, or opens a map, or begins a tag
abbrev is_ahead : Class → Behind → Bool
is_ahead white b = true
is_ahead semicolon b = false
is_ahead (opener a_list) b = false
is_ahead (opener a_vector) b = false
is_ahead (opener a_set) b = false
is_ahead (opener a_map) b = true
is_ahead closer b = false
is_ahead quote b = false
is_ahead backslash b = false
is_ahead hash opens_set = false
is_ahead hash opens_text = false
is_ahead hash discards_next = false
is_ahead hash joins = false
is_ahead hash stands_apart = false
is_ahead hash names_tag = true
is_ahead inside b = false

by_class : (c k : Class) (b : Behind) (r : Bool) → c ≡ k → is_ahead k b ≡ r → is_ahead c b ≡ r
by_class c k b r h e = ap (λ l. is_ahead l b) h ∙ e

by_hash : (c : Class) (b d : Behind) (r : Bool) → c ≡ hash → b ≡ d → is_ahead hash d ≡ r → is_ahead c b ≡ r
by_hash c b d r h j e = ap (λ l. is_ahead l b) h ∙ ap (is_ahead hash) j ∙ e

clash : (b : Bool) → b ≡ true → b ≡ false → ⊥
clash b h e = true≢false (sym h ∙ e)

inside_not : {p q : ℕ} {s t w : List ℕ} → Inside p s w q t → is_ahead (head s) (second s) ≡ false
inside_not {s = s} (first (one h)) = by_class (head s) inside (second s) false h refl
inside_not {s = s} (joined (one h) j) = by_hash (head s) (second s) joins false h j refl
inside_not {s = s} (character (one h)) = by_class (head s) backslash (second s) false h refl
inside_not (next i h) = inside_not i

mutual
  text_not : {p q : ℕ} {s t w : List ℕ} → Text p s w q t → is_ahead (head s) (second s) ≡ false
  text_not {s = s} (opened (one h)) = by_class (head s) quote (second s) false h refl
  text_not {s = s} (opened_by_hash (one h) j) = by_hash (head s) (second s) opens_text false h j refl
  text_not (plain i h) = text_not i
  text_not (pair i) = escape_not i

  escape_not : {p q : ℕ} {s t w : List ℕ} → Escape p s w q t → is_ahead (head s) (second s) ≡ false
  escape_not (escape i h) = text_not i

tag_hash : {p q : ℕ} {s t w : List ℕ} → Tag p s w q t → (head s ≡ hash) × (second s ≡ names_tag)
tag_hash (first_of_tag (one h) f) = (h, f)
tag_hash (next_of_tag i h) = tag_hash i

comment_begins : {p q : ℕ} {s t : List ℕ} → Comment p s q t → head s ≡ semicolon
comment_begins (starts (one h)) = h
comment_begins (goes i h) = comment_begins i

-- a blank that begins with a white byte is that byte; none begins with the byte of a map or of a tag
blank_white : {n p q : ℕ} {s t : List ℕ} → Blank n p s q t → head s ≡ white → q ≡ p + 1
blank_white (white_byte (one h)) e = refl
blank_white (comment i h) e = let f = sym (comment_begins i) ∙ e in cc
blank_white (discarded (discards (one h) j bs i)) e = let f = sym h ∙ e in cc

blank_no_map : {n p q : ℕ} {s t : List ℕ} → Blank n p s q t → head s ≡ opener a_map → ⊥
blank_no_map (white_byte (one h)) e = let f = sym h ∙ e in cc
blank_no_map (comment i h) e = let f = sym (comment_begins i) ∙ e in cc
blank_no_map (discarded (discards (one h) j bs i)) e = let f = sym h ∙ e in cc

blank_no_tag : {n p q : ℕ} {s t : List ℕ} → Blank n p s q t → head s ≡ hash → second s ≡ names_tag → ⊥
blank_no_tag (white_byte (one h)) e g = let f = sym h ∙ e in cc
blank_no_tag (comment i h) e g = let f = sym (comment_begins i) ∙ e in cc
blank_no_tag (discarded (discards (one h) j bs i)) e g = let f = sym j ∙ g in cc

no_blanks : {n p q : ℕ} {s t : List ℕ} → Blanks n p s q t → head s ≡ opener a_map → t ≡ s
no_blanks no_blank e = refl
no_blanks (one_more bs b) e = absurd (blank_no_map b (ap head (no_blanks bs e) ∙ e))

-- no element begins with a white byte
element_dark : {n p q : ℕ} {s t : List ℕ} {v : Value} → Element n p s v q t → head s ≡ white → ⊥
element_dark {s = s} (run i h) e = clash _ (by_class (head s) white (second s) true e refl) (inside_not i)
element_dark (hash_alone (one h) j) e = let f = sym h ∙ e in cc
element_dark {s = s} (whole_text i h) e = clash _ (by_class (head s) white (second s) true e refl) (text_not i)
element_dark (tagged_element tg h bs i) e = let f = sym (tag_hash tg).0 ∙ e in cc
element_dark (collection (bracket (one h)) row m) e = let f = sym h ∙ e in cc
element_dark (collection (set_bracket (one h) j) row m) e = let f = sym h ∙ e in cc

of_map : (o : Option Entries) (v : Value) → option_map map o ≡ Some v → row_of v ≡ None
of_map (Some es) v h = let same : v ≡ map es = cc in ap row_of same
of_map None v h = absurd (cc)

-- an element that begins with the byte of a map is no list and no vector
element_map : {n p q : ℕ} {s t : List ℕ} {v : Value} → Element n p s v q t → head s ≡ opener a_map → row_of v ≡ None
element_map {s = s} (run i h) e = absurd (clash _ (by_class (head s) (opener a_map) (second s) true e refl) (inside_not i))
element_map (hash_alone (one h) j) e = absurd (let f = sym h ∙ e in cc)
element_map {s = s} (whole_text i h) e = absurd (clash _ (by_class (head s) (opener a_map) (second s) true e refl) (text_not i))
element_map (tagged_element tg h bs i) e = absurd (let f = sym (tag_hash tg).0 ∙ e in cc)
element_map {v = v} (collection {vs = vs} {k = k} (bracket (one h)) row m) e =
    let f = sym h ∙ e in
    let same : k ≡ a_map = cc in of_map (pairs_from None vs) v (subst (λ j. made j vs ≡ Some v) same m)
element_map (collection (set_bracket (one h) j) row m) e = absurd (let f = sym h ∙ e in cc)

-- nor is one that begins with a tag, behind which that byte stands
element_tagged : {n p q : ℕ} {s t : List ℕ} {v : Value} → Element n p s v q t → head s ≡ hash → second s ≡ names_tag →
    ((w : List ℕ) (r c : ℕ) (u : List ℕ) → Tag p s w r (c ∷ u) → is_stop c ≡ true → class c ≡ opener a_map) → row_of v ≡ None
element_tagged {s = s} (run i h) e g far = absurd (clash _ (by_hash (head s) (second s) names_tag true e g refl) (inside_not i))
element_tagged (hash_alone (one h) j) e g far = absurd (let f = sym j ∙ g in cc)
element_tagged {s = s} (whole_text i h) e g far = absurd (clash _ (by_hash (head s) (second s) names_tag true e g refl) (text_not i))
element_tagged (tagged_element {q = q} {c = c} {t = t} {w = w} tg h bs i) e g far =
    let begins : class c ≡ opener a_map = far w q c t tg h in
    element_map i (ap head (no_blanks bs begins) ∙ begins)
element_tagged (collection (bracket (one h)) row m) e g far = absurd (let f = sym h ∙ e in cc)
element_tagged (collection (set_bracket (one h) j) row m) e g far = absurd (let f = sym j ∙ g in cc)

-- where the bytes up to a place are white, and no blank begins there, short blanks end no later
short_white : {p : ℕ} {t : List ℕ} (s : List ℕ) (at : ℕ) → ((i : ℕ) → i < at → head (drop i s) ≡ white) → ((n p q : ℕ) (t : List ℕ) → Blank n p (drop at s) q t → ⊥) →
    ShortBlanks s p t → p ≤ at
short_white s at whites none no_blank_yet = omega arith
short_white s at whites none (one_more_short {q = q} {r = r} {t = t} {u = u} bs b le) =
    let before : q ≤ at = short_white s at whites none bs in
    let this : Blank 64 q (drop q s) r u = subst (λ l. Blank 64 q l r u) (tail_is s (short_tail bs) refl) b in
    elim (cases_lt q at) [
      | inl less ↦ (let one_byte : r ≡ q + 1 = blank_white this (whites q less) in omega arith)
      | inr more ↦ (let same : q ≡ at = omega arith in absurd (none 64 q r u (subst (λ i. Blank 64 q (drop i s) r u) same this)))
    ]

-- so what is spelled begins there
spelled_there : (s : List ℕ) (at : ℕ) (v : Value) (p used : ℕ) → ((i : ℕ) → i < at → head (drop i s) ≡ white) → ((n p q : ℕ) (t : List ℕ) → Blank n p (drop at s) q t → ⊥) →
    Spells s v p used → (p ≡ at) × (u : List ℕ) × Element 64 at (drop at s) v used u
spelled_there s at v p used whites none (spells {t = t} {u = u} bs e le) =
    let before : p ≤ at = short_white s at whites none bs in
    let this : Element 64 p (drop p s) v used u = subst (λ l. Element 64 p l v used u) (tail_is s (short_tail bs) refl) e in
    elim (cases_lt p at) [
      | inl less ↦ absurd (element_dark this (whites p less))
      | inr more ↦ (let same : p ≡ at = omega arith in (same, u, subst (λ i. Element 64 i (drop i s) v used u) same this))
    ]

lit : (b : Bool) → not b ≡ false → b ≡ true
lit true h = refl
lit false h = absurd (cc)

white_class : (c : ℕ) → is_white c ≡ true → class c ≡ white
white_class c h = rw h refl

opens_map : (c : ℕ) → c ≡ 123 → class c ≡ opener a_map
opens_map c h = rw h refl

first_byte : (s : List ℕ) (from : ℕ) → get_or (drop from s) 0 0 ≡ get_or s from 0
first_byte s from = get_or-drop from s 0 0 ∙ ap (λ i. get_or s i 0) (add-zero from)

all_white : (s : List ℕ) (at end : ℕ) → IsStopAt is_dark s 0 end at → (i : ℕ) → i < at → head (drop i s) ≡ white
all_white s at end h i lt = ap class (first_byte s i) ∙ white_class (get_or s i 0) (lit (is_white (get_or s i 0)) (h.2 i (omega arith) lt))

tagged_in_front : (s : List ℕ) (at begun : ℕ) (v : Value) (p used : ℕ) → IsStopAt is_dark s 0 (length s) at → at < begun → IsTagAt s at begun →
    ((until : ℕ) → IsTagAt s at until → until < length s → begun ≡ until) → begun < length s → get_or s begun 0 ≡ 123 → Spells s v p used → (p ≡ at) × (row_of v ≡ None)
tagged_in_front s at begun v p used h less tag only lt opens spelled =
    let here = tag_hash tag.3 in
    let there = spelled_there s at v p used (all_white s at (length s) h) (λ n i q t b. blank_no_tag b here.0 here.1) spelled in
    let size = length-drop at s in (
      there.0,
      element_tagged there.2 here.0 here.1 (λ w r c u tg stops.
          let rest : c ∷ u ≡ drop r s = tail_is s (tag_past tg).1 refl in
          let sizes : at + length (drop at s) ≡ r + length (c ∷ u) = tail_size (tag_past tg).1 in
          let same : begun ≡ r = only r (w, c, u, tg, stops, sym rest) (omega arith) in
          ap head rest ∙ ap class (first_byte s r) ∙ opens_map (get_or s r 0) (ap (λ i. get_or s i 0) (sym same) ∙ opens)),
    )

-- What is spelled in front of a text begins at the first byte that isn't white, and is no list and no vector, if the byte of a map stands
-- there, or directly behind a tag there.
pub map_in_front : (s : List ℕ) (at begun : ℕ) (v : Value) (p used : ℕ) → IsStopAt is_dark s 0 (length s) at → at ≤ begun → (at < begun → IsTagAt s at begun) →
    ((until : ℕ) → IsTagAt s at until → until < length s → begun ≡ until) → begun < length s → get_or s begun 0 ≡ 123 → Spells s v p used → (p ≡ at) × (row_of v ≡ None)
map_in_front s at begun v p used h le tag only lt opens spelled = elim (cases_lt at begun) [
  | inl less ↦ tagged_in_front s at begun v p used h less (tag less) only lt opens spelled
  | inr more ↦ (
      let same : begun ≡ at = omega arith in
      let here : head (drop at s) ≡ opener a_map = ap class (first_byte s at) ∙ opens_map (get_or s at 0) (ap (λ i. get_or s i 0) (sym same) ∙ opens) in
      let there = spelled_there s at v p used (all_white s at (length s) h) (λ n i q t b. blank_no_map b here) spelled in
      (there.0, element_map there.2 here))
]
