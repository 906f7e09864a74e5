-- Where a string or keyword ends.
use Rattle.std.proofs.Common.{◌≡◌, ◌⊎◌, inl, inr, ℕ, ℤ, suc, ◌+◌, ◌<◌, ◌≤◌, ◌==◌, ◌&&◌, not, Bool, true, false, option_map, if◌then◌else◌, List, [], ◌∷◌, ◌++◌, length, drop, get_or, take, ◌-◌, slice_index, Option, Some, None, IfSome, IfNone, refl, sym, ap, subst, ◌∙◌, arith, eqb-true, length-append, ◌||◌}
use Rattle.lin_bytes.specs.Bytes.{Kind, a_list, a_vector, a_set, a_map, Class, class, white, semicolon, opener, closer, quote, backslash, hash, inside, Behind, behind, opens_set, opens_text, discards as discards_next, joins, stands_apart, names_tag, Quoted, quoted, ends, escapes, stays, is_stop}
use Rattle.lin_edn.specs.Grammar.{One, one, Inside, first, joined, character, next, Text, opened, opened_by_hash, plain, pair, Escape, escape, Element, run, hash_alone, whole_text, tagged_element, collection}
use Rattle.lin_edn.specs.Run.{run_value, of_number, integer, is_keyword, is_plain_numeral, in_range, number_after}
use Rattle.std.specs.Prelude.{codes}
use Rattle.std.specs.Str.{bytes_eq}
use Rattle.std.proofs.lemmas.List.{drop-append-le, drop_all, get_or_append_left, get_or-append-add}
use Rattle.std.proofs.lemmas.Bool.{cases_lt, agree_below_at}
use Rattle.std.specs.List.{slice_range}
use Rattle.lin_edn.specs.Value.{Value, nil, bool, atom, text, keyword, list, vector, set, map, made, values_of, pairs_from, Entries}
use Rattle.lin_bytes.specs.TextEnds.{by_quoted, closing_end, closing_after}
use Rattle.lin_edn.specs.ItemEnds.{IsWord, IsItemEnd}
use Rattle.lin_edn.specs.Scans.{IsStopAt}
use Rattle.lin_bytes.specs.Bytes.{is_inside}
use Rattle.lin_edn.specs.inner.Turns.{behind_of}
use Rattle.lin_edn.specs.declared.reader.Behind.{Behind as CodeBehind}
use Rattle.lin_edn.specs.declared.reader.Behind.TheVariants as code
use Rattle.lin_edn.proofs.Ahead.{at_byte}
use Rattle.lin_edn.proofs.Runs.{range_one}
use Rattle.lin_edn.proofs.Standing.{run_stands, one_element}

abbrev closing_by : Quoted → ℕ → List ℕ → Option ℕ
closing_by k q t = by_quoted k (Some (q + 1)) (closing_end true (q + 1) t) (closing_end false (q + 1) t)

-- a space behind the bytes closes nothing
pub closing_longer : (escaped : Bool) (q : ℕ) (t : List ℕ) → closing_end escaped q (t ++ 32 ∷ []) ≡ closing_end escaped q t
closing_longer true q [] = refl
closing_longer false q [] = refl
closing_longer true q (b ∷ t) = closing_longer false (q + 1) t
closing_longer false q (b ∷ t) = by (quoted b) (closing_longer true (q + 1) t) (closing_longer false (q + 1) t)
  where
    by : (k : Quoted) → closing_end true (q + 1) (t ++ 32 ∷ []) ≡ closing_end true (q + 1) t → closing_end false (q + 1) (t ++ 32 ∷ []) ≡ closing_end false (q + 1) t →
        closing_by k q (t ++ 32 ∷ []) ≡ closing_by k q t
    by ends e f = refl
    by escapes e f = e
    by stays e f = f

mutual
  -- what is found closes the text
  pub text_closed : {n p q : ℕ} {s w : List ℕ} (t : List ℕ) (end : ℕ) → Text p s w q t → closing_end false q t ≡ Some end →
      (v : Value) × (x : List ℕ) × IsWord v × Element n p s v end x
  text_closed [] end i h = cc
  text_closed {n = n} {p = p} {q = q} {s = s} {w = w} (b ∷ t) end i h = by (quoted b) refl h (λ j. escape_closed t end j) (λ j. text_closed t end j)
    where
      by : (k : Quoted) → quoted b ≡ k → closing_by k q t ≡ Some end →
          (Escape p s (w ++ b ∷ []) (q + 1) t → closing_end true (q + 1) t ≡ Some end → (v : Value) × (x : List ℕ) × IsWord v × Element n p s v end x) →
          (Text p s (w ++ b ∷ []) (q + 1) t → closing_end false (q + 1) t ≡ Some end → (v : Value) × (x : List ℕ) × IsWord v × Element n p s v end x) →
          (v : Value) × (x : List ℕ) × IsWord v × Element n p s v end x
      by ends e g escaped more = (text p (w ++ b ∷ []), t, tt, subst (λ r. Element n p s (text p (w ++ b ∷ [])) r t) (same g) (whole_text i e))
        where
          same : Some (q + 1) ≡ Some end → q + 1 ≡ end
          same f = cc
      by escapes e g escaped more = escaped (escape i e) g
      by stays e g escaped more = more (plain i e) g

  escape_closed : {n p q : ℕ} {s w : List ℕ} (t : List ℕ) (end : ℕ) → Escape p s w q t → closing_end true q t ≡ Some end →
      (v : Value) × (x : List ℕ) × IsWord v × Element n p s v end x
  escape_closed [] end i h = cc
  escape_closed (b ∷ t) end i h = text_closed t end (pair i) h

-- where a text closes that begins with these bytes
abbrev hash_by : Behind → ℕ → List ℕ → Option ℕ
hash_by opens_set q t = None
hash_by opens_text q t = closing_end false (q + 1) t
hash_by discards_next q t = None
hash_by joins q t = None
hash_by stands_apart q t = None
hash_by names_tag q t = None

abbrev hash_end : ℕ → List ℕ → Option ℕ
hash_end q [] = None
hash_end q (b ∷ t) = hash_by (behind b) q t

abbrev opened_by : Class → ℕ → List ℕ → Option ℕ
opened_by white p t = None
opened_by semicolon p t = None
opened_by (opener k) p t = None
opened_by closer p t = None
opened_by quote p t = closing_end false (p + 1) t
opened_by backslash p t = None
opened_by hash p t = hash_end (p + 1) t
opened_by inside p t = None

abbrev opened_end : ℕ → List ℕ → Option ℕ
opened_end p [] = None
opened_end p (c ∷ t) = opened_by (class c) p t

hash_opens : {p q b : ℕ} {s t w : List ℕ} → One hash p s w q (b ∷ t) → behind b ≡ opens_text → closing_end false (q + 1) t ≡ opened_end p s
hash_opens {p = p} {b = b} {t = t} (one h) g = sym (ap (λ k. opened_by k p (b ∷ t)) h ∙ ap (λ k. hash_by k (p + 1) t) g)

mutual
  -- what is open closes where the whole does
  text_opened : {p q : ℕ} {s t w : List ℕ} → Text p s w q t → closing_end false q t ≡ opened_end p s
  text_opened {p = p} {t = t} (opened (one h)) = sym (ap (λ k. opened_by k p t) h)
  text_opened (opened_by_hash i h) = hash_opens i h
  text_opened {t = t} (plain {q = q} i h) = sym (ap (λ k. closing_by k q t) h) ∙ text_opened i
  text_opened (pair i) = escape_opened i

  escape_opened : {p q : ℕ} {s t w : List ℕ} → Escape p s w q t → closing_end true q t ≡ opened_end p s
  escape_opened {t = t} (escape {q = q} i h) = sym (ap (λ k. closing_by k q t) h) ∙ text_opened i

-- a run begins with its first byte
inside_begins : {p q : ℕ} {s t w : List ℕ} → Inside p s w q t → (b : ℕ) × (v x : List ℕ) × (w ≡ b ∷ v) × (s ≡ b ∷ x)
inside_begins (first (one {b = b} {s = x} h)) = (b, [], x, refl, refl)
inside_begins (joined {b = c} (one {b = b} {s = x} h) g) = (b, c ∷ [], x, refl, refl)
inside_begins (character {b = c} (one {b = b} {s = x} h)) = (b, c ∷ [], x, refl, refl)
inside_begins (next {b = c} i h) = let (b, v, x, e, f) = inside_begins i in (b, v ++ c ∷ [], x, ap (λ l. l ++ c ∷ []) e, f)

-- a run that spells a word is a keyword
run_word : (p : ℕ) (w : List ℕ) → IsWord (run_value p w) → is_keyword w ≡ true
run_word p w word = by (bytes_eq w (codes "nil")) (bytes_eq w (codes "true")) (bytes_eq w (codes "false")) (integer w) word
  where
    last : (b : Bool) → is_keyword w ≡ b → IsWord (if b then keyword p w else atom p w) → is_keyword w ≡ true
    last true e h = e
    last false e h = absurd h

    by : (a b c : Bool) (z : Option ℤ) → IsWord (if a then nil else (if b then bool true else (if c then bool false else of_number p w z))) → is_keyword w ≡ true
    by true b c z h = absurd h
    by false true c z h = absurd h
    by false false true z h = absurd h
    by false false false (Some i) h = absurd h
    by false false false None h = last (is_keyword w) refl h

colon_of : (b : ℕ) (v : List ℕ) → is_keyword (b ∷ v) ≡ true → b ≡ 58
colon_of b v h = by (b == 58) refl h
  where
    by : (t : Bool) → (b == 58) ≡ t → (t && not (length v == 0)) ≡ true → b ≡ 58
    by true e g = eqb-true b 58 e
    by false e g = cc

-- an element that is a word begins with a colon, or is a text that closes there
pub element_word : {n p q : ℕ} {s t : List ℕ} {v : Value} → Element n p s v q t → IsWord v → ((x : List ℕ) × (s ≡ 58 ∷ x)) ⊎ (opened_end p s ≡ Some q)
element_word {p = p} (run {w = w} i h) word =
    let (b, v, x, e, f) = inside_begins i in
    let is : is_keyword (b ∷ v) ≡ true = subst (λ l. is_keyword l ≡ true) e (run_word p w word) in
    inl (x, f ∙ ap (λ c. c ∷ x) (colon_of b v is))
element_word (hash_alone i h) word = absurd word
element_word (whole_text {q = q} {t = t} i h) word = inr (sym (text_opened i) ∙ ap (λ k. closing_by k q t) h)
element_word (tagged_element i h bs e) word = absurd word
element_word (collection {vs = vs} {v = v} {k = k} o row m) word = absurd (by k m)
  where
    no_word : (u : Value) → Some u ≡ Some v → (IsWord u → ⊥) → ⊥
    no_word u m none = none (subst IsWord (sym (same m)) word)
      where
        same : Some u ≡ Some v → u ≡ v
        same f = cc

    by : (j : Kind) → made j vs ≡ Some v → ⊥
    by a_list m = no_word (list (values_of vs)) m (λ h. h)
    by a_vector m = no_word (vector (values_of vs)) m (λ h. h)
    by a_set m = no_word (set (values_of vs)) m (λ h. h)
    by a_map m = pairs (pairs_from None vs) m
      where
        pairs : (o : Option Entries) → option_map map o ≡ Some v → ⊥
        pairs None m = cc
        pairs (Some es) m = no_word (map es) m (λ h. h)

-- the bytes behind a place, with a space behind them
pub spaced : (s : List ℕ) (at : ℕ) → at ≤ length s → drop at (s ++ 32 ∷ []) ≡ drop at s ++ 32 ∷ []
spaced s at le = drop-append-le at s (32 ∷ []) le

-- a text that opens at a place, told by what its bytes tell
module _ (s : List ℕ) (at from : ℕ) (w : List ℕ) (inside_of : from ≤ length s)
    (begun : Text at (drop at (s ++ 32 ∷ [])) w from (drop from (s ++ 32 ∷ []))) where
  pub text_some : (end : ℕ) → closing_end false from (drop from s) ≡ Some end → IsItemEnd s at end
  text_some end h = text_closed (drop from (s ++ 32 ∷ [])) end begun (ap (closing_end false from) (spaced s from inside_of) ∙ closing_longer false from (drop from s) ∙ h)

  pub text_none : closing_end false from (drop from s) ≡ None → ((x : List ℕ) → drop at (s ++ 32 ∷ []) ≡ 58 ∷ x → ⊥) → (end : ℕ) → IsItemEnd s at end → ⊥
  text_none h no_colon end (v, t, word, e) = elim (element_word e word) [
    | inl colon ↦ no_colon colon.0 colon.1
    | inr closes ↦
        let none : closing_end false from (drop from (s ++ 32 ∷ [])) ≡ None = ap (closing_end false from) (spaced s from inside_of) ∙ closing_longer false from (drop from s) ∙ h in
        let some : closing_end false from (drop from (s ++ 32 ∷ [])) ≡ Some end = text_opened begun ∙ closes in
        cc
  ]

  -- the same of what a search answers
  pub text_found : (r : Option ℕ) → r ≡ closing_end false from (drop from s) → IfSome r (IsItemEnd s at)
  text_found None e = tt
  text_found (Some end) e = text_some end (sym e)

  pub text_missing : ((x : List ℕ) → drop at (s ++ 32 ∷ []) ≡ 58 ∷ x → ⊥) → (r : Option ℕ) → r ≡ closing_end false from (drop from s) → IfNone r ((end : ℕ) → IsItemEnd s at end → ⊥)
  text_missing no_colon None e = text_none (sym e) no_colon
  text_missing no_colon (Some end) e = tt

-- one byte of a text taken, told by what it does
pub closing_next : (s : List ℕ) (at : ℕ) (escaped : Bool) (r : Option Bool) → at < length s →
    ((q : ℕ) (t : List ℕ) → closing_end escaped q (get_or s at 0 ∷ t) ≡ closing_after r q t) →
    closing_end escaped at (drop at s) ≡ closing_after r at (drop (at + 1) s)
closing_next s at escaped r lt h = ap (closing_end escaped at) (at_byte s at lt) ∙ h at (drop (at + 1) s)

-- behind the last byte of the text nothing closes
pub closing_none : (s : List ℕ) (at : ℕ) (escaped : Bool) → length s ≤ at → closing_end escaped at (drop at s) ≡ None
closing_none s at true le = ap (closing_end true at) (drop_all at s le)
closing_none s at false le = ap (closing_end false at) (drop_all at s le)

-- what a byte of a text does that doesn't close it
pub passed_plain : (c : ℕ) (b : Bool) → b ≡ (c == 92) → (c == 34) ≡ false → (q : ℕ) (t : List ℕ) → closing_end false q (c ∷ t) ≡ closing_after (Some b) q t
passed_plain c true e h q t = ap (λ k. closing_by k q t) (ap (λ x. if x then ends else (if c == 92 then escapes else stays)) h ∙ ap (λ x. if x then escapes else stays) (sym e))
passed_plain c false e h q t = ap (λ k. closing_by k q t) (ap (λ x. if x then ends else (if c == 92 then escapes else stays)) h ∙ ap (λ x. if x then escapes else stays) (sym e))

pub passed_quote : (c : ℕ) → (c == 34) ≡ true → (q : ℕ) (t : List ℕ) → closing_end false q (c ∷ t) ≡ closing_after None q t
passed_quote c h q t = ap (λ k. closing_by k q t) (ap (λ x. if x then ends else (if c == 92 then escapes else stays)) h)

abbrev head_of : List ℕ → ℕ
head_of [] = 0
head_of (b ∷ t) = b

-- neither a colon nor a text that closes begins there
pub no_word_at : (s : List ℕ) (at : ℕ) → ((x : List ℕ) → drop at (s ++ 32 ∷ []) ≡ 58 ∷ x → ⊥) → opened_end at (drop at (s ++ 32 ∷ [])) ≡ None → (end : ℕ) → IsItemEnd s at end → ⊥
no_word_at s at no_colon none end (v, t, word, e) = elim (element_word e word) [
  | inl colon ↦ no_colon colon.0 colon.1
  | inr closes ↦ cc
]

-- the byte at a place, with a space behind the text
pub byte_at : (s : List ℕ) (at : ℕ) → at < length s → get_or (s ++ 32 ∷ []) at 0 ≡ get_or s at 0
byte_at s at lt = get_or_append_left s (32 ∷ []) 0 at lt

pub within : (s : List ℕ) (at : ℕ) → at < length s → at < length (s ++ 32 ∷ [])
within s at lt = rw length-append (omega arith)

pub bytes_at : (s : List ℕ) (at : ℕ) → at < length s → drop at (s ++ 32 ∷ []) ≡ get_or s at 0 ∷ drop (at + 1) (s ++ 32 ∷ [])
bytes_at s at lt = at_byte (s ++ 32 ∷ []) at (within s at lt) ∙ ap (λ b. b ∷ drop (at + 1) (s ++ 32 ∷ [])) (byte_at s at lt)

-- a byte that is no colon
pub no_colon_at : (s : List ℕ) (at : ℕ) → at < length s → (get_or s at 0 ≡ 58 → ⊥) → (x : List ℕ) → drop at (s ++ 32 ∷ []) ≡ 58 ∷ x → ⊥
no_colon_at s at lt other x h = other (sym (ap head_of (bytes_at s at lt)) ∙ ap head_of h)

-- behind the text nothing begins
pub past_end : (s : List ℕ) (at : ℕ) → length s ≤ at → (end : ℕ) → IsItemEnd s at end → ⊥
past_end s at le = by (cases_lt (length s) at)
  where
    by : (length s < at) ⊎ (at ≤ length s) → (end : ℕ) → IsItemEnd s at end → ⊥
    by (inl lt) =
        let none : drop at (s ++ 32 ∷ []) ≡ [] = drop_all at (s ++ 32 ∷ []) (rw length-append (omega arith)) in
        no_word_at s at (λ x h. let e : [] ≡ 58 ∷ x = sym none ∙ h in cc) (ap (opened_end at) none)
    by (inr ge) =
        let one_more : drop at (s ++ 32 ∷ []) ≡ 32 ∷ [] = spaced s at ge ∙ ap (λ l. l ++ 32 ∷ []) (drop_all at s le) in
        no_word_at s at (λ x h. let e : 32 ∷ [] ≡ 58 ∷ x = sym one_more ∙ h in apart (ap head_of e)) (ap (opened_end at) one_more)
      where
        apart : ◌≡◌ {A = ℕ} 32 58 → ⊥
        apart f = omega (arith, f)

abbrev is_opening : Class → Bool
is_opening white = false
is_opening semicolon = false
is_opening (opener k) = false
is_opening closer = false
is_opening quote = true
is_opening backslash = false
is_opening hash = true
is_opening inside = false

not_opened : (k : Class) (p : ℕ) (t : List ℕ) → is_opening k ≡ false → opened_by k p t ≡ None
not_opened white p t h = refl
not_opened semicolon p t h = refl
not_opened (opener k) p t h = refl
not_opened closer p t h = refl
not_opened quote p t h = cc
not_opened backslash p t h = refl
not_opened hash p t h = cc
not_opened inside p t h = refl

-- another byte than a colon, a quote and a `#`
pub other_byte : (s : List ℕ) (at : ℕ) → at < length s → get_or s at 0 < 256 → (get_or s at 0 ≡ 58 → ⊥) → (get_or s at 0 ≡ 34 → ⊥) → (get_or s at 0 ≡ 35 → ⊥) →
    (end : ℕ) → IsItemEnd s at end → ⊥
other_byte s at lt small no_colon no_quote no_hash =
    no_word_at s at (no_colon_at s at lt no_colon) (ap (opened_end at) (bytes_at s at lt) ∙ not_opened (class (get_or s at 0)) at (drop (at + 1) (s ++ 32 ∷ [])) closed)
  where
    neither : (x y : Bool) → (get_or s at 0 == 34) ≡ x → (get_or s at 0 == 35) ≡ y → (x || y) ≡ false
    neither true y e f = absurd (no_quote (eqb-true (get_or s at 0) 34 e))
    neither false true e f = absurd (no_hash (eqb-true (get_or s at 0) 35 f))
    neither false false e f = refl

    closed : is_opening (class (get_or s at 0)) ≡ false
    closed = agree_below_at (λ k. is_opening (class k)) (λ k. (k == 34) || (k == 35)) 256 (get_or s at 0) refl small ∙ neither (get_or s at 0 == 34) (get_or s at 0 == 35) refl refl

-- a quote opens a text
pub quote_opens : (s : List ℕ) (at : ℕ) → at < length s → get_or s at 0 ≡ 34 → Text at (drop at (s ++ 32 ∷ [])) (34 ∷ []) (at + 1) (drop (at + 1) (s ++ 32 ∷ []))
quote_opens s at lt h = subst (λ l. Text at l (34 ∷ []) (at + 1) (drop (at + 1) (s ++ 32 ∷ []))) (sym (bytes_at s at lt ∙ ap (λ b. b ∷ drop (at + 1) (s ++ 32 ∷ [])) h)) (opened (one refl))

-- and so does one behind a `#`
pub hash_bytes : (s : List ℕ) (at : ℕ) → at + 1 < length s → get_or s at 0 ≡ 35 → drop at (s ++ 32 ∷ []) ≡ 35 ∷ get_or s (at + 1) 0 ∷ drop (at + 1 + 1) (s ++ 32 ∷ [])
hash_bytes s at lt h = bytes_at s at (omega arith) ∙ ap (λ b. b ∷ drop (at + 1) (s ++ 32 ∷ [])) h ∙ ap (λ l. 35 ∷ l) (bytes_at s (at + 1) lt)

pub hash_quote_opens : (s : List ℕ) (at : ℕ) → at + 1 < length s → get_or s at 0 ≡ 35 → behind (get_or s (at + 1) 0) ≡ opens_text →
    Text at (drop at (s ++ 32 ∷ [])) (35 ∷ get_or s (at + 1) 0 ∷ []) (at + 2) (drop (at + 2) (s ++ 32 ∷ []))
hash_quote_opens s at lt h opens =
    let place : at + 1 + 1 ≡ at + 2 = omega arith in
    subst (λ n. Text at (drop at (s ++ 32 ∷ [])) (35 ∷ get_or s (at + 1) 0 ∷ []) n (drop n (s ++ 32 ∷ []))) place
    (subst (λ l. Text at l (35 ∷ get_or s (at + 1) 0 ∷ []) (at + 1 + 1) (drop (at + 1 + 1) (s ++ 32 ∷ []))) (sym (hash_bytes s at lt h)) (opened_by_hash (one refl) opens))

-- behind a `#` stands no quote
pub hash_alone_at : (s : List ℕ) (at : ℕ) → at < length s → length s ≤ at + 1 → get_or s at 0 ≡ 35 → (end : ℕ) → IsItemEnd s at end → ⊥
hash_alone_at s at lt last h =
    let rest : drop (at + 1) (s ++ 32 ∷ []) ≡ 32 ∷ [] = spaced s (at + 1) (omega arith) ∙ ap (λ l. l ++ 32 ∷ []) (drop_all (at + 1) s last) in
    no_word_at s at (no_colon_at s at lt (λ e. apart (sym h ∙ e))) (ap (opened_end at) (bytes_at s at lt ∙ (λ i. h i ∷ rest i)))
  where
    apart : ◌≡◌ {A = ℕ} 35 58 → ⊥
    apart f = omega (arith, f)

not_text : (r : CodeBehind) → (r ≡ code.Text → ⊥) → (k : Behind) (q : ℕ) (t : List ℕ) → behind_of r ≡ k → hash_by k q t ≡ None
not_text code.Set other k q t e = sym (ap (λ x. hash_by x q t) e)
not_text code.Text other k q t e = absurd (other refl)
not_text code.Discard other k q t e = sym (ap (λ x. hash_by x q t) e)
not_text code.Atom other k q t e = sym (ap (λ x. hash_by x q t) e)
not_text code.Apart other k q t e = sym (ap (λ x. hash_by x q t) e)
not_text code.Tag other k q t e = sym (ap (λ x. hash_by x q t) e)

pub no_hash_quote : (s : List ℕ) (at : ℕ) (r : CodeBehind) → at + 1 < length s → get_or s at 0 ≡ 35 → (r ≡ code.Text → ⊥) → behind_of r ≡ behind (get_or s (at + 1) 0) →
    (end : ℕ) → IsItemEnd s at end → ⊥
no_hash_quote s at r lt h other is =
    no_word_at s at (no_colon_at s at (omega arith) (λ e. apart (sym h ∙ e)))
    (ap (opened_end at) (hash_bytes s at lt h) ∙ not_text r other (behind (get_or s (at + 1) 0)) (at + 1) (drop (at + 1 + 1) (s ++ 32 ∷ [])) is)
  where
    apart : ◌≡◌ {A = ℕ} 35 58 → ⊥
    apart f = omega (arith, f)

-- a run that a space behind the text ends too
stop_longer : (s : List ℕ) (from r : ℕ) → IsStopAt is_stop s from (length s) r → IsStopAt is_stop (s ++ 32 ∷ []) from (length (s ++ 32 ∷ [])) r
stop_longer s from r h =
    let le : r ≤ length s = h.1 in
    (h.0, rw length-append (omega arith), (λ i a b. ap is_stop (byte_at s i (omega arith)) ∙ h.2 i a b), λ before. by (cases_lt r (length s)))
  where
    by : (r < length s) ⊎ (length s ≤ r) → is_stop (get_or (s ++ 32 ∷ []) r 0) ≡ true
    by (inl lt) = ap is_stop (byte_at s r lt) ∙ h.3 lt
    by (inr ge) =
        let le : r ≤ length s = h.1 in
        let here : length s + 0 ≡ r = omega arith in
        ap is_stop (subst (λ n. get_or (s ++ 32 ∷ []) n 0 ≡ 32) here (get_or-append-add s (32 ∷ []) 0 0))

-- the run that a colon begins
pub colon_run : (s : List ℕ) (at r : ℕ) → at < length s → get_or s at 0 ≡ 58 → IsStopAt is_stop s (at + 1) (length s) r →
    Element 64 at (drop at (s ++ 32 ∷ [])) (run_value at (slice_range (s ++ 32 ∷ []) at r)) r (drop r (s ++ 32 ∷ []))
colon_run s at r lt h stops =
    let le : r ≤ length s = stops.1 in
    run_stands (s ++ 32 ∷ []) at r (length (s ++ 32 ∷ [])) (within s at lt) (ap (λ c. is_inside (class c)) (byte_at s at lt ∙ h)) (stop_longer s (at + 1) r stops)
    (omega arith) (rw length-append (omega arith)) 64

-- a colon and one more byte are no integer
colon_integer : (x n : ℕ) (w : List ℕ) (marked negative : Bool) → n ≡ suc (length w) →
    (if is_plain_numeral (if marked then take n (58 ∷ x ∷ w) else 58 ∷ x ∷ w) then in_range negative (number_after 0 (if marked then take n (58 ∷ x ∷ w) else 58 ∷ x ∷ w)) else None) ≡ None
colon_integer x n w false negative e = refl
colon_integer x n w true negative e = ap (λ m. if is_plain_numeral (take m (58 ∷ x ∷ w)) then in_range negative (number_after 0 (take m (58 ∷ x ∷ w))) else None) e

-- they are a keyword
pub colon_word : (p x : ℕ) (w : List ℕ) → IsWord (run_value p (58 ∷ x ∷ w))
colon_word p x w = subst (λ z. IsWord (of_number p (58 ∷ x ∷ w) z)) (sym none) (some (length (x ∷ w) == 0) refl)
  where
    some : (b : Bool) → (length (x ∷ w) == 0) ≡ b → IsWord (if not b then keyword p (58 ∷ x ∷ w) else atom p (58 ∷ x ∷ w))
    some true e = let zero_length : length (x ∷ w) ≡ 0 = eqb-true (length (x ∷ w)) 0 e in absurd (omega arith)
    some false e = tt

    none : integer (58 ∷ x ∷ w) ≡ None
    none = colon_integer x (length (58 ∷ x ∷ w) - 1) w (slice_index (58 ∷ x ∷ w) (length (58 ∷ x ∷ w) - 1) == 78) false (omega arith)

-- the bytes of a run of two or more
two_bytes : (s : List ℕ) (at r : ℕ) → at + 1 < r → r ≤ length s → get_or s at 0 ≡ 58 → (w : List ℕ) × (slice_range s at r ≡ 58 ∷ get_or s (at + 1) 0 ∷ w)
two_bytes s at r lt le h =
    let m = r - (at + 2) in
    let size : r - at ≡ suc (suc m) = omega arith in
    let bytes : drop at s ≡ 58 ∷ get_or s (at + 1) 0 ∷ drop (at + 1 + 1) s = at_byte s at (omega arith) ∙ ap (λ b. b ∷ drop (at + 1) s) h ∙ ap (λ l. 58 ∷ l) (at_byte s (at + 1) (omega arith)) in
    (take m (drop (at + 1 + 1) s), ap (λ k. take k (drop at s)) size ∙ ap (take (suc (suc m))) bytes)

pub colon_some : (s : List ℕ) (at r : ℕ) → at < length s → get_or s at 0 ≡ 58 → IsStopAt is_stop s (at + 1) (length s) r → (r ≡ at + 1 → ⊥) → IsItemEnd s at r
colon_some s at r lt h stops more =
    let from : at + 1 ≤ r = stops.0 in
    let le : r ≤ length s = stops.1 in
    let two = two_bytes (s ++ 32 ∷ []) at r (omega (arith, more)) (rw length-append (omega arith)) (byte_at s at lt ∙ h) in (
      run_value at (slice_range (s ++ 32 ∷ []) at r),
      drop r (s ++ 32 ∷ []),
      subst (λ l. IsWord (run_value at l)) (sym two.1) (colon_word at (get_or (s ++ 32 ∷ []) (at + 1) 0) two.0),
      colon_run s at r lt h stops,
    )

pub colon_none : (s : List ℕ) (at r : ℕ) → at < length s → get_or s at 0 ≡ 58 → IsStopAt is_stop s (at + 1) (length s) r → r ≡ at + 1 → (end : ℕ) → IsItemEnd s at end → ⊥
colon_none s at r lt h stops here end (v, t, word, e) =
    let alone : slice_range (s ++ 32 ∷ []) at r ≡ 58 ∷ [] = ap (slice_range (s ++ 32 ∷ []) at) here ∙ range_one (s ++ 32 ∷ []) at (within s at lt) ∙ ap (λ b. b ∷ []) (byte_at s at lt ∙ h) in
    let is : v ≡ run_value at (slice_range (s ++ 32 ∷ []) at r) = (one_element (omega arith) (omega arith) e (colon_run s at r lt h stops)).0 in
    subst IsWord (is ∙ ap (run_value at) alone) word
