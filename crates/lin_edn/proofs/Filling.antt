-- Collections of simple bytes, whose elements are found one by one.
use Rattle.std.proofs.Common.{inl, inr, ◌≡◌, ℕ, suc, ◌+◌, ◌<◌, ◌≤◌, Bool, true, false, ◌==◌, List, [], ◌∷◌, ◌++◌, drop, get_or, append-nil, append_assoc, refl, sym, ap, subst, arith, rules, tests, ◌∙◌, true≢false}
use Rattle.std.proofs.lemmas.Bool.{cases_lt}
use Rattle.std.proofs.lemmas.List.{drop-drop}
use Rattle.std.specs.Option.{is_some}
use Rattle.lin_bytes.specs.Bytes.{Kind, a_list, a_vector, a_set, a_map, class, white, closer, quote, inside, is_white, closing}
use Rattle.lin_edn.specs.Grammar.{one, Tag, IsTagAt, Opens, bracket, set_bracket, Blank, Blanks, no_blank, one_more, Element, Row, empty, blank, element}
use Rattle.lin_edn.specs.Scans.{IsStopAt, is_dark}
use Rattle.lin_edn.specs.Simple.{IsSimple, FindsSimple}
use Rattle.lin_edn.specs.Skimming.{brackets}
use Rattle.lin_edn.specs.inner.Skimming.{closes}
use Rattle.lin_edn.specs.Value.{Value, made}
use Rattle.lin_edn.proofs.Ahead.{along_to, lit, white_class}
use Rattle.lin_edn.specs.lemmas.Rising.{tail_rises, blank_past, blanks_tail, element_past, tag_past}
use Rattle.lin_edn.proofs.Simple.{dark_class, IsSimpleHead, head, simple_at, simple_blank, one_white, element_dark, first_byte, tail_at, Sort, a_run, a_text, a_tag, a_collection, sort_of, only_collection, opens_one, tag_hash, tag_names}
use Rattle.lin_edn.proofs.Standing.{one_element}

-- blanks and elements, the first of them first
pub data Things : ℕ → ℕ → List ℕ → List Value → ℕ → List ℕ → Type 0 where
  nothing : {n p : ℕ} {s : List ℕ} → Things n p s [] p s
  blank_first : {n p q r : ℕ} {s t u : List ℕ} {vs : List Value} → Blank n p s q t → Things n q t vs r u → Things n p s vs r u
  element_first : {n p q r : ℕ} {s t u : List ℕ} {v : Value} {vs : List Value} → Element n p s v q t → Things n q t vs r u → Things n p s (v ∷ vs) r u

turned : {n p q r : ℕ} {s t u : List ℕ} {vs ws : List Value} → Row n p s vs q t → Things n q t ws r u → Things n p s (vs ++ ws) r u
turned empty h = h
turned (blank row b) h = turned row (blank_first b h)
turned {n = n} {p = p} {r = r} {s = s} {u = u} {ws = ws} (element {vs = vs} {v = v} row e) h =
    subst (λ l. Things n p s l r u) (sym (append_assoc vs (v ∷ []) ws)) (turned row (element_first e h))

things_rise : {n p r : ℕ} {s u : List ℕ} {vs : List Value} → Things n p s vs r u → p ≤ r
things_rise (nothing {p = p}) = omega arith
things_rise (blank_first {p = p} {q = q} {r = r} b h) = let a : p < q = (blank_past b).0 in let d : q ≤ r = things_rise h in omega arith
things_rise (element_first {p = p} {q = q} {r = r} e h) = let a : p < q = (element_past e).0 in let d : q ≤ r = things_rise h in omega arith

-- what comes first where no blank does
pub data First : ℕ → ℕ → List ℕ → List Value → ℕ → List ℕ → Type 0 where
  none_left : {n p r : ℕ} {s u : List ℕ} {vs : List Value} → p ≡ r → s ≡ u → vs ≡ [] → First n p s vs r u
  one_left : {n p q r : ℕ} {s t u : List ℕ} {v : Value} {vs ws : List Value} → Element n p s v q t → Things n q t ws r u → vs ≡ v ∷ ws → First n p s vs r u

first_of : {n p r : ℕ} {s u : List ℕ} {vs : List Value} → Things n p s vs r u → (p < r → IsSimpleHead s) → (head s ≡ white → ⊥) → First n p s vs r u
first_of nothing simple dark = none_left refl refl refl
first_of (blank_first {p = p} {q = q} {r = r} b h) simple dark =
    let a : p < q = (blank_past b).0 in
    let d : q ≤ r = things_rise h in
    absurd (dark (simple_blank b (simple (omega arith))))
first_of (element_first e h) simple dark = one_left e h refl

-- white is left out
white_first : {n p r : ℕ} {s u : List ℕ} {vs : List Value} → Things n p s vs r u → head s ≡ white → (head u ≡ white → ⊥) → Things n (p + 1) (drop 1 s) vs r u
white_first nothing h dark = absurd (dark h)
white_first {n = n} {r = r} {s = s} {u = u} {vs = vs} (blank_first {p = p} {q = q} {t = t} b more) h dark =
    let at = one_white b h in subst (λ i. Things n i (drop 1 s) vs r u) at.0 (subst (λ l. Things n q l vs r u) at.1 more)
white_first (element_first e more) h dark = absurd (element_dark e h)

whites_first : (s : List ℕ) (at until end n r : ℕ) (u : List ℕ) (vs : List Value) → IsStopAt is_dark s at end until → Things n at (drop at s) vs r u → (head u ≡ white → ⊥) →
    Things n until (drop until s) vs r u
whites_first s at until end n r u vs h things dark =
    along_to (λ i. Things n i (drop i s) vs r u) at until h.0 (λ i a b so_far.
    let whitened : head (drop i s) ≡ white = ap class (first_byte s i) ∙ white_class (get_or s i 0) (lit (is_white (get_or s i 0)) (h.2 i a b)) in
    subst (λ l. Things n (i + 1) l vs r u) (drop-drop 1 i s ∙ ap (λ j. drop j s) (omega arith)) (white_first so_far whitened dark)) things

closer_dark : closer ≡ white → ⊥
closer_dark e = cc

closing_dark : (k : Kind) → class (closing k) ≡ white → ⊥
closing_dark a_list e = closer_dark e
closing_dark a_vector e = closer_dark e
closing_dark a_set e = closer_dark e
closing_dark a_map e = closer_dark e

-- What is still to come in a collection that begins at one place and is read up to another, with some elements: whatever element of simple
-- bytes stands where it begins, others and the closing byte stand here.
abbrev pub IsLeft : List ℕ → ℕ → ℕ → ℕ → Kind → List Value → ℕ → Type 0
IsLeft s from end levels k vs at = (v : Value) (used : ℕ) → suc levels ≤ 64 → Element (suc levels) from (drop from s) v used (drop used s) → IsSimple s from used → used < end →
    (ws : List Value) × (r : ℕ) × (u : List ℕ) × (used ≡ r + 1) × Things levels at (drop at s) ws r u × (get_or u 0 0 ≡ closing k) × (is_some (made k (vs ++ ws)) ≡ true)

pub none_left_out : (s : List ℕ) (from inner at end levels : ℕ) (k : Kind) → Opens k from (drop from s) inner (drop inner s) → IsStopAt is_dark s inner end at →
    IsLeft s from end levels k [] at
none_left_out s from inner at end levels k opens whites = λ v used few e simple lt.
    let h = only_collection (sort_of e (simple_at s from used from simple (omega arith) (element_past e).0)) opens in
    let vs = h.0 in
    let o = h.1 in
    let u = closing k ∷ drop used s in
    let things : Things levels inner (drop inner s) vs o u = subst (λ l. Things levels inner (drop inner s) l o u) (append-nil vs) (turned h.2 nothing) in
    (vs, o, u, h.3, whites_first s inner at end levels o u vs whites things (closing_dark k), refl, ap is_some h.4)

-- the first that is left, where no white stands and nothing is closed
pub record Next (s : List ℕ) (end levels at : ℕ) (k : Kind) (vs : List Value) (used : ℕ) : Type 0 where
  pub value : Value
  pub until : ℕ
  pub more : List Value
  pub final : ℕ
  pub rest : List ℕ
  pub is_final : used ≡ final + 1
  pub stands : Element levels at (drop at s) value until (drop until s)
  pub simple : IsSimple s at until
  pub inside : until < end
  pub things : Things levels until (drop until s) more final rest
  pub ends : get_or rest 0 0 ≡ closing k
  pub whole : is_some (made k (vs ++ value ∷ more)) ≡ true

same_byte : (c k : ℕ) → c ≡ k → (k == c) ≡ true
same_byte c k h = search (rules, tests)

closes_it : (b : Bool) (k : Kind) (c : ℕ) → b ≡ true → c ≡ closing k → closes (brackets k b) c ≡ true
closes_it b k c h e = rw (h, same_byte c (closing k) e) refl

next_of : {s : List ℕ} {end levels at used final : ℕ} {l u : List ℕ} {ws : List Value} (k : Kind) (vs : List Value) → First levels at l ws final u → l ≡ drop at s → IsSimple s at used → used < end →
    used ≡ final + 1 → get_or u 0 0 ≡ closing k → is_some (made k (vs ++ ws)) ≡ true → closes (brackets k (is_some (made k vs))) (get_or s at 0) ≡ false → Next s end levels at k vs used
next_of {s = s} {at = at} {ws = ws} k vs (none_left p l none) same simple lt is_final ends whole unclosed =
    let byte : get_or s at 0 ≡ closing k = sym (first_byte s at) ∙ ap (λ m. get_or m 0 0) (sym same ∙ l) ∙ ends in
    let all_in : is_some (made k vs) ≡ true = ap (λ m. is_some (made k m)) (sym (append-nil vs) ∙ ap (λ m. vs ++ m) (sym none)) ∙ whole in
    absurd (true≢false (sym (closes_it (is_some (made k vs)) k (get_or s at 0) all_in byte) ∙ unclosed))
next_of {s = s} {end = end} {levels = levels} {at = at} {used = used} {final = final} {l = l} {u = u} k vs (one_left {q = q} {t = t} {v = v} {ws = more} e h single) same simple lt is_final ends whole unclosed =
    let here : Element levels at (drop at s) v q t = subst (λ m. Element levels at m v q t) same e in
    let tail : t ≡ drop q s = tail_at s (element_past here).1 in
    let le : q ≤ final = things_rise h in
    record {
      value = v;
      until = q;
      more = more;
      final = final;
      rest = u;
      is_final = is_final;
      stands = subst (Element levels at (drop at s) v q) tail here;
      simple = λ i a b. simple i a (omega arith);
      inside = omega arith;
      things = subst (λ m. Things levels q m more final u) tail h;
      ends = ends;
      whole = subst (λ m. is_some (made k (vs ++ m)) ≡ true) single whole;
    }

pub next_left : (s : List ℕ) (from end levels at used : ℕ) (k : Kind) (vs : List Value) (v : Value) → IsLeft s from end levels k vs at → from < at → is_dark (get_or s at 0) ≡ true →
    closes (brackets k (is_some (made k vs))) (get_or s at 0) ≡ false → suc levels ≤ 64 → Element (suc levels) from (drop from s) v used (drop used s) → IsSimple s from used → used < end →
    Next s end levels at k vs used
next_left s from end levels at used k vs v left begun dark unclosed few e simple lt =
    let h = left v used few e simple lt in
    let r = h.1 in
    let final : used ≡ r + 1 = h.3 in
    let first = first_of h.4 (λ lt. simple_at s from used at simple (omega arith) (omega arith)) (λ w. dark_class (get_or s at 0) dark (ap class (sym (first_byte s at)) ∙ w)) in
    next_of k vs first refl (λ i a b. simple i (omega arith) b) lt final h.5 h.6 unclosed

-- one more element is read
pub more_left : (s : List ℕ) (from end levels at used next : ℕ) (k : Kind) (vs : List Value) (w : Value) → IsLeft s from end levels k vs at → from < at →
    is_dark (get_or s at 0) ≡ true → closes (brackets k (is_some (made k vs))) (get_or s at 0) ≡ false → Element levels at (drop at s) w used (drop used s) →
    IsStopAt is_dark s used end next → IsLeft s from end levels k (vs ++ w ∷ []) next
more_left s from end levels at used next k vs w left begun dark unclosed here whites = λ v until few e simple lt.
    let n = next_left s from end levels at until k vs v left begun dark unclosed few e simple lt in
    let low : levels ≤ 64 = omega arith in
    let same = one_element low low n.stands here in
    let things = subst (λ i. Things levels i (drop i s) n.more n.final n.rest) same.1 n.things in
    let whole = subst (λ x. is_some (made k (vs ++ x ∷ n.more)) ≡ true) same.0 n.whole in (
      n.more,
      n.final,
      n.rest,
      n.is_final,
      whites_first s used next end levels n.final n.rest n.more whites things (λ h. closing_dark k (ap class (sym n.ends) ∙ h)),
      n.ends,
      subst (λ l. is_some (made k l) ≡ true) (sym (append_assoc vs (w ∷ []) n.more)) whole,
    )

-- where none is found no collection of simple bytes stands
pub none_there : (s : List ℕ) (from end levels at used : ℕ) (k : Kind) (vs : List Value) (v : Value) → IsLeft s from end levels k vs at → from < at → is_dark (get_or s at 0) ≡ true →
    closes (brackets k (is_some (made k vs))) (get_or s at 0) ≡ false → FindsSimple s at end levels at → suc levels ≤ 64 → Element (suc levels) from (drop from s) v used (drop used s) →
    IsSimple s from used → used < end → ⊥
none_there s from end levels at used k vs v left begun dark unclosed found few e simple lt =
    let n = next_left s from end levels at used k vs v left begun dark unclosed few e simple lt in
    let past : at < n.until = (element_past n.stands).0 in
    let same : at ≡ n.until = found n.value n.until (omega arith) n.stands n.simple n.inside in
    absurd (omega arith)

-- and none where the bytes end
pub none_behind : (s : List ℕ) (from end levels at used : ℕ) (k : Kind) (vs : List Value) (v : Value) → IsLeft s from end levels k vs at → end ≤ at → suc levels ≤ 64 →
    Element (suc levels) from (drop from s) v used (drop used s) → IsSimple s from used → used < end → ⊥
none_behind s from end levels at used k vs v left over few e simple lt =
    let h = left v used few e simple lt in
    let r = h.1 in
    let final : used ≡ r + 1 = h.3 in
    let le : at ≤ r = things_rise h.4 in
    absurd (omega arith)

-- an opening byte ends within its collection
opens_within : {n p q r : ℕ} {s t u : List ℕ} {v : Value} {k : Kind} → Sort n p s v q t → Opens k p s r u → r ≤ q
opens_within (a_run h) (bracket (one g)) = let e = sym h ∙ g in absurd (cc)
opens_within (a_run h) (set_bracket (one g) f) = let e = sym h ∙ g in absurd (cc)
opens_within (a_text h i j) (bracket (one g)) = let e = sym h ∙ g in absurd (cc)
opens_within (a_text h i j) (set_bracket (one g) f) = let e = sym h ∙ g in absurd (cc)
opens_within (a_tag tg h bs i) (bracket (one g)) = let e = sym (tag_hash tg) ∙ g in absurd (cc)
opens_within (a_tag tg h bs i) (set_bracket (one g) f) = let e = sym (tag_names tg) ∙ f in absurd (cc)
opens_within {r = r} (a_collection {q = q} {r = o} i row m) j =
    let same : q ≡ r = (opens_one i j).1 in
    let le : q ≤ o = things_rise (turned row nothing) in
    omega arith

pub opened_within : (s : List ℕ) (from inner used n : ℕ) (t : List ℕ) (v : Value) (k : Kind) → Element n from (drop from s) v used (drop used s) → IsSimple s from used →
    Opens k from (drop from s) inner t → inner ≤ used
opened_within s from inner used n t v k e simple i = opens_within (sort_of e (simple_at s from used from simple (omega arith) (element_past e).0)) i

-- what stands at a place where an element of simple bytes does
pub data Here (s : List ℕ) (from used levels : ℕ) : Type 0 where
  run_here : class (get_or s from 0) ≡ inside → Here s from used levels
  text_here : class (get_or s from 0) ≡ quote → Here s from used levels
  tag_here : (m q r : ℕ) (v : Value) → suc m ≡ levels → IsTagAt s from q → Blanks m q (drop q s) r (drop r s) → Element m r (drop r s) v used (drop used s) → Here s from used levels
  collection_here : (m inner : ℕ) (t : List ℕ) (k : Kind) → suc m ≡ levels → Opens k from (drop from s) inner t → Here s from used levels

here_of : (s : List ℕ) {n from used : ℕ} {l x : List ℕ} {v : Value} → Sort n from l v used x → l ≡ drop from s → x ≡ drop used s → Here s from used n
here_of s {from = from} (a_run h) same rest = run_here (ap class (sym (first_byte s from) ∙ ap (λ l. get_or l 0 0) (sym same)) ∙ h)
here_of s {from = from} (a_text h i j) same rest = text_here (ap class (sym (first_byte s from) ∙ ap (λ l. get_or l 0 0) (sym same)) ∙ h)
here_of s {from = from} (a_tag {n = n} {q = q} {r = r} {o = o} {c = c} {t = t} {u = u} {x = x} {w = w} {v = v} tg h bs e) same rest =
    let tag = subst (λ l. Tag from l w q (c ∷ t)) same tg in
    let begun : c ∷ t ≡ drop q s = tail_at s (tag_past tag).1 in
    let blanks = subst (λ l. Blanks n q l r u) begun bs in
    let behind_them : u ≡ drop r s = tail_at s (blanks_tail blanks) in
    tag_here n q r v refl (w, c, t, tag, h, sym begun) (subst (Blanks n q (drop q s) r) behind_them blanks)
    (subst (Element n r (drop r s) v o) rest (subst (λ l. Element n r l v o x) behind_them e))
here_of s {from = from} (a_collection {n = n} {q = q} {t = t} {k = k} i row m) same rest = collection_here n q t k refl (subst (λ l. Opens k from l q t) same i)

pub here : (s : List ℕ) (from used n : ℕ) (v : Value) → Element n from (drop from s) v used (drop used s) → IsSimple s from used → Here s from used n
here s from used n v e simple = here_of s (sort_of e (simple_at s from used from simple (omega arith) (element_past e).0)) refl refl

-- blanks of simple bytes are white, and end where the white does
all_white : (s : List ℕ) {n p q : ℕ} {l t : List ℕ} → Blanks n p l q t → l ≡ drop p s → IsSimple s p q → (i : ℕ) → p ≤ i → i < q → class (get_or s i 0) ≡ white
all_white s no_blank same simple i le lt = absurd (omega arith)
all_white s {n = n} {p = p} {l = l} (one_more {q = q} {r = r} {t = t} {u = u} bs b) same simple i le lt =
    let begun = subst (λ m. Blanks n p m q t) same bs in
    let tail : t ≡ drop q s = tail_at s (blanks_tail begun) in
    let first : p ≤ q = tail_rises (blanks_tail bs) in
    let past : q < r = (blank_past b).0 in
    let this = subst (λ m. Blank n q m r u) tail b in
    let whitened : head (drop q s) ≡ white = simple_blank this (simple_at s p r q simple first past) in
    let one_byte : r ≡ q + 1 = (one_white this whitened).0 in
    elim (cases_lt i q) [
      | inl earlier ↦ all_white s bs same (λ j a b. simple j a (omega arith)) i le earlier
      | inr later ↦ (let same_place : q ≡ i = omega arith in ap (λ j. class (get_or s j 0)) (sym same_place) ∙ ap class (sym (first_byte s q)) ∙ whitened)
    ]

pub white_ends : (s : List ℕ) (n q r end at used : ℕ) (v : Value) → Blanks n q (drop q s) r (drop r s) → IsSimple s q r → Element n r (drop r s) v used (drop used s) → r < end →
    IsStopAt is_dark s q end at → at ≡ r
white_ends s n q r end at used v bs simple e lt h = elim (cases_lt at r) [
  | inl less ↦ absurd (dark_class (get_or s at 0) (h.3 (omega arith)) (all_white s bs refl simple at h.0 less))
  | inr le ↦ elim (cases_lt r at) [
    | inl more ↦ absurd (element_dark e (ap class (first_byte s r) ∙ white_class (get_or s r 0) (lit (is_white (get_or s r 0)) (h.2 r (tail_rises (blanks_tail bs)) more))))
    | inr ge ↦ omega arith
  ]
]
