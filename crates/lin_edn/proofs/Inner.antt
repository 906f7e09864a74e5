-- What stands behind one tag or two that wait for their element, in words of the grammar.
use Rattle.std.proofs.Common.{◌≡◌, ℕ, true, suc, ◌+◌, ◌-◌, ◌<◌, ◌≤◌, Bool, false, List, [], ◌∷◌, length, drop, ap, ◌∙◌, Some, refl, subst, arith}
use Rattle.std.proofs.lemmas.List.{drop-drop}
use Rattle.lin_bytes.specs.Bytes.{Kind, hash, behind, discards as discards_next, is_stop, closing}
use Rattle.lin_edn.specs.Grammar.{One, Tag, Opens, discards, Blank, discarded, Blanks, no_blank, one_more, Element, tagged_element, collection, Row, empty, blank, element, longest, Frame, frame, discarding, tagging, outermost}
use Rattle.lin_edn.specs.inner.Machine.{Answer, complete, blank as blank_answer, partial, fault, too_long, run, between, put}
use Rattle.lin_edn.specs.Rows.{IsElementAt, IsNoElementAt, levels_behind}
use Rattle.lin_edn.specs.inner.Scans.{waiting, IsWrapped, IsBehindTags, IsNoneBehindTags}
use Rattle.lin_edn.specs.Value.{Value, tagged, made}
use Rattle.lin_edn.proofs.Back.{AfterOn, Keeps, holds, bound_here}
use Rattle.lin_edn.proofs.Chains.{end_of}
use Rattle.lin_edn.proofs.Forth.{blanks_run, element_run}
use Rattle.lin_edn.specs.lemmas.Rising.{blanks_tail, element_past, tail_rises, then}
use Rattle.lin_edn.proofs.Sizes.{tail_drop}

-- an element behind them
abbrev wrapped : Bool → Value → Value
wrapped true v = tagged 0 [] (tagged 0 [] v)
wrapped false v = tagged 0 [] v

-- behind two tags or one that wait at the bottom, the bytes from a place on leave these open up to another place
data Above (from : ℕ) (s : List ℕ) : Bool → ℕ → List Frame → ℕ → List ℕ → Type 0 where
  one_waits : {q : ℕ} {t : List ℕ} → Blanks 63 from s q t → Above from s false 63 (tagging 0 0 [] ∷ []) q t
  two_wait : {q : ℕ} {t : List ℕ} → Blanks 62 from s q t → Above from s true 62 (tagging 0 0 [] ∷ tagging 0 0 [] ∷ []) q t
  within : {two : Bool} {n p q r : ℕ} {t u x : List ℕ} {st : List Frame} {vs : List Value} {k : Kind} →
      Above from s two (suc n) st p t → Opens k p t q u → Row n q u vs r x → Above from s two n (frame k p vs ∷ st) r x
  waits : {two : Bool} {n p q r b : ℕ} {t u x w : List ℕ} {st : List Frame} →
      Above from s two (suc n) st p t → One hash p t w q (b ∷ u) → behind b ≡ discards_next → Blanks n (q + 1) u r x → Above from s two n (discarding p ∷ st) r x
  awaits : {two : Bool} {n p q r c : ℕ} {t u x w : List ℕ} {st : List Frame} →
      Above from s two (suc n) st p t → Tag p t w q (c ∷ u) → is_stop c ≡ true → Blanks n q (c ∷ u) r x → Above from s two n (tagging p (p + 1) w ∷ st) r x

-- what is answered holds what stands there
abbrev Told : Bool → ℕ → List ℕ → Answer → Type 0
Told two from s (complete w o q) = (v : Value) × (w ≡ wrapped two v) × (p : ℕ) × (t u : List ℕ)
    × Blanks (levels_behind two) from s p t × Element (levels_behind two) p t v q u × (q ≤ longest)
Told two from s (blank_answer p) = Unit {0}
Told two from s (partial p) = Unit {0}
Told two from s (fault j p k) = Unit {0}
Told two from s (too_long p) = Unit {0}

above_levels : {from : ℕ} {s : List ℕ} {two : Bool} {n q : ℕ} {t : List ℕ} {st : List Frame} → Above from s two n st q t → n + length st ≡ 64
above_levels (one_waits bs) = refl
above_levels (two_wait bs) = refl
above_levels (within {n = n} {st = st} o i row) = let e : suc n + length st ≡ 64 = above_levels o in omega arith
above_levels (waits {n = n} {st = st} o h d bs) = let e : suc n + length st ≡ 64 = above_levels o in omega arith
above_levels (awaits {n = n} {st = st} o tg h bs) = let e : suc n + length st ≡ 64 = above_levels o in omega arith

above_skip : {from : ℕ} {s : List ℕ} {two : Bool} {n q r : ℕ} {t u : List ℕ} {st : List Frame} → Above from s two n st q t → Blank n q t r u → Above from s two n st r u
above_skip (one_waits bs) b = one_waits (one_more bs b)
above_skip (two_wait bs) b = two_wait (one_more bs b)
above_skip (within o i row) b = within o i (blank row b)
above_skip (waits o h d bs) b = waits o h d (one_more bs b)
above_skip (awaits o tg h bs) b = awaits o tg h (one_more bs b)

above_put : {from : ℕ} {s : List ℕ} {two : Bool} {n p q : ℕ} {t u : List ℕ} {st : List Frame} {v : Value} → Above from s two n st p t → Element n p t v q u → q ≤ outermost p st + longest →
    AfterOn (Told two from s) (Above from s two) q u (put v p st q)
above_put {p = p} {q = q} {t = t} {u = u} {v = v} (one_waits bs) e le = (v, refl, p, t, u, bs, e, omega arith)
above_put {p = p} {q = q} {t = t} {u = u} {v = v} (two_wait bs) e le = (v, refl, p, t, u, bs, e, omega arith)
above_put (within {n = n} o i row) e le = ((n, within o i (element row e)), le)
above_put {q = q} (waits {n = n} {p = o} {st = st} op h d bs) e le = ((suc n, above_skip op (discarded (discards h d bs e))), bound_here o q st le)
above_put (awaits o tg h bs) e le = above_put o (tagged_element tg h bs e) le

above_closed : {from : ℕ} {s : List ℕ} {two : Bool} {n p q : ℕ} {t u : List ℕ} {st : List Frame} {vs : List Value} {k : Kind} {v : Value} → Above from s two n (frame k p vs ∷ st) q u →
    u ≡ closing k ∷ t → made k vs ≡ Some v → q < outermost p st + longest → AfterOn (Told two from s) (Above from s two) (q + 1) t (put v p st (q + 1))
above_closed {k = k} (within {n = n} {p = p} {q = q} {r = r} {u = u} {st = st} {vs = vs} o i row) e m lt =
    let le : r + 1 ≤ outermost p st + longest = omega arith in above_put o (collection i (subst (λ x. Row n q u vs r x) e row) m) le

above_keeps : (two : Bool) (from : ℕ) (s : List ℕ) → Keeps (Told two from s) (Above from s two)
above_keeps two from s = record {
  levels = above_levels;
  skip = λ o b le. above_skip o b;
  puts = above_put;
  within = λ o i. within o i empty;
  waits = λ o i h. waits o i h no_blank;
  awaits = λ o tg h. awaits o tg h no_blank;
  closed = above_closed;
  unbalanced = λ o h f lt. tt;
  odd_map = λ o m lt. tt;
  too_deep = λ o h lt. tt;
  hash_too_deep = λ o i h lt. tt;
  blank = λ o. tt;
  comment = λ o i le. tt;
  partial = λ p. tt;
  too_long = λ p. tt;
}

-- before the first byte
none_above : (two : Bool) (from : ℕ) (s : List ℕ) → Above from s two (levels_behind two) (waiting two) from s
none_above true from s = two_wait no_blank
none_above false from s = one_waits no_blank

begins_above : (two : Bool) (from : ℕ) → from ≤ longest → from ≤ outermost from (waiting two) + longest
begins_above true from le = omega arith
begins_above false from le = omega arith

-- what the machine finds behind the tags stands there
inside_tags : (two : Bool) (s : List ℕ) (from : ℕ) (w : Value) (o used : ℕ) → run longest from (waiting two) between (drop from s) ≡ complete w o used → from ≤ longest →
    (v : Value) × (w ≡ wrapped two v) × IsElementAt (levels_behind two) s from v used
inside_tags two s from w o used b le =
    let rest = drop from s in
    let h = subst (Told two from rest) b
    (holds (Told two from rest) (Above from rest two) (above_keeps two from rest) rest from (waiting two) between (levels_behind two, none_above two from rest) (begins_above two from le)) in
    let first : from ≤ h.2 = tail_rises (blanks_tail h.5) in
    let later : h.2 < used = (element_past h.6).0 in
    let behind_it : h.4 ≡ drop used s = tail_drop (then (blanks_tail h.5) (element_past h.6).1) ∙ drop-drop (used - from) from s ∙ ap (λ n. drop n s) (omega arith) in
    (h.0, h.1, (h.2, h.3, h.5, subst (Element (levels_behind two) h.2 h.3 h.0 used) behind_it h.6, h.7))

same_wrapped : (two : Bool) (u v w : Value) → w ≡ wrapped two u → IsWrapped two v w → u ≡ v
same_wrapped true u v w h t = let e = t.4 in cc
same_wrapped false u v w h t = let e = t.2 in cc

pub inner : (two : Bool) (s : List ℕ) (from : ℕ) (v : Value) (used : ℕ) → IsBehindTags two s from v used → from ≤ longest → IsElementAt (levels_behind two) s from v used
inner two s from v used b le =
    let h = inside_tags two s from b.0 b.1 used b.3 le in
    subst (λ x. IsElementAt (levels_behind two) s from x used) (same_wrapped two h.0 v b.0 h.1 b.2) h.2

-- where the machine finds none, none stands
behind_two : {p q o : ℕ} {s t u : List ℕ} {v : Value} → Blanks 62 p s q t → Element 62 q t v o u → o ≤ longest →
    run longest p (waiting true) between s ≡ complete (wrapped true v) 0 o
behind_two {q = q} {o = o} bs e le =
    let a : q < o = (element_past e).0 in
    blanks_run longest bs (tagging 0 0 []) (tagging 0 0 [] ∷ []) (omega arith) (omega arith) ∙ element_run longest e (waiting true) (omega arith) (omega arith)

found_behind : (two : Bool) (s : List ℕ) (from : ℕ) (v : Value) (used : ℕ) → IsElementAt (levels_behind two) s from v used → IsBehindTags two s from v used
found_behind true s from v used e = (wrapped true v, 0, (0, 0, [], [], refl), behind_two e.2 e.3 e.4)
found_behind false s from v used e = (wrapped false v, 0, (0, [], refl), end_of longest e.2 e.3 (omega arith) e.4)

pub none_there : (two : Bool) (s : List ℕ) (from : ℕ) → IsNoneBehindTags two s from → IsNoElementAt (levels_behind two) s from
none_there two s from none v used e = none v used (found_behind two s from v used e)
