-- What is wrong with a byte is what the machine tells, where the limit is great enough.
use Rattle.std.proofs.Common.{◌≡◌, ℕ, suc, ◌+◌, ◌<◌, ◌≤◌, true, false, List, [], ◌∷◌, length, refl, sym, ap, ◌∙◌, arith, None, nat_le, if◌then◌else◌}
use Rattle.lin_bytes.specs.Bytes.{Kind, a_list, a_vector, a_set, a_map, hash, opener, closer, closing, Behind, behind, opens_set, opens_text, discards as discards_next, joins, stands_apart, names_tag}
use Rattle.lin_edn.specs.Grammar.{longest, One, Frame, frame, discarding, tagging, Open, none_open, within, waits, awaits, fits, deepens, Faulty, unbalanced, odd_map, too_deep, hash_too_deep, outermost}
use Rattle.lin_edn.specs.inner.Machine.{Mode, in_run, after_hash, after_backslash, in_tag, in_text, in_escape, in_comment, go, run, between, Turn, stop, fault, deeper, close, closed}
use Rattle.lin_edn.specs.Value.{Value, made}
use Rattle.lin_edn.specs.declared.EdnCause.{EdnCause}
use Rattle.lin_edn.specs.declared.EdnCause.TheVariants.{Unbalanced, OddMap, TooDeep}
use Rattle.lin_edn.proofs.Back.{Stands, levels}
use Rattle.lin_edn.proofs.Forth.{takes, begins_run, one_run, hash_run, inside_run, tag_run, text_run, escape_run, comment_run, hash_goes, opens_run, row_run, discard_opens, tag_opens, blanks_run, long_run}
use Rattle.lin_edn.proofs.Fronts.{long}
use Rattle.lin_edn.specs.lemmas.Rising.{blanks_tail, comment_past, escape_past, inside_past, one_past, opens_past, row_tail, tag_past, tail_rises, text_past}

-- up to what is open
pub open_run : (most : ℕ) {n p : ℕ} {s t : List ℕ} {st : List Frame} → Open s n st p t → p ≤ most → run most 0 [] between s ≡ run most p st between t
open_run most (none_open bs) le = long_run most (long bs) le
open_run most (within {n = n} {p = p} {q = q} {r = r} {st = st} {k = k} o i row) le =
    let a : p < q = (opens_past i).0 in
    let b : q ≤ r = tail_rises (row_tail row) in
    let all : suc n + length st ≡ 64 = levels o in
    open_run most o (omega arith) ∙ opens_run most i st (omega arith) (omega arith) ∙ row_run most row k p st (omega arith) (omega arith)
open_run most (waits {n = n} {p = p} {q = q} {r = r} {st = st} o h d bs) le =
    let a : p < q = (one_past h).0 in
    let b : q + 1 ≤ r = tail_rises (blanks_tail bs) in
    let all : suc n + length st ≡ 64 = levels o in
    open_run most o (omega arith) ∙ discard_opens most h d st (omega arith) (omega arith) ∙ blanks_run most bs (discarding p) st (omega arith) (omega arith)
open_run most (awaits {n = n} {p = p} {q = q} {r = r} {w = w} {st = st} o tg h bs) le =
    let a : p < q = (tag_past tg).0 in
    let b : q ≤ r = tail_rises (blanks_tail bs) in
    let all : suc n + length st ≡ 64 = levels o in
    open_run most o (omega arith) ∙ tag_opens most tg h st (omega arith) (omega arith) ∙ blanks_run most bs (tagging p (p + 1) w) st (omega arith) (omega arith)

pub stands_run : (text : List ℕ) (at : ℕ) (st : List Frame) (m : Mode) (rest : List ℕ) → Stands text at st m rest → at ≤ longest →
    run longest 0 [] between text ≡ run longest at st m rest
stands_run text at st between rest h le = open_run longest h.1 le
stands_run text at st (in_run p w) rest h le =
    let a : p < at = (inside_past h.3).0 in open_run longest h.2 (omega arith) ∙ inside_run longest h.3 st (omega arith)
stands_run text at st (after_hash p w) rest h le =
    let a : p < at = (one_past h.3).0 in open_run longest h.2 (omega arith) ∙ hash_run longest h.3 st (omega arith)
stands_run text at st (after_backslash p w) rest h le =
    let a : p < at = (one_past h.3).0 in
    open_run longest h.2 (omega arith) ∙ one_run longest h.3 st (after_backslash p w) (omega arith) (λ c e. ap (λ x. go st (after_backslash p x)) (sym e))
stands_run text at st (in_tag p w) rest h le =
    let a : p < at = (tag_past h.3).0 in let all : suc h.0 + length st ≡ 64 = levels h.2 in
    open_run longest h.2 (omega arith) ∙ tag_run longest h.3 st (omega arith) (omega arith)
stands_run text at st (in_text p w) rest h le =
    let a : p < at = (text_past h.3).0 in open_run longest h.2 (omega arith) ∙ text_run longest h.3 st (omega arith)
stands_run text at st (in_escape p w) rest h le =
    let a : p < at = (escape_past h.3).0 in open_run longest h.2 (omega arith) ∙ escape_run longest h.3 st (omega arith)
stands_run text at st (in_comment p) rest h le =
    let a : p < at = (comment_past h.3).0 in open_run longest h.2 (omega arith) ∙ comment_run longest h.3 st (omega arith)

-- a closing byte that doesn't close
unfit : (at c : ℕ) (st : List Frame) → fits st c ≡ false → close at st c ≡ stop (fault at at Unbalanced)
unfit at c [] h = refl
unfit at c (frame k p vs ∷ st) h = rw h refl
unfit at c (discarding p ∷ st) h = refl
unfit at c (tagging p i w ∷ st) h = refl

-- one that closes an odd map
odd : (most : ℕ) (k : Kind) (o : ℕ) (vs : List Value) (st : List Frame) (at : ℕ) (t : List ℕ) → made k vs ≡ None → at < outermost o st + most →
    run most at (frame k o vs ∷ st) between (closing k ∷ t) ≡ fault at at OddMap
odd most a_list o vs st at t h lt = absurd (cc)
odd most a_vector o vs st at t h lt = absurd (cc)
odd most a_set o vs st at t h lt = absurd (cc)
odd most a_map o vs st at t h lt = takes most at (frame a_map o vs ∷ st) between 125 t (stop (fault at at OddMap)) refl lt (ap (λ m. closed m o st at) h)

-- one level too many
full : (at p : ℕ) (st : List Frame) (t : Turn) → 0 + length st ≡ 64 → deeper at p st t ≡ stop (fault at p TooDeep)
full at p st t h = (let all : length st ≡ 64 = omega arith in ap (λ n. if nat_le 64 n then stop (fault at p TooDeep) else t) all)

hash_full : (most : ℕ) {p q b : ℕ} {s t w : List ℕ} → One hash p s w q (b ∷ t) → (st : List Frame) → 0 + length st ≡ 64 → q < outermost p st + most →
    (k : Behind) → behind b ≡ k → deepens k ≡ true → run most p st between s ≡ fault q p TooDeep
hash_full most {p = p} {q = q} {b = b} {t = t} {w = w} i st all lt opens_set e d =
    let a : p < q = (one_past i).0 in
    hash_run most i st (omega arith) ∙ hash_goes most q st p w b t opens_set (stop (fault q p TooDeep)) e refl (full q p st _ all) lt
hash_full most {p = p} {q = q} {b = b} {t = t} {w = w} i st all lt discards_next e d =
    let a : p < q = (one_past i).0 in
    hash_run most i st (omega arith) ∙ hash_goes most q st p w b t discards_next (stop (fault q p TooDeep)) e refl (full q p st _ all) lt
hash_full most {p = p} {q = q} {b = b} {t = t} {w = w} i st all lt names_tag e d =
    let a : p < q = (one_past i).0 in
    hash_run most i st (omega arith) ∙ hash_goes most q st p w b t names_tag (stop (fault q p TooDeep)) e refl (full q p st _ all) lt
hash_full most i st all lt opens_text e d = absurd (cc)
hash_full most i st all lt joins e d = absurd (cc)
hash_full most i st all lt stands_apart e d = absurd (cc)

pub faulty_run : (most : ℕ) {j i : ℕ} {s : List ℕ} {k : EdnCause} → Faulty s j i k → j < most → run most 0 [] between s ≡ fault j i k
faulty_run most (unbalanced {p = p} {c = c} {t = t} {st = st} o h f) lt =
    open_run most o (omega arith) ∙ begins_run most p st c t closer (stop (fault p p Unbalanced)) h (omega arith) (unfit p c st f)
faulty_run most (odd_map {p = p} {o = o} {t = t} {st = st} {vs = vs} {k = k} op m) lt =
    open_run most op (omega arith) ∙ odd most k o vs st p t m (omega arith)
faulty_run most (too_deep {p = p} {c = c} {t = t} {st = st} {k = k} o h) lt =
    open_run most o (omega arith) ∙ begins_run most p st c t (opener k) (stop (fault p p TooDeep)) h (omega arith) (full p p st _ (levels o))
faulty_run most (hash_too_deep {p = p} {q = q} {b = b} {st = st} o i h) lt =
    let a : p < q = (one_past i).0 in
    open_run most o (omega arith) ∙ hash_full most i st (levels o) (omega arith) (behind b) refl h
