-- Places count the bytes before them.
use Rattle.std.proofs.Common.{◌≡◌, ℕ, ◌+◌, ◌-◌, ◌<◌, ◌≤◌, List, ◌∷◌, length, drop, get_or, get_or-drop, refl, ap, ◌∙◌, arith, length-append}
use Rattle.std.proofs.lemmas.List.{drop-drop}
use Rattle.lin_edn.specs.Grammar.{Comment, longest, ShortBlanks, no_blank_yet, one_more_short, Spells, spells, IsLeast, Faulty, unbalanced, odd_map, too_deep, hash_too_deep}
use Rattle.lin_edn.specs.Reading.{IsWrong, Refuses}
use Rattle.lin_edn.specs.Value.{Value}
use Rattle.lin_edn.specs.declared.EdnCause.{EdnCause}
use Rattle.lin_edn.specs.declared.EdnCause.TheVariants.{Unbalanced, OddMap, TooDeep, TooLong, OutOfMemory}
use Rattle.lin_edn.specs.lemmas.Rising.{Tail, all, last, then, tail_size, tail_rises, one_past, comment_past, blank_past, element_past}

pub same_tail : {p q r : ℕ} {s t u : List ℕ} → Tail p s q t → Tail p s r u → q ≡ r → t ≡ u
same_tail all all e = refl
same_tail (all {p = p}) (last {q = q} h) e = (let a : p ≤ q = tail_rises h in absurd (omega arith))
same_tail (last {q = q} h) (all {p = p}) e = (let a : p ≤ q = tail_rises h in absurd (omega arith))
same_tail (last {q = q} h) (last {q = r} k) e = (let f : q ≡ r = omega arith in let g = same_tail h k f in cc)

pub tail_drop : {p q : ℕ} {s t : List ℕ} → Tail p s q t → t ≡ drop (q - p) s
tail_drop (all {p = p} {s = s}) = let e : 0 ≡ p - p = omega arith in ap (λ n. drop n s) e
tail_drop (last {p = p} {q = q} {b = b} {s = s} {t = t} h) =
    let e : p ≤ q = tail_rises h in ap (drop 1) (tail_drop h) ∙ drop-drop 1 (q - p) s ∙ ap (λ n. drop n s) (omega arith)

-- a byte behind a place, among all
pub tail_byte : {p q : ℕ} {s t : List ℕ} → Tail p s q t → (i : ℕ) → get_or t i 0 ≡ get_or s ((q - p) + i) 0
tail_byte {p = p} {q = q} {s = s} h i = ap (λ l. get_or l i 0) (tail_drop h) ∙ get_or-drop (q - p) s i 0

pub short_tail : {q : ℕ} {s t : List ℕ} → ShortBlanks s q t → Tail 0 s q t
short_tail no_blank_yet = all
short_tail (one_more_short bs b le) = then (short_tail bs) (blank_past b).1

pub blanks_sized : {q : ℕ} {s t : List ℕ} → ShortBlanks s q t → length s ≡ q + length t
blanks_sized {q = q} {s = s} {t = t} bs = let e : 0 + length s ≡ q + length t = tail_size (short_tail bs) in omega arith

pub comment_sized : {p q : ℕ} {s t : List ℕ} → Comment p s q t → p + length s ≡ q + length t
comment_sized i = tail_size (comment_past i).1

pub blanks_inside : (s t : List ℕ) (n : ℕ) → ShortBlanks s n t → n ≤ length s
blanks_inside s t n bs = let e : length s ≡ n + length t = blanks_sized bs in omega arith

pub spelled_inside : {p q : ℕ} {s : List ℕ} {v : Value} → Spells s v p q → (p < q) × (q ≤ length s)
spelled_inside (spells {p = p} {q = q} {s = s} {t = t} {u = u} bs e le) =
    let a : length s ≡ p + length t = blanks_sized bs in
    let b : p + length t ≡ q + length u = tail_size (element_past e).1 in
    ((element_past e).0, omega arith)

no_later : {j p : ℕ} {s : List ℕ} {k : EdnCause} → Faulty s j p k → p ≤ j
no_later (unbalanced {p = p} o h f) = omega arith
no_later (odd_map {p = p} o m) = omega arith
no_later (too_deep {p = p} o h) = omega arith
no_later (hash_too_deep {p = p} {q = q} o i h) = let a : p < q = (one_past i).0 in omega arith

pub least_inside : (s : List ℕ) (j : ℕ) → IsLeast s j → j < length s
least_inside s j h =
    let e : length s ≡ length h.0 + length (h.1 ∷ h.2) = ap length h.3 ∙ length-append h.0 (h.1 ∷ h.2) in
    let g : length h.0 ≡ j = h.4 in
    omega arith

wrong_inside : (s : List ℕ) (at : ℕ) (k : EdnCause) → IsWrong s at k → at ≤ length s
wrong_inside s at k h =
    let a : at ≤ h.0 = no_later h.3 in
    let b : h.0 < length s = least_inside s h.0 h.1 in
    omega arith

pub refused_inside : (s : List ℕ) (at : ℕ) (k : EdnCause) → Refuses s at k → at ≤ length s
refused_inside s at Unbalanced h = wrong_inside s at Unbalanced h
refused_inside s at OddMap h = wrong_inside s at OddMap h
refused_inside s at TooDeep h = wrong_inside s at TooDeep h
refused_inside s at TooLong h = let lt : at + longest < length s = h.0 in omega arith
refused_inside s at OutOfMemory h = omega arith
