-- Blanks are passed in one way.
use Rattle.std.proofs.Common.{◌≡◌, ℕ, ◌+◌, ◌≤◌, ◌<◌, ◌⊎◌, inl, inr, true, List, [], ◌∷◌, ◌++◌, refl, sym, ◌∙◌, subst, arith}
use Rattle.std.proofs.lemmas.Bool.{cases_lt}
use Rattle.lin_bytes.specs.Bytes.{Class, semicolon, hash, class, is_newline}
use Rattle.lin_edn.specs.Grammar.{one, Comment, starts, goes, Discard, discards, Blank, white_byte, comment, discarded, Blanks, Element, longest, ShortBlanks, no_blank_yet, one_more_short, tagging}
use Rattle.lin_edn.specs.inner.Machine.{complete, run, between}
use Rattle.lin_edn.specs.Value.{Value, tagged}
use Rattle.lin_edn.proofs.Forth.{blanks_run, element_run}
use Rattle.lin_edn.specs.lemmas.Rising.{blank_past, comment_past, element_past}
use Rattle.lin_edn.proofs.Sizes.{same_tail}

-- the first byte is of a class
abbrev pub Begins : Class → List ℕ → Type 0
Begins k [] = ⊥
Begins k (c ∷ s) = class c ≡ k

pub begins_alike : (j k : Class) (s : List ℕ) → Begins j s → Begins k s → j ≡ k
begins_alike j k [] a b = absurd a
begins_alike j k (c ∷ s) a b = sym a ∙ b

pub begins_longer : (k : Class) (s x : List ℕ) → Begins k s → Begins k (s ++ x)
begins_longer k [] x a = absurd a
begins_longer k (c ∷ s) x a = a

pub comment_begins : {p q : ℕ} {s t : List ℕ} → Comment p s q t → Begins semicolon s
comment_begins (starts (one h)) = h
comment_begins (goes i h) = comment_begins i

pub discard_begins : {n p q : ℕ} {s t : List ℕ} → Discard n p s q t → Begins hash s
discard_begins (discards (one h) d bs e) = h

-- a comment goes on to its newline
comment_to : {p q r c : ℕ} {s t u : List ℕ} → Comment p s q t → Comment p s r (c ∷ u) → is_newline c ≡ true → q ≤ r
comment_to {r = r} (starts (one {p = p} h)) j n = let a : p < r = (comment_past j).0 in omega arith
comment_to {r = r} {c = c} {u = u} (goes {q = q} {b = b} {t = t} i h) j n = further (comment_to i j n) (cases_lt q r)
  where
    further : q ≤ r → (q < r) ⊎ (r ≤ q) → q + 1 ≤ r
    further le (inl lt) = omega arith
    further le (inr ge) =
        let here : q ≡ r = omega arith in
        let same : b ∷ t ≡ c ∷ u = same_tail (comment_past i).1 (comment_past j).1 here in absurd (cc)

-- behind a tag that waits, an element is told
pub end_of : (most : ℕ) {n p q o : ℕ} {s t u : List ℕ} {v : Value} → Blanks n p s q t → Element n q t v o u → n + 1 ≤ 64 → o ≤ most →
    run most p (tagging 0 0 [] ∷ []) between s ≡ complete (tagged 0 [] v) 0 o
end_of most {q = q} {o = o} bs e fits le =
    let a : q < o = (element_past e).0 in
    blanks_run most bs (tagging 0 0 []) [] (omega arith) (omega arith) ∙ element_run most e (tagging 0 0 [] ∷ []) (omega arith) (omega arith)

same_end : {p q r o i : ℕ} {s t u x y : List ℕ} {v w : Value} → Blanks 63 p s q t → Element 63 q t v o x → Blanks 63 p s r u → Element 63 r u w i y → o ≡ i
same_end {p = p} {o = o} {i = i} {s = s} {v = v} {w = w} bs e cs f =
    let a : run (o + i) p (tagging 0 0 [] ∷ []) between s ≡ complete (tagged 0 [] v) 0 o = end_of (o + i) bs e (omega arith) (omega arith) in
    let b : run (o + i) p (tagging 0 0 [] ∷ []) between s ≡ complete (tagged 0 [] w) 0 i = end_of (o + i) cs f (omega arith) (omega arith) in cc

-- a place has one blank
same_blank : {p q r : ℕ} {s t u : List ℕ} → Blank 64 p s q t → Blank 64 p s r u → q ≡ r
same_blank (white_byte (one h)) (white_byte (one k)) = refl
same_blank (white_byte (one h)) (comment i n) = (let k = comment_begins i in absurd (cc))
same_blank (white_byte (one h)) (discarded d) = (let k = discard_begins d in absurd (cc))
same_blank (comment i n) (white_byte (one h)) = (let k = comment_begins i in absurd (cc))
same_blank (comment {q = q} i n) (comment {q = r} j m) = (let a : q ≤ r = comment_to i j m in let b : r ≤ q = comment_to j i n in omega arith)
same_blank {s = s} (comment i n) (discarded d) = (let k = begins_alike semicolon hash s (comment_begins i) (discard_begins d) in absurd (cc))
same_blank (discarded d) (white_byte (one h)) = (let k = discard_begins d in absurd (cc))
same_blank {s = s} (discarded d) (comment i n) = (let k = begins_alike semicolon hash s (comment_begins i) (discard_begins d) in absurd (cc))
same_blank (discarded (discards (one h) d bs e)) (discarded (discards (one k) f cs g)) = same_end bs e cs g

-- short blanks, the first one first
data Chain : ℕ → List ℕ → ℕ → List ℕ → Type 0 where
  done : {p : ℕ} {s : List ℕ} → Chain p s p s
  step : {p q r : ℕ} {s t u : List ℕ} → Blank 64 p s q t → q ≤ p + longest → Chain q t r u → Chain p s r u

one_more : {p q r : ℕ} {s t u : List ℕ} → Chain p s q t → Blank 64 q t r u → r ≤ q + longest → Chain p s r u
one_more done b le = step b le done
one_more (step d short c) b le = step d short (one_more c b le)

chain_of : {q : ℕ} {s t : List ℕ} → ShortBlanks s q t → Chain 0 s q t
chain_of no_blank_yet = done
chain_of (one_more_short bs b le) = one_more (chain_of bs) b le

chain_rises : {p q : ℕ} {s t : List ℕ} → Chain p s q t → p ≤ q
chain_rises (done {p = p}) = omega arith
chain_rises (step {p = p} {q = q} {r = r} b le c) = let a : p < q = (blank_past b).0 in let d : q ≤ r = chain_rises c in omega arith

rest_of : {p q r : ℕ} {s t u : List ℕ} → Chain p s q t → Chain p s r u → q ≤ r → Chain q t r u
rest_of done c le = c
rest_of (step {p = p} {q = o} {r = q} b short c) done le =
    let a : p < o = (blank_past b).0 in let d : o ≤ q = chain_rises c in absurd (omega arith)
rest_of {r = r} {u = u} (step {q = o} {t = x} b short c) (step {q = i} {t = y} d fits e) le =
    let same : i ≡ o = same_blank d b in
    rest_of c (subst (λ z. Chain o z r u) (same_tail (blank_past d).1 (blank_past b).1 same) (subst (λ n. Chain n y r u) same e)) le

-- behind the nearer of two places there is a short blank
pub next_blank : {p q : ℕ} {s t u : List ℕ} → ShortBlanks s p t → ShortBlanks s q u → p < q → (r : ℕ) × (x : List ℕ) × Blank 64 p t r x × (r ≤ p + longest)
next_blank {p = p} {q = q} {t = t} {u = u} bs cs lt = first_of (rest_of (chain_of bs) (chain_of cs) (omega arith)) lt
  where
    first_of : {p q : ℕ} {t u : List ℕ} → Chain p t q u → p < q → (r : ℕ) × (x : List ℕ) × Blank 64 p t r x × (r ≤ p + longest)
    first_of (done {p = p}) lt = absurd (omega arith)
    first_of (step {q = r} {t = x} b le c) lt = (r, x, b, le)
