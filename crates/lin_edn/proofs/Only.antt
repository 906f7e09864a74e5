-- What the definition allows is what the machine answers.
use Rattle.std.proofs.Common.{◌≡◌, ℕ, ◌+◌, ◌≤◌, ◌<◌, inl, inr, Bool, true, false, List, [], ◌∷◌, ◌++◌, length, take, drop, get_or, refl, sym, ap, ◌∙◌, subst, arith, append_assoc, take-append-drop, length-append, length-take-le}
use Rattle.std.proofs.lemmas.Bool.{cases_lt}
use Rattle.std.proofs.lemmas.List.{get_or-take, get_or_append_left}
use Rattle.lin_bytes.specs.Bytes.{class, white, semicolon, hash, is_newline}
use Rattle.lin_edn.specs.Grammar.{one, Comment, goes, Discard, Blank, white_byte, comment, discarded, Element, longest, ShortBlanks, spells, nothing_more, open_comment, Whole, an_element, a_discard, Thing, element_or_discard, a_comment, IsUnfinished, IsTooLong, IsInReach}
use Rattle.lin_edn.specs.inner.Machine.{Answer, complete, blank, partial, fault, too_long, run, between}
use Rattle.lin_edn.specs.Reading.{IsWrong}
use Rattle.lin_edn.specs.Value.{Value}
use Rattle.lin_edn.specs.declared.EdnCause.{EdnCause}
use Rattle.lin_edn.proofs.Back.{What, what}
use Rattle.lin_edn.proofs.Chains.{Begins, begins_alike, begins_longer, comment_begins, discard_begins, next_blank}
use Rattle.lin_edn.proofs.Forth.{short_run, long_run, blank_run, element_run}
use Rattle.lin_edn.proofs.Fronts.{Facts, facts_of, long, positive}
use Rattle.lin_edn.specs.lemmas.Longer.{blanks_stay, blank_longer, comment_longer, element_longer}
use Rattle.lin_edn.proofs.Order.{AnswerOrder, run_order, wider, run_more, fault_less}
use Rattle.lin_edn.specs.lemmas.Rising.{blank_past, element_past}
use Rattle.lin_edn.proofs.Sizes.{blanks_sized, comment_sized, least_inside, short_tail, same_tail, tail_byte}
use Rattle.lin_edn.proofs.Sound.{too_long_of}
use Rattle.lin_edn.proofs.Wrong.{faulty_run}

-- what stands behind blanks, with a limit that is great enough
element_told : (most : ℕ) {p q : ℕ} {s t u : List ℕ} {v : Value} → ShortBlanks s p t → Element 64 p t v q u → q ≤ most → run most 0 [] between s ≡ complete v p q
element_told most {p = p} {q = q} bs e le =
    let a : p < q = (element_past e).0 in long_run most (long bs) (omega arith) ∙ element_run most e [] (omega arith) (omega arith)

-- what is answered begins behind a blank
behind_blank : (most : ℕ) {p q : ℕ} {s t u : List ℕ} → ShortBlanks s p t → Blank 64 p t q u → q ≤ most → AnswerOrder q (run most 0 [] between s)
behind_blank most {p = p} {q = q} {u = u} bs b le =
    let a : p < q = (blank_past b).0 in
    subst (AnswerOrder q) (sym (long_run most (long bs) (omega arith) ∙ blank_run most b [] (omega arith) (omega arith))) (run_order most q u q [] between (omega arith) (omega arith))

behind_blanks : {p : ℕ} {s t : List ℕ} → ShortBlanks s p t → AnswerOrder p (run longest 0 [] between s)
behind_blanks {p = p} {t = t} bs = subst (AnswerOrder p) (sym (short_run bs)) (run_order longest p t p [] between (omega arith) (omega arith))

-- a place has no blank and element
not_both : {p q r : ℕ} {s t u x y : List ℕ} {v : Value} → ShortBlanks s p t → Blank 64 p t q u → ShortBlanks s p x → Element 64 p x v r y → ⊥
not_both {p = p} {q = q} {r = r} bs b cs e =
    let lt : p < q = (blank_past b).0 in
    let order : q ≤ p = subst (AnswerOrder q) (element_told (q + r) cs e (omega arith)) (behind_blank (q + r) bs b (omega arith)) in
    omega arith

-- where a whole element or discard stands behind a blank's first byte, the blank is a discard
whole_begins : {p q r : ℕ} {s t u : List ℕ} → Whole s p q → ShortBlanks s p t → Blank 64 p t r u → Begins hash t
whole_begins (an_element cs e) bs b = absurd (not_both bs b cs e)
whole_begins (a_discard cs d) bs b = subst (Begins hash) (same_tail (short_tail cs) (short_tail bs) refl) (discard_begins d)

discard_of : {n p q : ℕ} {t u : List ℕ} (x : List ℕ) → Blank n p t q u → Begins hash (t ++ x) → Discard n p t q u
discard_of x (white_byte (one h)) b = absurd (cc)
discard_of {t = t} x (comment i n) b = (let e = begins_alike semicolon hash (t ++ x) (begins_longer semicolon t x (comment_begins i)) b in absurd (cc))
discard_of x (discarded d) b = d

-- a comment ends where a newline comes
closed_comment : {n p : ℕ} {t : List ℕ} (q : ℕ) (x : List ℕ) → Comment p t q (x ++ 10 ∷ []) → (r : ℕ) × (y : List ℕ) × Blank n p t r y
closed_comment q [] i = (q + 1, [], comment i refl)
closed_comment {n = n} {p = p} {t = t} q (c ∷ x) i = by (is_newline c) refl (λ h. closed_comment (q + 1) x (goes i h))
  where
    by : (b : Bool) → is_newline c ≡ b → (is_newline c ≡ false → (r : ℕ) × (y : List ℕ) × Blank n p t r y) → (r : ℕ) × (y : List ℕ) × Blank n p t r y
    by true h more = (q + 1, x ++ 10 ∷ [], comment i h)
    by false h more = more h

-- where a comment stands that has no end, no text goes on with a whole element or discard
comment_alone : {p q r : ℕ} {s t : List ℕ} (x : List ℕ) → ShortBlanks s p t → Comment p t q [] → Whole (s ++ x) p r → ⊥
comment_alone {p = p} {q = q} {s = s} {t = t} x bs i (an_element {t = y} cs e) =
    let c = closed_comment {n = 64} q x (comment_longer i (x ++ 10 ∷ [])) in
    not_both (blanks_stay bs (x ++ 10 ∷ [])) c.2 (subst (λ l. ShortBlanks l p (y ++ 10 ∷ [])) (append_assoc s x (10 ∷ [])) (blanks_stay cs (10 ∷ []))) (element_longer e (10 ∷ []))
comment_alone {s = s} {t = t} x bs i (a_discard cs d) =
    let b = begins_alike semicolon hash (t ++ x) (begins_longer semicolon t x (comment_begins i))
    (subst (Begins hash) (same_tail (short_tail cs) (short_tail (blanks_stay bs x)) refl) (discard_begins d)) in cc

-- what is unfinished
no_blank_behind : (s : List ℕ) (p : ℕ) → (h : IsUnfinished s p) → {o : ℕ} {u : List ℕ} → ShortBlanks s o u → p < o → ⊥
no_blank_behind s p h cs lt =
    let bs : ShortBlanks s p h.3 = h.4 in
    let b = next_blank bs cs lt in
    h.2 b.0 b.3 (a_discard bs (discard_of h.5 b.2 (whole_begins h.8 (blanks_stay bs h.5) (blank_longer b.2 h.5))))

here_or_behind : (p o : ℕ) → p ≤ o → (p < o → ⊥) → p ≡ o
here_or_behind p o le not = elim (cases_lt p o) [
  | inl lt ↦ absurd (not lt)
  | inr ge ↦ omega arith
]

no_fault_within : (s : List ℕ) (p : ℕ) (h : IsUnfinished s p) (j i : ℕ) (k : EdnCause) → run longest 0 [] between s ≡ fault j i k → j < length s → ⊥
no_fault_within s p h j i k e lt = by h.8
  where
    told : (most : ℕ) → longest ≤ most → run most 0 [] between (s ++ h.5) ≡ fault j i k
    told most le = wider longest most le (s ++ h.5) 0 [] between (fault j i k) (λ o f. cc) (run_more longest 0 s h.5 [] between (fault j i k) tt e)

    by : Whole (s ++ h.5) p h.6 → ⊥
    by (an_element cs x) = (let a = told (longest + h.6) (omega arith) in let b = element_told (longest + h.6) cs x (omega arith) in cc)
    by (a_discard cs d) =
        let later : h.6 ≤ j = subst (AnswerOrder h.6) (told (longest + h.6) (omega arith)) (behind_blank (longest + h.6) cs (discarded d) (omega arith)) in
        let end : length s ≤ h.6 = h.7 in omega arith

unfinished_is : (s : List ℕ) (p : ℕ) (h : IsUnfinished s p) (a : Answer) → run longest 0 [] between s ≡ a → What s a → Facts s a → AnswerOrder p a → a ≡ partial p
unfinished_is s p h (complete v o r) e (spells bs x short) f le =
    let here : p ≡ o = here_or_behind p o le (no_blank_behind s p h bs) in
    absurd (h.2 r (omega arith) (subst (λ n. Whole s n r) (sym here) (an_element bs x)))
unfinished_is s p h (blank o) e (nothing_more bs) f le =
    let size : length s ≡ o + 0 = blanks_sized bs in
    let inside : p < length s = h.0 in absurd (no_blank_behind s p h bs (omega arith))
unfinished_is s p h (blank o) e (open_comment {t = t} bs i short) f le =
    let here : p ≡ o = here_or_behind p o le (no_blank_behind s p h bs) in
    absurd (comment_alone h.5 bs i (subst (λ n. Whole (s ++ h.5) n h.6) here h.8))
unfinished_is s p h (partial o) e w f le = ap partial (sym (here_or_behind p o le (no_blank_behind s p h f.2.1)))
unfinished_is s p h (fault j i k) e w f le = absurd (no_fault_within s p h j i k e (least_inside s j f))
unfinished_is s p h (too_long o) e w f le = (let a : o + longest < length s = f.0 in let b : length s ≤ p + longest = h.1 in absurd (omega arith))

pub unfinished_run : (s : List ℕ) (p : ℕ) → IsUnfinished s p → run longest 0 [] between s ≡ partial p
unfinished_run s p h = unfinished_is s p h (run longest 0 [] between s) refl (what s) (facts_of s) (behind_blanks h.4)

-- the same first byte
first_byte : {p c : ℕ} {s t : List ℕ} → ShortBlanks s p (c ∷ t) → c ≡ get_or s p 0
first_byte {p = p} {s = s} bs = tail_byte (short_tail bs) 0 ∙ ap (λ n. get_or s n 0) (omega arith)

begins_white : {p : ℕ} {s t : List ℕ} → ShortBlanks s p t → p < length s → class (get_or s p 0) ≡ white → Begins white t
begins_white {p = p} {s = s} {t = []} bs lt h = (let e : length s ≡ p + 0 = blanks_sized bs in absurd (omega arith))
begins_white {t = c ∷ t} bs lt h = ap class (first_byte bs) ∙ h

thing_blanks : {s : List ℕ} {p q : ℕ} → Thing s p q → (t : List ℕ) × ShortBlanks s p t
thing_blanks (element_or_discard (an_element {t = t} bs e)) = (t, bs)
thing_blanks (element_or_discard (a_discard {t = t} bs d)) = (t, bs)
thing_blanks (a_comment {t = t} bs i h) = (t, bs)

-- no white byte begins a thing
no_white : {p q : ℕ} {s t : List ℕ} → Thing s p q → ShortBlanks s p t → Begins white t → ⊥
no_white {t = []} w bs b = absurd b
no_white {t = c ∷ t} (element_or_discard w) bs b = (let e = begins_alike white hash (c ∷ t) b (whole_begins w bs (white_byte (one b))) in cc)
no_white {t = c ∷ t} (a_comment cs i h) bs b =
    let e = begins_alike white semicolon (c ∷ t) b (subst (Begins semicolon) (same_tail (short_tail cs) (short_tail bs) refl) (comment_begins i)) in cc

-- what is too long
no_white_there : (s x : List ℕ) (p n q c : ℕ) (t : List ℕ) → ShortBlanks s p (c ∷ t) → class c ≡ white → p < n → n < length s → Thing (take n s ++ x) p q → ⊥
no_white_there s x p n q c t bs h lt le w =
    let cs = thing_blanks w in
    let size : length (take n s) ≡ n = length-take-le n s (omega arith) in
    let all : length (take n s ++ x) ≡ length (take n s) + length x = length-append (take n s) x in
    let same : get_or (take n s ++ x) p 0 ≡ c = get_or_append_left (take n s) x 0 p (omega arith) ∙ get_or-take n s p 0 lt ∙ sym (first_byte bs) in
    no_white w cs.1 (begins_white cs.1 (omega arith) (ap class same ∙ h))

blank_alone : (s : List ℕ) (p : ℕ) → IsTooLong s p → {r : ℕ} {t x : List ℕ} → ShortBlanks s p t → Blank 64 p t r x → r ≤ p + longest → ⊥
blank_alone s p h bs (white_byte {s = u} {t = t} (one {b = c} k)) le =
    let pos : 0 < longest = positive in no_white_there s h.4 p (p + longest) h.5 c t bs k (omega arith) h.0 h.7
blank_alone s p h {r = r} bs (comment i n) le = h.1 r le (a_comment bs i n)
blank_alone s p h {r = r} bs (discarded d) le = h.1 r le (element_or_discard (a_discard bs d))

no_thing_behind : (s : List ℕ) (p : ℕ) → IsTooLong s p → {o : ℕ} {u : List ℕ} → ShortBlanks s o u → p < o → ⊥
no_thing_behind s p h cs lt =
    let bs : ShortBlanks s p h.2 = h.3 in
    let b = next_blank bs cs lt in blank_alone s p h bs b.2 b.3

-- a fault within reach, and what is too long, exclude each other
no_fault_before : (s : List ℕ) (p j i : ℕ) (k : EdnCause) → (h : IsTooLong s p) → ((most : ℕ) → longest + j < most → run most 0 [] between s ≡ fault j i k) → j < p + longest → ⊥
no_fault_before s p j i k h told lt = by h.7 (omega arith) h.6
  where
    most : ℕ
    most = longest + j + h.5 + 1

    front : List ℕ
    front = take (p + longest) s

    goes : run most 0 [] between (front ++ h.4) ≡ fault j i k
    goes =
        let inside : p + longest < length s = h.0 in
        let size : length front ≡ p + longest = length-take-le (p + longest) s (omega arith) in
        let whole : run most 0 [] between (front ++ drop (p + longest) s) ≡ fault j i k =
        ap (run most 0 [] between) (take-append-drop (p + longest) s) ∙ told most (omega arith) in
        run_more most 0 front h.4 [] between (fault j i k) tt
        (fault_less most 0 j i k front (drop (p + longest) s) [] between (omega arith) (omega arith) whole)

    blank_case : {r : ℕ} {t u : List ℕ} → ShortBlanks (front ++ h.4) p t → Blank 64 p t r u → r ≤ most → p + longest ≤ r → ⊥
    blank_case {r = r} bs b le far = (let later : r ≤ j = subst (AnswerOrder r) goes (behind_blank most bs b le) in omega arith)

    by : {q : ℕ} → Thing (front ++ h.4) p q → q ≤ most → p + longest ≤ q → ⊥
    by (element_or_discard (an_element bs e)) le far = (let a = element_told most bs e le in let b = goes in cc)
    by (element_or_discard (a_discard bs d)) le far = blank_case bs (discarded d) le far
    by (a_comment bs i n) le far = blank_case bs (comment i n) le far

no_fault_too_long : (s : List ℕ) (p j i : ℕ) (k : EdnCause) → IsTooLong s p → IsInReach s j → ((most : ℕ) → longest + j < most → run most 0 [] between s ≡ fault j i k) → ⊥
no_fault_too_long s p j i k h reach told = elim (cases_lt j (p + longest)) [
  | inl lt ↦ no_fault_before s p j i k h told lt
  | inr ge ↦ no_thing_behind s p h reach.2 (let near : j < reach.0 + longest = reach.4 in omega arith)
]

too_long_is : (s : List ℕ) (p : ℕ) (h : IsTooLong s p) (a : Answer) → run longest 0 [] between s ≡ a → What s a → Facts s a → AnswerOrder p a → a ≡ too_long p
too_long_is s p h (complete v o r) e (spells bs x short) f le =
    let here : p ≡ o = here_or_behind p o le (no_thing_behind s p h bs) in
    absurd (h.1 r (omega arith) (subst (λ n. Thing s n r) (sym here) (element_or_discard (an_element bs x))))
too_long_is s p h (blank o) e (nothing_more bs) f le =
    let size : length s ≡ o + 0 = blanks_sized bs in
    let inside : p + longest < length s = h.0 in absurd (no_thing_behind s p h bs (omega arith))
too_long_is s p h (blank o) e (open_comment {r = r} {t = t} bs i short) f le =
    let here : p ≡ o = here_or_behind p o le (no_thing_behind s p h bs) in
    let size : length s ≡ o + length t = blanks_sized bs in
    let end : o + length t ≡ r + 0 = comment_sized i in
    let inside : p + longest < length s = h.0 in absurd (omega arith)
too_long_is s p h (partial o) e w f le =
    let here : p ≡ o = here_or_behind p o le (no_thing_behind s p h f.2.1) in
    let inside : p + longest < length s = h.0 in
    let short : length s ≤ o + longest = f.1 in absurd (omega arith)
too_long_is s p h (fault j i k) e w f le = absurd (no_fault_too_long s p j i k h w.1 (λ most lt. wider longest most (omega arith) s 0 [] between (fault j i k) (λ o g. cc) e))
too_long_is s p h (too_long o) e w f le = ap too_long (sym (here_or_behind p o le (no_thing_behind s p h f.1.1)))

pub too_long_run : (s : List ℕ) (p : ℕ) → IsTooLong s p → run longest 0 [] between s ≡ too_long p
too_long_run s p h = too_long_is s p h (run longest 0 [] between s) refl (what s) (facts_of s) (behind_blanks h.3)

-- what is wrong
wrong_is : (s : List ℕ) (i : ℕ) (k : EdnCause) (h : IsWrong s i k) (a : Answer) → run longest 0 [] between s ≡ a → ((p : ℕ) → a ≡ too_long p → ⊥) → a ≡ fault h.0 i k
wrong_is s i k h a e short = sym (wider longest (longest + h.0 + 1) (omega arith) s 0 [] between a short e) ∙ faulty_run (longest + h.0 + 1) h.3 (omega arith)

pub wrong_run : (s : List ℕ) (i : ℕ) (k : EdnCause) (h : IsWrong s i k) → run longest 0 [] between s ≡ fault h.0 i k
wrong_run s i k h = wrong_is s i k h (run longest 0 [] between s) refl
    (λ p e. no_fault_too_long s p h.0 i k (too_long_of s p e) h.2 (λ most lt. faulty_run most h.3 (omega arith)))
