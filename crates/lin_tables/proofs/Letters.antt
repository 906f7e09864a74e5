-- Where a text is cut.
use native.Mathlib.Numerals.{unary_clauses}
use Rattle.std.proofs.Common.{◌≡◌, ◌+◌, ◌-◌, ◌<◌, ◌≤◌, ℕ, zero, suc, List, [], ◌∷◌, ◌++◌, true, false, ap, refl, sym, ◌∙◌, codes, drop, length, slice_index_or, take, arith, if◌then◌else◌, Result, Ok, Err, OnOk, is_ok}
use Rattle.std.proofs.lemmas.Bool.{le-leb, lt-leb}
use Rattle.std.proofs.lemmas.List.{drop_all}
use Rattle.lin_tables.specs.Shortening.{begins_letter, from_letter, letter_at, short_text}

-- a letter may begin there
pub letter_here : (text : List ℕ) (at : ℕ) → begins_letter (slice_index_or text at 0) ≡ true → at ≡ letter_at text at
unfolding letter_at
letter_here text zero here = refl
letter_here text (suc at) here = sym (ap (λ b. if b then suc at else letter_at text at) here)

-- none may
pub letter_back : (text : List ℕ) (at : ℕ) → 0 < at → begins_letter (slice_index_or text at 0) ≡ false → letter_at text (at - 1) ≡ letter_at text at
unfolding letter_at
letter_back text zero behind none = absurd (omega (arith, behind))
letter_back text (suc at) behind none = simp unary_clauses (sym (ap (λ b. if b then suc at else letter_at text at) none))

pub letter_first : (text : List ℕ) (at : ℕ) → at ≤ 0 → at ≡ letter_at text at
unfolding letter_at
letter_first text zero first = refl
letter_first text (suc at) first = absurd (omega (arith, first))

-- from the end on there is nothing
pub none_from : (text : List ℕ) (at : ℕ) → length text ≤ at → drop at text ≡ from_letter (drop at text)
unfolding from_letter
none_from text at end = drop_all at text end ∙ sym (ap from_letter (drop_all at text end))

-- a letter may begin there
pub letter_from_here : (text : List ℕ) (at : ℕ) → at < length text → begins_letter (slice_index_or text at 0) ≡ true → drop at text ≡ from_letter (drop at text)
unfolding from_letter
letter_from_here [] at inside here = absurd (omega (arith, inside))
letter_from_here (byte ∷ text) zero inside here = sym (ap (λ b. if b then byte ∷ text else from_letter text) here)
letter_from_here (byte ∷ text) (suc at) inside here = letter_from_here text at (omega (arith, inside)) here

-- none may
letter_next : (text : List ℕ) (at : ℕ) → at < length text → begins_letter (slice_index_or text at 0) ≡ false → from_letter (drop (suc at) text) ≡ from_letter (drop at text)
unfolding from_letter
letter_next [] at inside none = absurd (omega (arith, inside))
letter_next (byte ∷ text) zero inside none = sym (ap (λ b. if b then byte ∷ text else from_letter text) none)
letter_next (byte ∷ text) (suc at) inside none = letter_next text at (omega (arith, inside)) none

pub letter_on : (text : List ℕ) (at : ℕ) → at < length text → begins_letter (slice_index_or text at 0) ≡ false → from_letter (drop (at + 1) text) ≡ from_letter (drop at text)
letter_on text at inside none = simp unary_clauses (letter_next text at inside none)

pub short_whole : (text : List ℕ) → length text ≤ 24 → short_text text ≡ text
unfolding short_text
short_whole text short = ap (λ b. if b then text else take (letter_at text 10) text ++ codes "..." ++ from_letter (drop (length text - 11) text)) (le-leb _ _ short)

pub short_cut : (text : List ℕ) → 24 < length text → short_text text ≡ take (letter_at text 10) text ++ codes "..." ++ from_letter (drop (length text - 11) text)
unfolding short_text
short_cut text long = ap (λ b. if b then text else take (letter_at text 10) text ++ codes "..." ++ from_letter (drop (length text - 11) text)) (lt-leb _ _ long)

pub put_ok : {T E : Type 0} (r : Result T E) (new all old wanted : List ℕ) → new ≡ (if is_ok r then all else old) → all ≡ wanted → OnOk r (new ≡ wanted)
put_ok (Ok x) new all old wanted put is = put ∙ is
put_ok (Err e) new all old wanted put is = tt
