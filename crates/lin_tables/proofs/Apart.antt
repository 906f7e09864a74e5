-- Words that differ are told by different texts.
use Rattle.std.proofs.Common.{◌≡◌, ◌<◌, ◌≤◌, ◌-◌, ◌/◌, ◌%◌, ◌==◌, ◌&&◌, ◌||◌, ◌⊎◌, inl, inr, not, ℕ, zero, suc, ℤ, pos, negsuc, Bool, true, false, List, [], ◌∷◌, ◌++◌, ap, refl, sym, subst, ◌∙◌, codes, drop, get_or, length, take, slice_index_or, arith, if◌then◌else◌, length-append}
use Rattle.std.specs.Fmt.{digit_glyph, digits, digits_onto, signed_decimal}
use Rattle.std.proofs.lemmas.Bool.{cases_lt}
use Rattle.std.proofs.lemmas.List.{length-drop, length-take}
use Rattle.std.proofs.lemmas.List.Folds.{list_any-append, list_any_at}
use Rattle.std.proofs.lemmas.Option.{get_or_from_slice_get, slice_get_within}
use Rattle.std.proofs.lemmas.Slice.Eq.{bytes_eq-Decides}
use Rattle.std.specs.List.{list_any}
use Rattle.std.specs.Str.{bytes_eq}
use Rattle.lin_names.specs.Names.{IsSpelling}
use Rattle.lin_tables.specs.Shortening.{begins_letter, from_letter, is_double, letter_at, short_text, short_word}
use Rattle.lin_tables.proofs.Letters.{short_cut, short_whole}
use Rattle.lin_tables.proofs.Shortened.{short_word_double, short_word_single}

letter_below : (text : List ℕ) (at : ℕ) → letter_at text at ≤ at
unfolding letter_at
letter_below text zero = omega arith
letter_below text (suc at) = by (begins_letter (slice_index_or text (suc at) 0)) (letter_below text at)
  where
    by : (b : Bool) → letter_at text at ≤ at → (if b then suc at else letter_at text at) ≤ suc at
    by true below = omega arith
    by false below = omega (arith, below)

letters_fewer : (text : List ℕ) → length (from_letter text) ≤ length text
unfolding from_letter
letters_fewer [] = omega arith
letters_fewer (byte ∷ text) = by (begins_letter byte) (letters_fewer text)
  where
    by : (b : Bool) → length (from_letter text) ≤ length text → length (if b then byte ∷ text else from_letter text) ≤ suc (length text)
    by true fewer = omega arith
    by false fewer = omega (arith, fewer)

-- a short text is short, and one that is cut has its dots
short_enough : (word : List ℕ) → length (short_text word) ≤ 24
short_enough word = elim (cases_lt 24 (length word)) [
  | inl long ↦
      let front = take (letter_at word 10) word in
      let last = drop (length word - 11) word in
      let below = letter_below word 10 in
      let fewer = letters_fewer last in
      let most = length-take (letter_at word 10) word in
      let rest = length-drop (length word - 11) word in
      let joined = length-append (front ++ codes "...") (from_letter last) in
      let begun = length-append front (codes "...") in
      subst (λ l. length l ≤ 24) (sym (short_cut word long)) (omega (arith, long, below, fewer, most, rest, joined, begun))
  | inr short ↦ subst (λ l. length l ≤ 24) (sym (short_whole word short)) short
]

abbrev is_dot : ℕ → Bool
is_dot c = c == 46

has_dots : (word : List ℕ) → 24 < length word → list_any is_dot (short_text word) ≡ true
has_dots word long =
    let front = take (letter_at word 10) word in
    let last = from_letter (drop (length word - 11) word) in
    ap (list_any is_dot) (short_cut word long) ∙ list_any-append is_dot (front ++ codes "...") last
    ∙ ap (λ b. b || list_any is_dot last) (list_any-append is_dot front (codes "...") ∙ or_true (list_any is_dot front))
  where
    or_true : (b : Bool) → (b || true) ≡ true
    or_true true = refl
    or_true false = refl

-- a text without dots tells one word alone
pub undotted : (names : List (List ℕ)) (word text : List ℕ) → list_any is_dot text ≡ false → short_word names word ≡ text → word ≡ text
undotted names word text none told = by (list_any (is_double word) names) refl
  where
    cut : short_text word ≡ text → word ≡ text
    cut same = elim (cases_lt 24 (length word)) [
      | inl long ↦ let dots = has_dots word long in let same_dots = ap (list_any is_dot) same in cc
      | inr short ↦ sym (short_whole word short) ∙ same
    ]

    by : (b : Bool) → list_any (is_double word) names ≡ b → word ≡ text
    by true some = sym (short_word_double names word some) ∙ told
    by false single = cut (sym (short_word_single names word single) ∙ told)

-- where none has the short text of a word, none of the others has it
one_alone : (names : List (List ℕ)) (word other : List ℕ) (n : ℕ) → IsSpelling names other n → list_any (is_double word) names ≡ false → short_text other ≡ short_text word → other ≡ word
one_alone names word other n is none same = by (bytes_eq other word) refl
  where
    here : get_or names n [] ≡ other
    here = get_or_from_slice_get names n other [] is

    by : (b : Bool) → bytes_eq other word ≡ b → other ≡ word
    by true yes' = (bytes_eq-Decides other word).0 yes'
    by false no' =
        let tells : is_double word other ≡ true = ap (λ b. b && not (bytes_eq other word)) ((bytes_eq-Decides (short_text other) (short_text word)).1 same) ∙ ap not no' in
        let some = list_any_at (is_double word) names n [] (slice_get_within names n other is) (ap (is_double word) here ∙ tells) in
        cc

-- a word that is told: one of the names, or one that has no spelling
abbrev pub IsTold : List (List ℕ) → List ℕ → Type 0
IsTold names word = ((n : ℕ) × IsSpelling names word n) ⊎ (word ≡ [])

nothing_short : (word : List ℕ) → short_text word ≡ [] → word ≡ []
nothing_short word none = elim (cases_lt 24 (length word)) [
  | inl long ↦ let dots = has_dots word long in let same = ap (list_any is_dot) none in cc
  | inr short ↦ sym (short_whole word short) ∙ none
]

-- of two that have the same short text each is told as it stands
both_cut : (names : List (List ℕ)) (one other : List ℕ) → IsTold names one → IsTold names other → list_any (is_double one) names ≡ false → list_any (is_double other) names ≡ false
    → short_text one ≡ short_text other → one ≡ other
both_cut names one other (inl there) also single alone same = one_alone names other one there.0 there.1 alone same
both_cut names one other (inr none) (inl there) single alone same = sym (one_alone names one other there.0 there.1 single (sym same))
both_cut names one other (inr none) (inr nothing) single alone same = none ∙ sym nothing

one_cut : (names : List (List ℕ)) (whole other : List ℕ) → IsTold names whole → list_any (is_double other) names ≡ false → whole ≡ short_text other → whole ≡ other
one_cut names whole other (inl there) single same =
    let short = subst (λ l. length l ≤ 24) (sym same) (short_enough other) in
    one_alone names other whole there.0 there.1 single (short_whole whole short ∙ same)
one_cut names whole other (inr none) single same = none ∙ sym (nothing_short other (sym same ∙ none))

pub words_apart : (names : List (List ℕ)) (one other : List ℕ) → IsTold names one → IsTold names other → short_word names one ≡ short_word names other → one ≡ other
words_apart names one other is also told = by (list_any (is_double one) names) (list_any (is_double other) names) refl refl
  where
    by : (b d : Bool) → list_any (is_double one) names ≡ b → list_any (is_double other) names ≡ d → one ≡ other
    by true true some more = sym (short_word_double names one some) ∙ told ∙ short_word_double names other more
    by true false some alone = one_cut names one other is alone (sym (short_word_double names one some) ∙ told ∙ short_word_single names other alone)
    by false true single more = sym (one_cut names other one also single (sym (short_word_double names other more) ∙ sym told ∙ short_word_single names one single))
    by false false single alone = both_cut names one other is also single alone (sym (short_word_single names one single) ∙ told ∙ short_word_single names other alone)

-- numbers have no dots
undotted_digit : (d : ℕ) (text : List ℕ) → d < 10 → list_any is_dot text ≡ false → list_any is_dot (digit_glyph false d ∷ text) ≡ false
undotted_digit d text below none = grind arith

either : (b : Bool) (one other : List ℕ) → list_any is_dot one ≡ false → list_any is_dot other ≡ false → list_any is_dot (if b then one else other) ≡ false
either true one other is also = is
either false one other is also = also

undotted_onto : (k n : ℕ) (text : List ℕ) → list_any is_dot text ≡ false → list_any is_dot (digits_onto k 10 false n text) ≡ false
undotted_onto zero n text none = none
undotted_onto (suc k) n text none =
    let more = undotted_digit (n % 10) text (omega arith) none in
    either (n / 10 == 0) (digit_glyph false (n % 10) ∷ text) (digits_onto k 10 false (n / 10) (digit_glyph false (n % 10) ∷ text)) more
    (undotted_onto k (n / 10) (digit_glyph false (n % 10) ∷ text) more)

undotted_decimal : (n : ℕ) → list_any is_dot (digits 10 false n) ≡ false
unfolding digits
undotted_decimal n = undotted_onto 64 n [] refl

pub undotted_number : (i : ℤ) → list_any is_dot (signed_decimal i) ≡ false
undotted_number (pos n) = undotted_decimal n
undotted_number (negsuc n) = undotted_decimal (suc n)
