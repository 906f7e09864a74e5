-- Numbers that are written and read, and the bytes that stand in no number.
use Rattle.std.proofs.Common.{◌≡◌, ◌==◌, ◌&&◌, not, ℕ, zero, suc, ◌-◌, ◌^◌, ◌<◌, ◌≤◌, Bool, true, false, List, [], ◌∷◌, length, get_or, Some, ℤ, pos, negsuc, neg_ℤ, decimal, option_map, refl, sym, ap, ◌∙◌, true≢false, arith, rules, ne_eqb}
use Rattle.std.specs.Prelude.{if◌then◌else◌}
use Rattle.std.specs.Fmt.{signed_decimal}
use Rattle.std.proofs.lemmas.Fmt.{decimal_nonempty, digits_decimal, digits_value-decimal}
use Rattle.std.proofs.lemmas.Str.Parse.{IsNumeralModel, numerals_by_fold}
use Rattle.lin_bytes.specs.Bytes.{is_digit}
use Rattle.lin_texts.specs.Integers.{all_digits, integer_of, number_of, value_after}
use Rattle.lin_texts.specs.OrderLaws.{HasBits}

pub own : IsNumeralModel (λ ds. all_digits ds ≡ true) (value_after 0)
own = numerals_by_fold _ (search rules) value_after (search rules)

number_of_digits : (most : ℕ) (text : List ℕ) → 0 < length text → all_digits text ≡ true → value_after 0 text ≤ most → number_of most text ≡ Some (value_after 0 text)
number_of_digits most [] some digits within = absurd (omega arith)
number_of_digits most (c ∷ cs) some digits within = grind (arith, rules)

pub number_read : (most n : ℕ) → n < 2 ^ 64 → n ≤ most → number_of most (decimal n) ≡ Some n
number_read most n fits within =
    let value = digits_value-decimal own n fits in
    number_of_digits most (decimal n) (decimal_nonempty n fits) (digits_decimal own n fits) (omega (arith, value)) ∙ ap Some value

pub both : (a b : Bool) → a && b ≡ true → (a ≡ true) × (b ≡ true)
both true b h = (refl, h)
both false b h = absurd (true≢false (sym h))

pub is_not : (b : Bool) → not b ≡ true → b ≡ false
is_not true h = absurd (true≢false (sym h))
is_not false h = refl

-- a byte stands nowhere in a text
abbrev pub avoids : ℕ → List ℕ → Bool
avoids c [] = true
avoids c (x ∷ s) = not (x == c) && avoids c s

avoids_digits : (c : ℕ) (s : List ℕ) → is_digit c ≡ false → all_digits s ≡ true → avoids c s ≡ true
avoids_digits c [] other h = refl
avoids_digits c (x ∷ s) other h =
    let parts = both (is_digit x) (all_digits s) h in
    let differs : (x == c) ≡ false = ne_eqb x c (λ e. true≢false (sym parts.0 ∙ ap is_digit e ∙ other)) in
    ap (λ b. not b && avoids c s) differs ∙ avoids_digits c s other parts.1

pub avoids_at : (c : ℕ) (s : List ℕ) (k : ℕ) → avoids c s ≡ true → k < length s → (get_or s k 0 == c) ≡ false
avoids_at c [] k h inside = absurd (omega arith)
avoids_at c (x ∷ s) zero h inside = is_not (x == c) (both (not (x == c)) (avoids c s) h).0
avoids_at c (x ∷ s) (suc k) h inside = avoids_at c s k (both (not (x == c)) (avoids c s) h).1 (omega arith)

pub avoids_decimal : (c n : ℕ) → is_digit c ≡ false → n < 2 ^ 64 → avoids c (decimal n) ≡ true
avoids_decimal c n other fits = avoids_digits c (decimal n) other (digits_decimal own n fits)

pub avoids_signed : (c : ℕ) (i : ℤ) → is_digit c ≡ false → (45 == c) ≡ false → HasBits i → avoids c (signed_decimal i) ≡ true
avoids_signed c (pos n) other sign fits = avoids_decimal c n other (omega arith)
avoids_signed c (negsuc n) other sign fits = ap (λ b. not b && avoids c (decimal (suc n))) sign ∙ avoids_decimal c (suc n) other (omega arith)

pub some_signed : (i : ℤ) → HasBits i → 0 < length (signed_decimal i)
some_signed (pos n) fits = decimal_nonempty n (omega arith)
some_signed (negsuc n) fits = omega arith

unsigned_read : (text : List ℕ) → 0 < length text → avoids 45 text ≡ true → integer_of text ≡ option_map pos (number_of (2 ^ 63 - 1) text)
unsigned_read [] some h = absurd (omega arith)
unsigned_read (c ∷ cs) some h =
    ap (λ b. if b then option_map (λ n. neg_ℤ (pos n)) (number_of (2 ^ 63) cs) else option_map pos (number_of (2 ^ 63 - 1) (c ∷ cs)))
    (avoids_at 45 (c ∷ cs) 0 h some)

pub integer_read : (i : ℤ) → HasBits i → integer_of (signed_decimal i) ≡ Some i
integer_read (pos n) fits =
    unsigned_read (decimal n) (decimal_nonempty n (omega arith)) (avoids_decimal 45 n refl (omega arith))
    ∙ ap (option_map pos) (number_read (2 ^ 63 - 1) n (omega arith) (omega arith))
integer_read (negsuc n) fits = ap (option_map (λ m. neg_ℤ (pos m))) (number_read (2 ^ 63) (suc n) (omega arith) (omega arith))
