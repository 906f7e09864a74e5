-- Texts with no byte that is escaped.
use Rattle.std.proofs.Common.{◌≡◌, ◌<◌, ◌/◌, ◌%◌, ◌==◌, ◌∙◌, ◌⊎◌, inl, inr, subst, sym, ℕ, zero, ℤ, pos, negsuc, suc, Bool, true, false, List, [], ◌∷◌, ◌++◌, if◌then◌else◌, ap, refl, arith}
use Rattle.std.specs.Fmt.{digit_glyph, digits, digits_onto, signed_decimal}
use Rattle.std.specs.List.{flat_map}
use Rattle.lin_texts.specs.Items.{spelled_text}
use Rattle.lin_names.specs.Spelled.{seen, truth}
use Rattle.lin_names.specs.declared.said.Said.{Said}
use Rattle.lin_names.specs.declared.said.Said.TheVariants.{Int, Bool as Truth}
use Rattle.lin_json.specs.Strings.{byte_json}

abbrev IsPlain : List ℕ → Type 0
IsPlain text = flat_map byte_json text ≡ text

plain_digit : (d : ℕ) → d < 10 → byte_json (digit_glyph false d) ≡ digit_glyph false d ∷ []
plain_digit d below = grind arith

with_digit : (d : ℕ) (text : List ℕ) → d < 10 → IsPlain text → IsPlain (digit_glyph false d ∷ text)
with_digit d text below plain = ap (λ l. l ++ flat_map byte_json text) (plain_digit d below) ∙ ap (λ l. digit_glyph false d ∷ l) plain

either : (b : Bool) (one other : List ℕ) → IsPlain one → IsPlain other → IsPlain (if b then one else other)
either true one other is also = is
either false one other is also = also

plain_onto : (k n : ℕ) (text : List ℕ) → IsPlain text → IsPlain (digits_onto k 10 false n text)
plain_onto zero n text plain = plain
plain_onto (suc k) n text plain =
    let more = with_digit (n % 10) text (omega arith) plain in
    either (n / 10 == 0) (digit_glyph false (n % 10) ∷ text) (digits_onto k 10 false (n / 10) (digit_glyph false (n % 10) ∷ text)) more
    (plain_onto k (n / 10) (digit_glyph false (n % 10) ∷ text) more)

plain_decimal : (n : ℕ) → IsPlain (digits 10 false n)
unfolding digits
plain_decimal n = plain_onto 64 n [] refl

-- an integer
pub plain_number : (i : ℤ) → flat_map byte_json (signed_decimal i) ≡ signed_decimal i
plain_number (pos n) = plain_decimal n
plain_number (negsuc n) = ap (λ l. 45 ∷ l) (plain_decimal (suc n))

-- what is said of an item that is no word
pub plain_said : (said : Said) → ((i : ℤ) × (said ≡ Int i)) ⊎ ((b : Bool) × (said ≡ Truth b)) → IsPlain (spelled_text (seen said))
plain_said said (inl is) = subst (λ s. IsPlain (spelled_text (seen s))) (sym is.1) (plain_number is.0)
plain_said said (inr is) = subst (λ s. IsPlain (spelled_text (seen s))) (sym is.1) (plain_truth is.0)
  where
    plain_truth : (b : Bool) → IsPlain (spelled_text (truth b))
    plain_truth true = refl
    plain_truth false = refl
