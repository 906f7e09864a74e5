-- Numbers that are too large for their bound.
use Rattle.std.proofs.Common.{◌≡◌, ℕ, suc, ◌+◌, ◌-◌, ◌*◌, ◌<◌, ◌≤◌, List, [], ◌∷◌, None, length, get_or, drop, refl, ap, ◌∙◌, arith, rules, drop-cons}
use Rattle.lin_texts.specs.Integers.{value_after, number_of}

pub value_after-grows : (n : ℕ) (cs : List ℕ) → n ≤ value_after n cs
value_after-grows n [] = omega arith
value_after-grows n (c ∷ cs) =
    let more = value_after-grows (n * 10 + (c - 48)) cs in
    omega arith

pub number_of-too_large : (most : ℕ) (text : List ℕ) → most < value_after 0 text → None ≡ number_of most text
number_of-too_large most [] large = refl
number_of-too_large most (c ∷ cs) large = grind (arith, rules)

-- a number whose next digit makes it too large
pub number_of-overflows : (most n i : ℕ) (text : List ℕ) → i < length text → value_after 0 text ≡ value_after n (drop i text)
    → most < n * 10 + (get_or text i 0 - 48) → None ≡ number_of most text
number_of-overflows most n i text inside same large =
    let next = n * 10 + (get_or text i 0 - 48) in
    let step : value_after 0 text ≡ value_after next (drop (suc i) text) = same ∙ ap (value_after n) (drop-cons text i 0 inside) in
    let grows = value_after-grows next (drop (suc i) text) in
    number_of-too_large most text (omega arith)
