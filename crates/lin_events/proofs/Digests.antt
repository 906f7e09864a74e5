-- Digests of lists of items: sums to which an item can be put at the end, and taken off at the begin.
use Rattle.std.proofs.Common.{◌≡◌, ℕ, zero, suc, ◌+◌, ◌*◌, ◌^◌, ◌%◌, ◌-◌, ◌≤◌, List, [], ◌∷◌, ◌++◌, length, drop, refl, ap, sym, ◌∙◌, arith}
use Rattle.std.specs.List.{insert}
use Rattle.std.proofs.Math.Nat.{mul_assoc, mul_comm, mul_left_comm, mul-add, add-mul, mul-one, pow-zero, pow-succ', mod-add-mod, add-mod-mod, add-mod_right, add-mul-mod_self_left}
use Rattle.std.proofs.lemmas.Nat.{mul-mod_first, mul-mod_second}
use Rattle.std.proofs.lemmas.List.Edits.{insert_end}
use Rattle.lin_events.specs.declared.items.Item.{Item}
use Rattle.lin_events.specs.Items.{code_of, digest_of, factor, weighed}

-- below this all digests are
abbrev bound : ℕ
bound = 18446744073709551616

-- by what the factor is taken off
abbrev inverse : ℕ
inverse = 17428512612931826493

inverts : factor * inverse ≡ 1 + bound * 10771413168148108919
inverts = refl

regrouped : (c f s w p : ℕ) → c + f * (s + w * p) ≡ c + f * s + w * (f * p)
regrouped c f s w p =
    let parts : f * (s + w * p) ≡ f * s + f * (w * p) = mul-add f s (w * p) in
    let last : f * (w * p) ≡ w * (f * p) = mul_left_comm f w p in
    omega arith

empty : (c f : ℕ) → c + f * 0 ≡ 0 + c * f ^ 0
empty c f = let last : c * f ^ 0 ≡ c = ap (λ n. c * n) (pow-zero f) ∙ mul-one c in omega (arith, last)

-- of one item more behind them
weighed_push : (xs : List Item) (x : Item) → weighed (xs ++ x ∷ []) ≡ weighed xs + code_of x * factor ^ length xs
weighed_push [] x = empty (code_of x) factor
weighed_push (y ∷ xs) x =
    ap (λ n. code_of y + factor * n) (weighed_push xs x) ∙ regrouped (code_of y) factor (weighed xs) (code_of x) (factor ^ length xs)
    ∙ ap (λ n. code_of y + factor * weighed xs + code_of x * n) (sym (pow-succ' factor (length xs)))

pub digest_push : (xs : List Item) (x : Item) → digest_of (xs ++ x ∷ []) ≡ (digest_of xs + code_of x * factor ^ length xs) % bound
digest_push xs x = ap (λ n. n % bound) (weighed_push xs x) ∙ sym (mod-add-mod (weighed xs) bound (code_of x * factor ^ length xs))

pub digest_end : (xs : List Item) (x : Item) → digest_of (insert xs (length xs) x) ≡ (digest_of xs + code_of x * factor ^ length xs) % bound
digest_end xs x = ap digest_of (insert_end xs x) ∙ digest_push xs x

-- what a sum that is cut, then a product that is, come to
pub cut : (d c p : ℕ) → (d + (c * (p % bound)) % bound) % bound ≡ (d + c * p) % bound
cut d c p = add-mod-mod d (c * (p % bound)) bound ∙ sym (add-mod-mod d (c * (p % bound)) bound) ∙ ap (λ n. (d + n) % bound) (mul-mod_second c p bound) ∙ add-mod-mod d (c * p) bound

taken_off : (c s : ℕ) → c ≤ bound → ((c + factor * s) % bound + (bound - c)) % bound * inverse % bound ≡ s % bound
taken_off c s fits =
    let whole : (c + factor * s) + (bound - c) ≡ factor * s + bound = omega arith in
    let turned : factor * s * inverse ≡ s + bound * (10771413168148108919 * s) =
    ap (λ n. n * inverse) (mul_comm factor s) ∙ mul_assoc s factor inverse ∙ ap (λ n. s * n) inverts ∙ mul_comm s (1 + bound * 10771413168148108919) ∙ add-mul 1 (bound * 10771413168148108919) s
    ∙ ap (λ n. 1 * s + n) (mul_assoc bound 10771413168148108919 s) ∙ ap (λ n. n + bound * (10771413168148108919 * s)) (omega arith)
    in
    ap (λ n. n * inverse % bound) (mod-add-mod (c + factor * s) bound (bound - c) ∙ ap (λ n. n % bound) whole ∙ add-mod_right (factor * s) bound)
    ∙ mul-mod_first (factor * s) inverse bound ∙ ap (λ n. n % bound) turned ∙ add-mul-mod_self_left s bound (10771413168148108919 * s)

pub digest_rest : (xs : List Item) (x : Item) → code_of x ≤ bound → (digest_of (x ∷ xs) + (bound - code_of x)) % bound * inverse % bound ≡ digest_of xs
digest_rest xs x fits = taken_off (code_of x) (weighed xs) fits

-- an item is put behind those that don't count
pub drop_insert : {X : Type 0} → (d at k : ℕ) (xs : List X) (y : X) → k ≡ d + at → d ≤ length xs → drop d (insert xs k y) ≡ insert (drop d xs) at y
drop_insert zero at k xs y e le = ap (λ n. insert xs n y) (omega arith)
drop_insert (suc d) at zero xs y e le = absurd (omega arith)
drop_insert (suc d) at (suc k) [] y e le = absurd (omega arith)
drop_insert (suc d) at (suc k) (x ∷ xs) y e le = drop_insert d at k xs y (omega arith) (omega arith)
