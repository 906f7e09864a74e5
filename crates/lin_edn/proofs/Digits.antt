-- Numbers behind further digits.
use Rattle.std.proofs.Common.{◌≡◌, ℕ, suc, ◌+◌, ◌*◌, ◌-◌, ◌<◌, ◌≤◌, ◌^◌, Bool, true, false, if◌then◌else◌, List, [], ◌∷◌, length, drop, get_or, refl, ap, ◌∙◌, arith, Option, Some, None, drop-cons}
use Rattle.lin_bytes.specs.Bytes.{is_digit}
use Rattle.lin_edn.specs.inner.Numbers.{capped}
use Rattle.lin_edn.specs.Run.{number_after}
use Rattle.lin_edn.proofs.Limit.{is_above}

digit_case : (b : Bool) (c : ℕ) (w : List ℕ) (n m : ℕ) → ((k : ℕ) → number_after k w ≡ Some m → k ≤ m) →
    (if b then number_after (n * 10 + (c - 48)) w else None) ≡ Some m → n ≤ m
digit_case true c w n m rest h = let a : n * 10 + (c - 48) ≤ m = rest (n * 10 + (c - 48)) h in omega arith
digit_case false c w n m rest h = absurd (cc)

-- no digit makes a number less
rises : (w : List ℕ) (n m : ℕ) → number_after n w ≡ Some m → n ≤ m
rises [] n m h = let e : n ≡ m = cc in omega arith
rises (c ∷ w) n m h = digit_case (is_digit c) c w n m (λ k. rises w k m) h

great : (k : ℕ) (o : Option ℕ) → 2 ^ 63 < k → ((m : ℕ) → o ≡ Some m → k ≤ m) → capped o ≡ None
great k None h f = refl
great k (Some m) h f = let a : k ≤ m = f m refl in rw (is_above m (2 ^ 63) (omega arith)) refl

-- a further digit is one too many
pub too_great : (b : Bool) (n c : ℕ) (w : List ℕ) → 1000000000000000000 < n →
    capped (if b then number_after (n * 10 + (c - 48)) w else None) ≡ None
too_great true n c w h = great (n * 10 + (c - 48)) (number_after (n * 10 + (c - 48)) w) (omega arith) (λ m. rises w (n * 10 + (c - 48)) m)
too_great false n c w h = refl

pub one_more : (w : List ℕ) (n i : ℕ) → i < length w →
    number_after n (drop i w) ≡ (if is_digit (get_or w i 0) then number_after (n * 10 + (get_or w i 0 - 48)) (drop (i + 1) w) else None)
one_more w n i h =
    let e : suc i ≡ i + 1 = omega arith in
    ap (number_after n) (drop-cons w i 0 h) ∙ ap (λ k. if is_digit (get_or w i 0) then number_after (n * 10 + (get_or w i 0 - 48)) (drop k w) else None) e
