-- Operations that are changed one after the other.
use Rattle.std.proofs.Common.{◌≡◌, ℕ, zero, suc, ◌+◌, ◌<◌, ◌≤◌, List, [], ◌∷◌, length, map, set, get_or, refl, ap, ◌∙◌, arith}

-- the first ones changed
abbrev pub partly : {A : Type 0} → (A → A) → ℕ → List A → List A
partly f zero xs = xs
partly f (suc i) [] = []
partly f (suc i) (x ∷ xs) = f x ∷ partly f i xs

module _ {A : Type 0} (f : A → A) where
  pub partly_get : (i : ℕ) (xs : List A) (d : A) → get_or (partly f i xs) i d ≡ get_or xs i d
  partly_get zero xs d = refl
  partly_get (suc i) [] d = refl
  partly_get (suc i) (x ∷ xs) d = partly_get i xs d

  pub partly_set : (i : ℕ) (xs : List A) (d y : A) → i < length xs → y ≡ f (get_or xs i d) → set (partly f i xs) i y ≡ partly f (i + 1) xs
  partly_set i xs d y inside is = by i xs inside is ∙ ap (λ n. partly f n xs) (let e : suc i ≡ i + 1 = omega arith in e)
    where
      by : (i : ℕ) (xs : List A) → i < length xs → y ≡ f (get_or xs i d) → set (partly f i xs) i y ≡ partly f (suc i) xs
      by i [] inside is = absurd (omega arith)
      by zero (x ∷ xs) inside is = ap (λ z. z ∷ xs) is
      by (suc i) (x ∷ xs) inside is = ap (λ l. f x ∷ l) (by i xs (omega arith) is)

  pub partly_all : (i : ℕ) (xs : List A) → length xs ≤ i → partly f i xs ≡ map f xs
  partly_all zero [] past = refl
  partly_all zero (x ∷ xs) past = absurd (omega arith)
  partly_all (suc i) [] past = refl
  partly_all (suc i) (x ∷ xs) past = ap (λ l. f x ∷ l) (partly_all i xs (omega arith))
