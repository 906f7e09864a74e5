-- Operations that are marked one after the other.
use Rattle.std.proofs.Common.{◌≡◌, ℕ, zero, suc, ◌+◌, ◌<◌, ◌≤◌, List, [], ◌∷◌, ◌++◌, length, map, set, take, drop, get_or, refl, ap, ◌∙◌, arith}
use Rattle.std.proofs.lemmas.List.{append-nil}
use Rattle.lin_frontier.specs.lemmas.Trying.{take_all}

-- the first ones changed
abbrev pub partly : {A : Type 0} → (A → A) → ℕ → List A → List A
partly f zero xs = xs
partly f (suc i) [] = []
partly f (suc i) (x ∷ xs) = f x ∷ partly f i xs

module _ {A : Type 0} (f : A → A) where
  pub partly_length : (i : ℕ) (xs : List A) → length (partly f i xs) ≡ length xs
  partly_length zero xs = refl
  partly_length (suc i) [] = refl
  partly_length (suc i) (x ∷ xs) = ap suc (partly_length i xs)

  pub partly_get : (i : ℕ) (xs : List A) (d : A) → get_or (partly f i xs) i d ≡ get_or xs i d
  partly_get zero xs d = refl
  partly_get (suc i) [] d = refl
  partly_get (suc i) (x ∷ xs) d = partly_get i xs d

  pub partly_set : (i : ℕ) (xs : List A) (d y : A) → i < length xs → y ≡ f (get_or xs i d) → set (partly f i xs) i y ≡ partly f (i + 1) xs
  partly_set i xs d y inside is = by i xs inside is ∙ ap (λ n. partly f n xs) (let e : suc i ≡ i + 1 = omega arith in e)
    where
      by : (i : ℕ) (xs : List A) → i < length xs → y ≡ f (get_or xs i d) → set (partly f i xs) i y ≡ partly f (suc i) xs
      by i [] inside is = absurd (omega arith)
      by zero (x ∷ xs) inside is = ap (λ z. z ∷ xs) is
      by (suc i) (x ∷ xs) inside is = ap (λ l. f x ∷ l) (by i xs (omega arith) is)

  pub partly_all : (i : ℕ) (xs : List A) → length xs ≤ i → partly f i xs ≡ map f xs
  partly_all zero [] past = refl
  partly_all zero (x ∷ xs) past = absurd (omega arith)
  partly_all (suc i) [] past = refl
  partly_all (suc i) (x ∷ xs) past = ap (λ l. f x ∷ l) (partly_all i xs (omega arith))

-- items written back whole
pub written_back : {A : Type 0} (n : ℕ) (xs ys : List A) → length xs ≡ length ys → n ≡ length ys → take n (xs ++ drop (length xs) ys) ≡ xs
written_back {A} n xs ys same is =
    let none = drop_all (length xs) ys (omega arith) in
    ap (λ l. take n (xs ++ l)) none ∙ ap (take n) (append-nil xs) ∙ take_all n xs (omega arith)
  where
    drop_all : (n : ℕ) (ys : List A) → length ys ≤ n → drop n ys ≡ []
    drop_all zero [] past = refl
    drop_all zero (y ∷ ys) past = absurd (omega arith)
    drop_all (suc n) [] past = refl
    drop_all (suc n) (y ∷ ys) past = drop_all n ys (omega arith)
