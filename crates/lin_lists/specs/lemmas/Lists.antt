-- Lists: what stands at a place of a beginning, and of a list with one more at its end.
use Rattle.std.proofs.Common.{◌≡◌, ◌≢◌, ℕ, ◌<◌, zero, suc, List, [], ◌∷◌, ◌++◌, length, take, ◌⊎◌, inl, inr, refl, arith, set, Some, slice_get}

-- what a list has, it has with one more
pub get_left : {A : Type 0} (xs : List A) (y : A) (k : ℕ) (x : A) → slice_get xs k ≡ Some x → slice_get (xs ++ y ∷ []) k ≡ Some x
get_left [] y k x h = cc
get_left (z ∷ zs) y zero x h = h
get_left (z ∷ zs) y (suc k) x h = get_left zs y k x h

-- what a list has stands inside it
pub get_inside : {A : Type 0} (xs : List A) (k : ℕ) (x : A) → slice_get xs k ≡ Some x → k < length xs
get_inside [] k x h = cc
get_inside (z ∷ zs) zero x h = omega arith
get_inside (z ∷ zs) (suc k) x h = let rest = get_inside zs k x h in omega arith

-- with one more, a list has what it had, and the last
pub get_cases : {A : Type 0} (xs : List A) (y : A) (k : ℕ) (x : A) → slice_get (xs ++ y ∷ []) k ≡ Some x → (slice_get xs k ≡ Some x) ⊎ ((k ≡ length xs) × (y ≡ x))
get_cases [] y zero x h = inr (refl, cc)
get_cases [] y (suc k) x h = cc
get_cases (z ∷ zs) y zero x h = inl h
get_cases (z ∷ zs) y (suc k) x h = elim (get_cases zs y k x h) [
  | inl old ↦ inl old
  | inr new ↦ inr (omega (arith, new.0), new.1)
]

pub get_last : {A : Type 0} (xs : List A) (y : A) → slice_get (xs ++ y ∷ []) (length xs) ≡ Some y
get_last [] y = refl
get_last (z ∷ zs) y = get_last zs y

-- what a beginning has, the list has there
pub get_taken : {A : Type 0} (n : ℕ) (xs : List A) (k : ℕ) (x : A) → slice_get (take n xs) k ≡ Some x → (k < n) × (slice_get xs k ≡ Some x)
get_taken zero xs k x h = cc
get_taken (suc n) [] k x h = cc
get_taken (suc n) (z ∷ zs) zero x h = (omega arith, h)
get_taken (suc n) (z ∷ zs) (suc k) x h = let rest = get_taken n zs k x h in (omega (arith, rest.0), rest.1)

-- and what the list has there, the beginning has
pub get_begun : {A : Type 0} (n : ℕ) (xs : List A) (k : ℕ) (x : A) → k < n → slice_get xs k ≡ Some x → slice_get (take n xs) k ≡ Some x
get_begun zero xs k x below h = let no : ⊥ = omega arith in absurd no
get_begun (suc n) [] k x below h = h
get_begun (suc n) (z ∷ zs) zero x below h = h
get_begun (suc n) (z ∷ zs) (suc k) x below h = get_begun n zs k x (omega arith) h

-- a beginning that is one longer
pub take_next : {A : Type 0} (n : ℕ) (xs : List A) (x : A) → slice_get xs n ≡ Some x → take (suc n) xs ≡ take n xs ++ x ∷ []
take_next n [] x h = cc
take_next zero (z ∷ zs) x h = cc
take_next (suc n) (z ∷ zs) x h = let rest : take (suc n) zs ≡ take n zs ++ x ∷ [] = take_next n zs x h in cc

-- with one replaced, a list has that one and the others
pub get_set_cases : {A : Type 0} (xs : List A) (i : ℕ) (y : A) (k : ℕ) (x : A) → slice_get (set xs i y) k ≡ Some x → ((k ≡ i) × (y ≡ x)) ⊎ ((k ≢ i) × (slice_get xs k ≡ Some x))
get_set_cases [] i y k x h = cc
get_set_cases (z ∷ zs) zero y zero x h = inl (refl, cc)
get_set_cases (z ∷ zs) zero y (suc k) x h = inr ((λ e. omega (arith, e)), h)
get_set_cases (z ∷ zs) (suc i) y zero x h = inr ((λ e. omega (arith, e)), h)
get_set_cases (z ∷ zs) (suc i) y (suc k) x h = elim (get_set_cases zs i y k x h) [
  | inl here ↦ inl (omega (arith, here.0), here.1)
  | inr other ↦ inr ((λ e. other.0 (omega (arith, e))), other.1)
]
