-- Elements of lists that are changed or taken apart.
use Rattle.std.proofs.Common.{◌≡◌, ◌≢◌, ◌<◌, ◌≤◌, ◌+◌, ℕ, zero, suc, List, [], ◌∷◌, ◌++◌, length, slice_get, take, drop, drop-cons, append-nil, take-append-drop, get_or, All, AllPairs, Contains, Some, ◌⊎◌, inl, inr, refl, sym, ap, subst, ◌∙◌, arith}
use Rattle.std.proofs.lemmas.List.{take-append-le, drop_all}
use Rattle.std.specs.Prelude.{remove}
use Rattle.std.specs.List.{AllZip}
use Rattle.std.proofs.lemmas.Option.{get_or_from_slice_get, slice_get_within, slice_get-get_or}
use Rattle.std.proofs.lemmas.Bool.{cases_order}

-- with one more, a list has those from before and that one
pub get_push_cases : {A : Type 0} (xs : List A) (y : A) (k : ℕ) (x : A) → slice_get (xs ++ y ∷ []) k ≡ Some x → ((k ≡ length xs) × (y ≡ x)) ⊎ ((k < length xs) × (slice_get xs k ≡ Some x))
get_push_cases [] y zero x h = inl (refl, cc)
get_push_cases [] y (suc k) x h = cc
get_push_cases (z ∷ zs) y zero x h = inr (omega arith, h)
get_push_cases (z ∷ zs) y (suc k) x h = elim (get_push_cases zs y k x h) [
  | inl here ↦ inl (omega (arith, here.0), here.1)
  | inr other ↦ inr (omega (arith, other.0), other.1)
]

-- what stands in the first list of two doesn't depend on the second
pub get_ahead : {A : Type 0} (xs ys zs : List A) (k : ℕ) → k < length xs → slice_get (xs ++ ys) k ≡ slice_get (xs ++ zs) k
get_ahead [] ys zs k l = absurd (omega arith)
get_ahead (x ∷ xs) ys zs zero l = refl
get_ahead (x ∷ xs) ys zs (suc k) l = get_ahead xs ys zs k (omega arith)

pub take_ahead : {A : Type 0} (n : ℕ) (xs ys zs : List A) → n ≤ length xs → take n (xs ++ ys) ≡ take n (xs ++ zs)
take_ahead n xs ys zs l = take-append-le n xs ys l ∙ sym (take-append-le n xs zs l)

pub get_of_take : {A : Type 0} (n : ℕ) (xs : List A) (k : ℕ) → k < n → slice_get (take n xs) k ≡ slice_get xs k
get_of_take zero xs k l = absurd (omega arith)
get_of_take (suc n) [] k l = refl
get_of_take (suc n) (y ∷ ys) zero l = refl
get_of_take (suc n) (y ∷ ys) (suc k) l = get_of_take n ys k (omega arith)

-- elements that differ stand at one place at most
pub one_place : {A : Type 0} (xs : List A) → AllPairs (λ x y. x ≢ y) xs → (i j : ℕ) (x : A) → slice_get xs i ≡ Some x → slice_get xs j ≡ Some x → i ≡ j
one_place xs distinct i j x at_i at_j =
    let read_i = get_or_from_slice_get xs i x x at_i in
    let read_j = get_or_from_slice_get xs j x x at_j in
    let within_i = slice_get_within xs i x at_i in
    let within_j = slice_get_within xs j x at_j in
    elim (cases_order i j) [
      | inl same ↦ same
      | inr rest ↦ elim rest [
        | inl below ↦ absurd (distinct i j x below within_j (read_i ∙ sym read_j))
        | inr above ↦ absurd (distinct j i x above within_i (read_j ∙ sym read_i))
      ]
    ]

pub Contains-slice_get : {A : Type 0} (xs : List A) (k : ℕ) (x : A) → slice_get xs k ≡ Some x → Contains xs x
Contains-slice_get xs k x h = (k, slice_get_within xs k x h, get_or_from_slice_get xs k x x h)

pub slice_get-Contains : {A : Type 0} (xs : List A) (x : A) → Contains xs x → (k : ℕ) × (slice_get xs k ≡ Some x)
slice_get-Contains xs x (k, within, is) = (k, slice_get-get_or xs k x within ∙ ap Some is)

-- a list at one of its places
pub split_at : {A : Type 0} (xs : List A) (at : ℕ) (x : A) → at < length xs → x ≡ get_or xs at x → take at xs ++ x ∷ drop (suc at) xs ≡ xs
split_at xs at x within is = ap (λ y. take at xs ++ y ∷ drop (suc at) xs) is ∙ ap (λ l. take at xs ++ l) (sym (drop-cons xs at x within)) ∙ take-append-drop at xs

-- without its last element
pub removed_last : {A : Type 0} (xs : List A) (last : ℕ) → length xs ≤ last + 1 → remove xs last ≡ take last xs
removed_last xs last few = ap (λ l. take last xs ++ l) (drop_all (suc last) xs (omega arith)) ∙ append-nil (take last xs)

pub zip_push : {A B : Type 0} (R : A → B → Type 0) (xs : List A) (ys : List B) (x : A) (y : B) → AllZip R xs ys → R x y → AllZip R (xs ++ x ∷ []) (ys ++ y ∷ [])
zip_push R [] [] x y all r = (r, tt)
zip_push R [] (b ∷ bs) x y all r = absurd all
zip_push R (a ∷ rest) [] x y all r = absurd all
zip_push R (a ∷ rest) (b ∷ bs) x y all r = (all.0, zip_push R rest bs x y all.1 r)

-- what stands somewhere in a list is in it
pub there_at : {A : Type 0} (xs : List A) (i : ℕ) (x : A) → slice_get xs i ≡ Some x → Contains xs x
there_at xs i x at = (i, slice_get_within xs i x at, get_or_from_slice_get xs i x x at)

-- something stands at each place of a list
pub element_at : {A : Type 0} (xs : List A) (i : ℕ) → i < length xs → (x : A) × (slice_get xs i ≡ Some x)
element_at [] i within = absurd (omega arith)
element_at (x ∷ xs) zero within = (x, refl)
element_at (x ∷ xs) (suc i) within = element_at xs i (omega arith)

pub All-at : {A : Type 0} (P : A → Type 0) (xs : List A) → All P xs → (i : ℕ) (x : A) → slice_get xs i ≡ Some x → P x
All-at P xs all i x at = subst P (get_or_from_slice_get xs i x x at) (all i x (slice_get_within xs i x at))
