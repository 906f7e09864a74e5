-- Elements of lists: the last one, pairs of them, and pairs that begin with a number.
use Rattle.std.proofs.Common.{◌≡◌, ℕ, ◌<◌, zero, suc, Bool, true, not, List, [], ◌∷◌, ◌++◌, length, Contains, All, AllPairs, ◌⊎◌, inl, inr, refl, sym, ap, subst, ◌∙◌, arith, get_or, filter, length-append, nat_eq}
use Rattle.std.proofs.lemmas.List.{get_or_append_left}
use Rattle.std.proofs.lemmas.List.Elements.{All-contains, All-contains_itself, All-filter, All-weaker, filter_passes, Contains-append_right}
use Rattle.std.proofs.lemmas.Bool.{cases_Bool, cond_both, true≢false}
use Rattle.std.proofs.lemmas.Bool.Decides.{Decides-eqb}

-- what holds of whatever a list contains holds of all its elements
pub all_of : {A : Type 0} (P : A → Type 0) (xs : List A) → ((x : A) → Contains xs x → P x) → All P xs
all_of P xs each = All-weaker (Contains xs) P each xs (All-contains_itself xs)

pub nothing_in : {A : Type 0} (x : A) → Contains [] x → ⊥
nothing_in x there = let inside = there.1 in omega arith

-- an element stands first, or in the rest
pub first_or_rest : {A : Type 0} (x : A) (xs : List A) (y : A) → Contains (x ∷ xs) y → (x ≡ y) ⊎ Contains xs y
first_or_rest x xs y there = by there.0 there.1 there.2
  where
    by : (k : ℕ) → k < length (x ∷ xs) → get_or (x ∷ xs) k y ≡ y → (x ≡ y) ⊎ Contains xs y
    by zero inside is = inl is
    by (suc k) inside is = inr (k, omega arith, is)

-- the last element, if there is one
pub last_of : {A : Type 0} (xs : List A) → (xs ≡ []) ⊎ ((ys : List A) × (y : A) × (xs ≡ ys ++ y ∷ []))
last_of [] = inl refl
last_of (x ∷ xs) = elim (last_of xs) [
  | inl none ↦ inr ([], x, ap (λ l. x ∷ l) none)
  | inr some ↦ inr (x ∷ some.0, some.1, ap (λ l. x ∷ l) some.2)
]

last_is : {A : Type 0} (xs : List A) (y d : A) → get_or (xs ++ y ∷ []) (length xs) d ≡ y
last_is [] y d = refl
last_is (z ∷ zs) y d = last_is zs y d

-- what holds of each pair of elements of a list holds of each of its beginning
pub pairs_left : {A : Type 0} (R : A → A → Type 0) (xs ys : List A) → AllPairs R (xs ++ ys) → AllPairs R xs
pairs_left R xs ys all i j d before within =
    let many = length-append xs ys in
    let at_i = get_or_append_left xs ys d i (omega arith) in
    let at_j = get_or_append_left xs ys d j within in
    subst (λ x. R x (get_or xs j d)) at_i (subst (R (get_or (xs ++ ys) i d)) at_j (all i j d before (omega arith)))

-- and of each element with the last
pub pairs_last : {A : Type 0} (R : A → A → Type 0) (xs : List A) (y x : A) → AllPairs R (xs ++ y ∷ []) → Contains xs x → R x y
pairs_last R xs y x all there =
    let many = length-append xs (y ∷ []) in
    let inside : there.0 < length xs = there.1 in
    let at_x = get_or_append_left xs (y ∷ []) x there.0 inside ∙ there.2 in
    subst (λ z. R z y) at_x (subst (R (get_or (xs ++ y ∷ []) there.0 x)) (last_is xs y x) (all there.0 (length xs) x inside (omega arith)))

-- what a filter keeps
pub in_filter : {A : Type 0} (p : A → Bool) (xs : List A) (x : A) → p x ≡ true → Contains xs x → Contains (filter p xs) x
in_filter p [] x passes there = there
in_filter {A} p (y ∷ ys) x passes there = by there.0 there.1 there.2 (λ rest. in_filter p ys x passes rest)
  where
    by : (k : ℕ) → k < length (y ∷ ys) → get_or (y ∷ ys) k x ≡ x → (Contains ys x → Contains (filter p ys) x) → Contains (filter p (y ∷ ys)) x
    by zero inside is more = cond_both (p y) (y ∷ filter p ys) (filter p ys) (λ l. Contains l x) (λ yes'. (0, omega arith, is)) (λ none. absurd (let one = ap p is in cc))
    by (suc k) inside is more =
        let rest = more (k, omega arith, is) in
        cond_both (p y) (y ∷ filter p ys) (filter p ys) (λ l. Contains l x) (λ yes'. Contains-append_right (y ∷ []) (filter p ys) x rest) (λ none. rest)

pub from_filter : {A : Type 0} (p : A → Bool) (xs : List A) (x : A) → Contains (filter p xs) x → Contains xs x × (p x ≡ true)
from_filter p xs x there = (
  All-contains (Contains xs) (filter p xs) x (All-filter p (Contains xs) xs (All-contains_itself xs)) there,
  All-contains (λ y. p y ≡ true) (filter p xs) x (filter_passes p xs) there,
)

-- whether a pair begins with another number
pub begins_other : {A : Type 0} → ℕ → ℕ × A → Bool
begins_other n x = not (nat_eq x.0 n)

pub other_true : {A : Type 0} (n : ℕ) (x : ℕ × A) → (x.0 ≡ n → ⊥) → begins_other n x ≡ true
unfolding begins_other
other_true n x differ = elim (cases_Bool (nat_eq x.0 n)) [
  | inl same ↦ absurd (differ ((Decides-eqb x.0 n).0 same))
  | inr other ↦ ap not other
]

pub other_from : {A : Type 0} (n : ℕ) (x : ℕ × A) → begins_other n x ≡ true → x.0 ≡ n → ⊥
unfolding begins_other
other_from n x passes same = true≢false (sym passes ∙ ap not ((Decides-eqb x.0 n).1 same))
