-- Elements of lists by their places.
use Rattle.std.proofs.Common.{◌≡◌, ◌≢◌, ◌<◌, ◌≤◌, ℕ, zero, suc, List, [], ◌∷◌, length, ◌⊎◌, Some, inl, inr, refl, sym, ap, ◌∙◌, subst, arith, set, get_or, slice_get, take, AllPairs, Contains}
use Rattle.std.specs.List.{remove, swap}
use Rattle.std.proofs.lemmas.Bool.{cases_order}
use Rattle.std.proofs.lemmas.List.{length-set, take-set-le}
use Rattle.std.proofs.lemmas.List.Edits.{swap_is}
use Rattle.std.proofs.lemmas.Option.{slice_get_within, slice_get-get_or, get_or_from_slice_get}
use Rattle.lin_lists.specs.lemmas.Lists.{get_set_cases}

pub get_set_same : {A : Type 0} (xs : List A) (i : ℕ) (y : A) → i < length xs → slice_get (set xs i y) i ≡ Some y
get_set_same [] i y l = absurd (omega arith)
get_set_same (z ∷ zs) zero y l = refl
get_set_same (z ∷ zs) (suc i) y l = get_set_same zs i y (omega arith)

pub get_set_other : {A : Type 0} (xs : List A) (i k : ℕ) (y : A) → k ≢ i → slice_get (set xs i y) k ≡ slice_get xs k
get_set_other [] i k y differ = refl
get_set_other (z ∷ zs) zero zero y differ = absurd (differ refl)
get_set_other (z ∷ zs) zero (suc k) y differ = refl
get_set_other (z ∷ zs) (suc i) zero y differ = refl
get_set_other (z ∷ zs) (suc i) (suc k) y differ = get_set_other zs i k y (λ e. differ (omega (arith, e)))

-- without one, a list has the others, the later ones a place ahead
pub get_remove_cases : {A : Type 0} (xs : List A) (i k : ℕ) (x : A) → slice_get (remove xs i) k ≡ Some x → ((k < i) × (slice_get xs k ≡ Some x)) ⊎ ((i ≤ k) × (slice_get xs (suc k) ≡ Some x))
get_remove_cases {A = A} [] zero k x h = absurd (none h)
  where
    none : slice_get {X = A} [] k ≡ Some x → ⊥
    none e = cc
get_remove_cases {A = A} [] (suc i) k x h = absurd (none h)
  where
    none : slice_get {X = A} [] k ≡ Some x → ⊥
    none e = cc
get_remove_cases (z ∷ zs) zero k x h = inr (omega arith, h)
get_remove_cases (z ∷ zs) (suc i) zero x h = inl (omega arith, h)
get_remove_cases (z ∷ zs) (suc i) (suc k) x h = elim (get_remove_cases zs i k x h) [
  | inl before ↦ inl (omega (arith, before.0), before.1)
  | inr after ↦ inr (omega (arith, after.0), after.1)
]

pub get_removed : {A : Type 0} (xs : List A) (i k : ℕ) (x : A) → k ≢ i → slice_get xs k ≡ Some x → (j : ℕ) × (slice_get (remove xs i) j ≡ Some x)
get_removed [] i k x differ h = cc
get_removed (z ∷ zs) zero zero x differ h = absurd (differ refl)
get_removed (z ∷ zs) zero (suc k) x differ h = (k, h)
get_removed (z ∷ zs) (suc i) zero x differ h = (0, h)
get_removed (z ∷ zs) (suc i) (suc k) x differ h = let rest = get_removed zs i k x (λ e. differ (omega (arith, e))) h in (suc rest.0, rest.1)

some_same : {A : Type 0} {x y : A} → Some x ≡ Some y → x ≡ y
some_same e = cc

-- the element at a place is one
pub one_there : {A : Type 0} (xs : List A) (k : ℕ) (x y : A) → slice_get xs k ≡ Some x → slice_get xs k ≡ Some y → x ≡ y
one_there xs k x y a b = some_same (sym a ∙ b)

-- with one replaced and then in another's place, a list has that one there, the other in its place, and the rest
pub get_moved_cases : {A : Type 0} (xs : List A) (c i : ℕ) (y : A) (k : ℕ) (x : A) → c < length xs → i < length xs → slice_get (swap (set xs i y) c i) k ≡ Some x
    → ((k ≡ c) × (y ≡ x)) ⊎ (((k ≡ i) × (k ≢ c) × (slice_get xs c ≡ Some x)) ⊎ ((k ≢ i) × (k ≢ c) × (slice_get xs k ≡ Some x)))
get_moved_cases {A = A} xs c i y k x at_c at_i h = elim (get_set_cases (set zs c (get_or zs i y)) i (get_or zs c y) k x (subst (λ l. slice_get l k ≡ Some x) (sym (swap_is zs c i y (omega (arith, len)) (omega (arith, len)))) h)) [
  | inl here ↦ elim (cases_order c i) [
    | inl same ↦ inl (here.0 ∙ sym same, sym new ∙ ap (λ j. get_or zs j y) (sym same) ∙ here.1)
    | inr differ ↦ inr (inl (here.0, (λ e. apart differ (sym e ∙ here.0)), old (apart differ) here.1))
  ]
  | inr there ↦ elim (get_set_cases zs c (get_or zs i y) k x there.1) [
    | inl here ↦ inl (here.0, sym new ∙ here.1)
    | inr rest ↦ inr (inr (there.0, rest.0, sym (get_set_other xs i k y there.0) ∙ rest.1))
  ]
]
  where
    zs : List A
    zs = set xs i y

    len : length zs ≡ length xs
    len = length-set xs i y

    new : get_or zs i y ≡ y
    new = get_or_from_slice_get zs i y y (get_set_same xs i y at_i)

    apart : (c < i) ⊎ (i < c) → c ≢ i
    apart differ e = elim differ [ inl l ↦ omega (arith, e, l) | inr l ↦ omega (arith, e, l) ]

    old : c ≢ i → get_or zs c y ≡ x → slice_get xs c ≡ Some x
    old differ e = sym (get_set_other xs i c y differ) ∙ slice_get-get_or zs c y (omega (arith, len)) ∙ ap Some e

-- and these are there
pub get_moved : {A : Type 0} (xs : List A) (c i : ℕ) (y : A) (k : ℕ) (x : A) → c < length xs → i < length xs → k ≢ i → slice_get xs k ≡ Some x → (j : ℕ) × (slice_get (swap (set xs i y) c i) j ≡ Some x)
get_moved {A = A} xs c i y k x at_c at_i differ h = elim (cases_order k c) [
  | inl same ↦ (
    i,
    is i ∙ get_set_same (set zs c (get_or zs i y)) i (get_or zs c y) (omega (arith, len, length-set zs c (get_or zs i y)))
        ∙ ap Some (get_or_from_slice_get zs c x y (get_set_other xs i c y (λ e. differ (same ∙ e)) ∙ ap (λ j. slice_get xs j) (sym same) ∙ h)),
  )
  | inr apart ↦ (k, is k ∙ get_set_other (set zs c (get_or zs i y)) i k (get_or zs c y) differ ∙ get_set_other zs c k (get_or zs i y) (other apart) ∙ get_set_other xs i k y differ ∙ h)
]
  where
    zs : List A
    zs = set xs i y

    len : length zs ≡ length xs
    len = length-set xs i y

    is : (j : ℕ) → slice_get (swap zs c i) j ≡ slice_get (set (set zs c (get_or zs i y)) i (get_or zs c y)) j
    is j = ap (λ l. slice_get l j) (sym (swap_is zs c i y (omega (arith, len)) (omega (arith, len))))

    other : (k < c) ⊎ (c < k) → k ≢ c
    other apart e = elim apart [ inl l ↦ omega (arith, e, l) | inr l ↦ omega (arith, e, l) ]

pub get_moved_new : {A : Type 0} (xs : List A) (c i : ℕ) (y : A) → c < length xs → i < length xs → slice_get (swap (set xs i y) c i) c ≡ Some y
get_moved_new {A = A} xs c i y at_c at_i = ap (λ l. slice_get l c) (sym (swap_is zs c i y (omega (arith, len)) (omega (arith, len)))) ∙ by (cases_order c i)
  where
    zs : List A
    zs = set xs i y

    len : length zs ≡ length xs
    len = length-set xs i y

    new : get_or zs i y ≡ y
    new = get_or_from_slice_get zs i y y (get_set_same xs i y at_i)

    by : (c ≡ i) ⊎ ((c < i) ⊎ (i < c)) → slice_get (set (set zs c (get_or zs i y)) i (get_or zs c y)) c ≡ Some y
    by (inl same) = ap (λ j. slice_get (set (set zs c (get_or zs i y)) i (get_or zs c y)) j) same ∙ get_set_same (set zs c (get_or zs i y)) i (get_or zs c y) (omega (arith, len, length-set zs c (get_or zs i y)))
        ∙ ap Some (ap (λ j. get_or zs j y) same ∙ new)
    by (inr (inl l)) = get_set_other (set zs c (get_or zs i y)) i c (get_or zs c y) (λ e. omega (arith, e)) ∙ get_set_same zs c (get_or zs i y) (omega (arith, len)) ∙ ap Some new
    by (inr (inr l)) = get_set_other (set zs c (get_or zs i y)) i c (get_or zs c y) (λ e. omega (arith, e)) ∙ get_set_same zs c (get_or zs i y) (omega (arith, len)) ∙ ap Some new

-- between places and members
pub contains_from_get : {A : Type 0} (xs : List A) (k : ℕ) (x : A) → slice_get xs k ≡ Some x → Contains xs x
contains_from_get xs k x h = (k, slice_get_within xs k x h, get_or_from_slice_get xs k x x h)

pub get_from_contains : {A : Type 0} (xs : List A) (x : A) → Contains xs x → (k : ℕ) × (slice_get xs k ≡ Some x)
get_from_contains xs x there = (there.0, slice_get-get_or xs there.0 x there.1 ∙ ap Some there.2)

-- elements that differ in a number, told by their places
pub places_from_pairs : {A : Type 0} (f : A → ℕ) (xs : List A) → AllPairs (λ x y. f x ≢ f y) xs → (j k : ℕ) (x y : A) → slice_get xs j ≡ Some x → slice_get xs k ≡ Some y → f x ≡ f y → j ≡ k
places_from_pairs f xs pairs j k x y at_j at_k same = elim (cases_order j k) [
  | inl e ↦ e
  | inr differ ↦ elim differ [
    | inl l ↦ absurd (pairs j k x l (slice_get_within xs k y at_k) (ap f (get_or_from_slice_get xs j x x at_j) ∙ same ∙ ap f (sym (get_or_from_slice_get xs k y x at_k))))
    | inr l ↦ absurd (pairs k j x l (slice_get_within xs j x at_j) (ap f (get_or_from_slice_get xs k y x at_k) ∙ sym same ∙ ap f (sym (get_or_from_slice_get xs j x x at_j))))
  ]
]

pub pairs_from_places : {A : Type 0} (f : A → ℕ) (xs : List A) → ((j k : ℕ) (x y : A) → slice_get xs j ≡ Some x → slice_get xs k ≡ Some y → f x ≡ f y → j ≡ k) → AllPairs (λ x y. f x ≢ f y) xs
pairs_from_places f xs places i j d before within same =
    let e = places i j (get_or xs i d) (get_or xs j d) (slice_get-get_or xs i d (omega arith)) (slice_get-get_or xs j d within) same in
    omega (arith, e)

-- a move behind some first elements leaves these
pub swap_front : {A : Type 0} (xs : List A) (c i : ℕ) (y : A) → c ≤ i → i < length xs → take c (swap (set xs i y) c i) ≡ take c xs
swap_front {A = A} xs c i y before inside =
    ap (λ l. take c l) (sym (swap_is zs c i y (omega (arith, len)) (omega (arith, len)))) ∙ take-set-le c (set zs c (get_or zs i y)) i (get_or zs c y) before ∙ take-set-le c zs c (get_or zs i y) (omega arith)
    ∙ take-set-le c xs i y before
  where
    zs : List A
    zs = set xs i y

    len : length zs ≡ length xs
    len = length-set xs i y
