-- Lists: places of elements, one element less, and more elements than places for them.
use Rattle.std.proofs.Common.{◌≡◌, ℕ, ◌<◌, ◌≤◌, zero, suc, List, [], ◌∷◌, ◌++◌, length, Contains, AllPairs, ◌⊎◌, inl, inr, refl, sym, ap, subst, ◌∙◌, arith, Some, slice_get}
use Rattle.std.proofs.lemmas.Option.{slice_get-get_or, get_or_from_slice_get}
use Rattle.std.proofs.lemmas.Bool.{cases_eq}
use Rattle.std.proofs.lemmas.List.Elements.{Contains-append_left, Contains-append_right, Contains-append_cases}
use Rattle.std.proofs.lemmas.List.Kept.{AllPairs-cons}
use Rattle.lin_lists.specs.lemmas.Lists.{get_inside}
use Rattle.lin_lists.specs.lemmas.Elements.{all_of, nothing_in, first_or_rest}

pub stands : {A : Type 0} (xs : List A) (x : A) → Contains xs x → (k : ℕ) × (slice_get xs k ≡ Some x)
stands xs x there = (there.0, slice_get-get_or xs there.0 x there.1 ∙ ap Some there.2)

pub contains : {A : Type 0} (xs : List A) (k : ℕ) (x : A) → slice_get xs k ≡ Some x → Contains xs x
contains xs k x there = (k, get_inside xs k x there, get_or_from_slice_get xs k x x there)

pub some_same : {A : Type 0} {a b : A} → Some a ≡ Some b → a ≡ b
some_same e = cc

-- what stands at one place is one
pub one_there : {A : Type 0} (xs : List A) (i j : ℕ) (x y : A) → i ≡ j → slice_get xs i ≡ Some x → slice_get xs j ≡ Some y → x ≡ y
one_there xs i j x y same at_i at_j = some_same (sym at_i ∙ ap (λ k. slice_get xs k) same ∙ at_j)

pub contains_or_not : (x : ℕ) (xs : List ℕ) → Contains xs x ⊎ (Contains xs x → ⊥)
contains_or_not x [] = inr (λ there. nothing_in x there)
contains_or_not x (y ∷ ys) = elim (cases_eq y x) [
  | inl same ↦ inl (0, omega arith, same)
  | inr other ↦ elim (contains_or_not x ys) [
    | inl rest ↦ inl (Contains-append_right (y ∷ []) ys x rest)
    | inr absent ↦ inr (λ there. elim (first_or_rest y ys x there) [
      | inl here ↦ other here
      | inr later ↦ absent later
    ])
  ]
]

-- a list without what stands at one place
pub without : {A : Type 0} (ys : List A) (k : ℕ) (y : A) → slice_get ys k ≡ Some y
    → (rest : List A) × (length ys ≡ suc (length rest)) × ((i : ℕ) (x : A) → (i ≡ k → ⊥) → slice_get ys i ≡ Some x → Contains rest x)
without [] k y h = cc
without {A} (z ∷ zs) zero y h = (zs, refl, by)
  where
    by : (i : ℕ) (x : A) → (i ≡ 0 → ⊥) → slice_get (z ∷ zs) i ≡ Some x → Contains zs x
    by zero x other there = absurd (other refl)
    by (suc i) x other there = contains zs i x there
without {A} (z ∷ zs) (suc k) y h = one_more z zs k (without zs k y h)
  where
    one_more : (z : A) (zs : List A) (k : ℕ) → ((rest : List A) × (length zs ≡ suc (length rest)) × ((i : ℕ) (x : A) → (i ≡ k → ⊥) → slice_get zs i ≡ Some x → Contains rest x))
        → (rest : List A) × (length (z ∷ zs) ≡ suc (length rest)) × ((i : ℕ) (x : A) → (i ≡ suc k → ⊥) → slice_get (z ∷ zs) i ≡ Some x → Contains rest x)
    one_more z zs k rest = (z ∷ rest.0, ap suc rest.1, by)
      where
        by : (i : ℕ) (x : A) → (i ≡ suc k → ⊥) → slice_get (z ∷ zs) i ≡ Some x → Contains (z ∷ rest.0) x
        by zero x other there = contains (z ∷ rest.0) 0 x there
        by (suc i) x other there = Contains-append_right (z ∷ []) rest.0 x (rest.2 i x (λ e. other (ap suc e)) there)

-- where different elements have places of their own, there are as many places
pub pigeons : {A B : Type 0} (R : A → B → Type 0) (Differ : A → A → Type 0) → ((x other : A) (y : B) → R x y → R other y → Differ x other → ⊥) → (xs : List A) (ys : List B) → AllPairs Differ xs
    → ((x : A) → Contains xs x → (y : B) × Contains ys y × R x y) → length xs ≤ length ys
pigeons R Differ one [] ys differ each = omega arith
pigeons {A} {B} R Differ one (x ∷ xs) ys differ each =
    let first = each x (0, omega arith, refl) in
    let at = stands ys first.0 first.1 in
    let less = without ys at.0 first.0 at.1 in
    let few = pigeons R Differ one xs less.0 (λ i j d before within. differ (suc i) (suc j) d (omega arith) (omega arith)) (λ other there.
    let e = each other (Contains-append_right (x ∷ []) xs other there) in
    let at_other = stands ys e.0 e.1 in
    (e.0, less.2 at_other.0 e.0 (λ same. one x other first.0 first.2 (subst (R other) (one_there ys at_other.0 at.0 e.0 first.0 same at_other.1 at.1) e.2) (apart other there)) at_other.1, e.2)) in
    omega (arith, less.1, few)
  where
    apart : (other : A) → Contains xs other → Differ x other
    apart other there =
        let inside : there.0 < length xs = there.1 in
        subst (Differ x) there.2 (differ 0 (suc there.0) other (omega arith) (omega arith))

-- a list with one more in it
pub in_more : {A : Type 0} (before behind : List A) (p y : A) → Contains (before ++ behind) y → Contains (before ++ p ∷ behind) y
in_more before behind p y there = elim (Contains-append_cases before behind y there) [
  | inl early ↦ Contains-append_left before (p ∷ behind) y early
  | inr late ↦ Contains-append_right before (p ∷ behind) y (Contains-append_right (p ∷ []) behind y late)
]

pub in_more_cases : {A : Type 0} (before behind : List A) (p y : A) → Contains (before ++ p ∷ behind) y → Contains (before ++ behind) y ⊎ (p ≡ y)
in_more_cases before behind p y there = elim (Contains-append_cases before (p ∷ behind) y there) [
  | inl early ↦ inl (Contains-append_left before behind y early)
  | inr late ↦ elim (first_or_rest p behind y late) [
    | inl here ↦ inr here
    | inr rest ↦ inl (Contains-append_right before behind y rest)
  ]
]

-- and its pairs
module _ {A : Type 0} (R : A → A → Type 0) where
  pub pairs_tail : (x : A) (xs : List A) → AllPairs R (x ∷ xs) → AllPairs R xs
  pairs_tail x xs all i j d before within = all (suc i) (suc j) d (omega arith) (omega arith)

  pub pairs_head : (x : A) (xs : List A) → AllPairs R (x ∷ xs) → (y : A) → Contains xs y → R x y
  pairs_head x xs all y there =
      let inside : there.0 < length xs = there.1 in
      subst (R x) there.2 (all 0 (suc there.0) y (omega arith) (omega arith))

  pub pairs_less : (before behind : List A) (p : A) → AllPairs R (before ++ p ∷ behind) → AllPairs R (before ++ behind)
  pairs_less [] behind p all = pairs_tail p behind all
  pairs_less (b ∷ before) behind p all =
      AllPairs-cons R b (before ++ behind)
      (all_of (R b) (before ++ behind) (λ y there. pairs_head b (before ++ p ∷ behind) all y (in_more before behind p y there)))
      (pairs_less before behind p (pairs_tail b (before ++ p ∷ behind) all))

  pub pairs_other : ((x y : A) → R x y → R y x) → (before behind : List A) (p : A) → AllPairs R (before ++ p ∷ behind) → (y : A) → Contains (before ++ behind) y → R p y
  pairs_other turned [] behind p all y there = pairs_head p behind all y there
  pairs_other turned (b ∷ before) behind p all y there = elim (first_or_rest b (before ++ behind) y there) [
    | inl here ↦ subst (R p) here (turned b p (pairs_head b (before ++ p ∷ behind) all p (Contains-append_right before (p ∷ behind) p (0, omega arith, refl))))
    | inr rest ↦ pairs_other turned before behind p (pairs_tail b (before ++ p ∷ behind) all) y rest
  ]
