-- Elements of lists by their places.
use Rattle.std.proofs.Common.{◌≡◌, ◌≢◌, ◌<◌, ◌≤◌, ◌==◌, ◌↔◌, ℕ, zero, suc, not, List, [], ◌∷◌, ◌++◌, length, map, filter, ◌⊎◌, Some, inl, inr, refl, sym, ap, ◌∙◌, subst, arith, slice_get, Contains, Result, Ok, Err, OnOk}
use Rattle.std.specs.List.{remove}
use Rattle.std.proofs.lemmas.Option.{slice_get_within, slice_get-get_or, get_or_from_slice_get}
use Rattle.std.proofs.lemmas.List.Elements.{Contains-append_left, Contains-push, Contains-push_cases}
use Rattle.std.proofs.lemmas.Bool.{ne_eqb, eqb-false, not-true}
use Rattle.lin_lists.specs.lemmas.Elements.{in_filter, from_filter}

-- without one, a list has the others, the later ones a place ahead
pub get_remove_cases : {A : Type 0} (xs : List A) (i k : ℕ) (x : A) → slice_get (remove xs i) k ≡ Some x → ((k < i) × (slice_get xs k ≡ Some x)) ⊎ ((i ≤ k) × (slice_get xs (suc k) ≡ Some x))
get_remove_cases {A = A} [] zero k x h = absurd (none h)
  where
    none : slice_get {X = A} [] k ≡ Some x → ⊥
    none e = cc
get_remove_cases {A = A} [] (suc i) k x h = absurd (none h)
  where
    none : slice_get {X = A} [] k ≡ Some x → ⊥
    none e = cc
get_remove_cases (z ∷ zs) zero k x h = inr (omega arith, h)
get_remove_cases (z ∷ zs) (suc i) zero x h = inl (omega arith, h)
get_remove_cases (z ∷ zs) (suc i) (suc k) x h = elim (get_remove_cases zs i k x h) [
  | inl before ↦ inl (omega (arith, before.0), before.1)
  | inr after ↦ inr (omega (arith, after.0), after.1)
]

pub get_removed : {A : Type 0} (xs : List A) (i k : ℕ) (x : A) → k ≢ i → slice_get xs k ≡ Some x → (j : ℕ) × (slice_get (remove xs i) j ≡ Some x)
get_removed [] i k x differ h = cc
get_removed (z ∷ zs) zero zero x differ h = absurd (differ refl)
get_removed (z ∷ zs) zero (suc k) x differ h = (k, h)
get_removed (z ∷ zs) (suc i) zero x differ h = (0, h)
get_removed (z ∷ zs) (suc i) (suc k) x differ h = let rest = get_removed zs i k x (λ e. differ (omega (arith, e))) h in (suc rest.0, rest.1)

some_same : {A : Type 0} {x y : A} → Some x ≡ Some y → x ≡ y
some_same e = cc

-- the element at a place is one
pub one_there : {A : Type 0} (xs : List A) (k : ℕ) (x y : A) → slice_get xs k ≡ Some x → slice_get xs k ≡ Some y → x ≡ y
one_there xs k x y a b = some_same (sym a ∙ b)

-- between places and members
pub contains_from_get : {A : Type 0} (xs : List A) (k : ℕ) (x : A) → slice_get xs k ≡ Some x → Contains xs x
contains_from_get xs k x h = (k, slice_get_within xs k x h, get_or_from_slice_get xs k x x h)

pub get_from_contains : {A : Type 0} (xs : List A) (x : A) → Contains xs x → (k : ℕ) × (slice_get xs k ≡ Some x)
get_from_contains xs x there = (there.0, slice_get-get_or xs there.0 x there.1 ∙ ap Some there.2)

-- a list of numbers without one
pub in_without : (x : ℕ) (xs : List ℕ) (y : ℕ) → Contains xs y → y ≢ x → Contains (filter (λ z. not (z == x)) xs) y
in_without x xs y there differ = in_filter (λ z. not (z == x)) xs y (ap not (ne_eqb y x differ)) there

pub from_without : (x : ℕ) (xs : List ℕ) (y : ℕ) → Contains (filter (λ z. not (z == x)) xs) y → Contains xs y × (y ≢ x)
from_without x xs y there =
    let found = from_filter (λ z. not (z == x)) xs y there in
    (found.0, eqb-false y x (not-true (y == x) found.1))

pub without_is : (x : ℕ) (xs : List ℕ) (y : ℕ) → Contains (filter (λ z. not (z == x)) xs) y ↔ (Contains xs y × (y ≢ x))
without_is x xs y = (from_without x xs y, λ both. in_without x xs y both.0 both.1)

-- a list with one more at its end
pub push_is : (xs : List ℕ) (x y : ℕ) → Contains (xs ++ x ∷ []) y ↔ (Contains xs y ⊎ (y ≡ x))
push_is xs x y = (
  λ there. elim (Contains-push_cases xs x y there) [ inl old ↦ inl old | inr new ↦ inr (sym new) ],
  λ either. elim either [ inl old ↦ Contains-append_left xs (x ∷ []) y old | inr new ↦ subst (Contains (xs ++ x ∷ [])) (sym new) (Contains-push xs x) ],
)

pub get_map : {A B : Type 0} (f : A → B) (xs : List A) (k : ℕ) (y : B) → slice_get (map f xs) k ≡ Some y → (x : A) × (slice_get xs k ≡ Some x) × (f x ≡ y)
get_map {B = B} f [] k y h = absurd (none h)
  where
    none : slice_get {X = B} [] k ≡ Some y → ⊥
    none e = cc
get_map f (x ∷ xs) zero y h = (x, refl, some_same h)
get_map f (x ∷ xs) (suc k) y h = get_map f xs k y h

pub map_get : {A B : Type 0} (f : A → B) (xs : List A) (k : ℕ) (x : A) → slice_get xs k ≡ Some x → slice_get (map f xs) k ≡ Some (f x)
map_get {A = A} f [] k x h = absurd (none h)
  where
    none : slice_get {X = A} [] k ≡ Some x → ⊥
    none e = cc
map_get f (y ∷ xs) zero x h = ap Some (ap f (some_same h))
map_get f (y ∷ xs) (suc k) x h = map_get f xs k x h

-- a list around one of its elements, and without it
pub parted : {A : Type 0} (xs : List A) (k : ℕ) (x : A) → slice_get xs k ≡ Some x → (before behind : List A) × (xs ≡ before ++ x ∷ behind) × (remove xs k ≡ before ++ behind)
parted {A = A} [] k x h = absurd (none h)
  where
    none : slice_get {X = A} [] k ≡ Some x → ⊥
    none e = cc
parted (y ∷ xs) zero x h = ([], xs, ap (λ z. z ∷ xs) (some_same h), refl)
parted (y ∷ xs) (suc k) x h = let rest = parted xs k x h in (y ∷ rest.0, rest.1, ap (λ l. y ∷ l) rest.2, ap (λ l. y ∷ l) rest.3)

pub get_at : {A : Type 0} (xs : List A) (k : ℕ) → k < length xs → (x : A) × (slice_get xs k ≡ Some x)
get_at [] k l = absurd (omega arith)
get_at (x ∷ xs) zero l = (x, refl)
get_at (x ∷ xs) (suc k) l = get_at xs k (omega arith)

-- what holds where it went well
pub on_ok : {A E : Type 0} (r : Result A E) {P Q : Type 0} → (P → Q) → OnOk r P → OnOk r Q
on_ok (Ok a) f p = f p
on_ok (Err e) f p = p

pub on_ok_both : {A E : Type 0} (r : Result A E) {P Q R : Type 0} → (P → Q → R) → OnOk r P → OnOk r Q → OnOk r R
on_ok_both (Ok a) f p q = f p q
on_ok_both (Err e) f p q = p

pub get_appended : {A : Type 0} (xs ys : List A) (k : ℕ) (x : A) → slice_get xs k ≡ Some x → slice_get (xs ++ ys) k ≡ Some x
get_appended {A = A} [] ys k x h = absurd (none h)
  where
    none : slice_get {X = A} [] k ≡ Some x → ⊥
    none e = cc
get_appended (z ∷ xs) ys zero x h = h
get_appended (z ∷ xs) ys (suc k) x h = get_appended xs ys k x h

pub ok_is : {A E : Type 0} {x y : A} → ◌≡◌ {A = Result A E} (Ok x) (Ok y) → x ≡ y
ok_is e = cc
