-- Filtered lists, and pairs of their elements.
use Rattle.std.proofs.Common.{◌≡◌, ◌<◌, ℕ, zero, suc, Bool, true, false, cond, List, [], ◌∷◌, length, get_or, map, filter, All, AllPairs, Contains, refl, sym, ap, subst, ◌∙◌, arith}
use Rattle.std.proofs.lemmas.List.{get_or-map, length-map}
use Rattle.std.proofs.lemmas.List.Elements.{Contains-get_or}
use Rattle.std.specs.List.{AllZip}
use Rattle.lin_lists.specs.lemmas.Elements.{in_filter}

-- what a map of a list contains
pub in_map : {X Y : Type 0} (f : X → Y) (xs : List X) (x : X) → Contains xs x → Contains (map f xs) (f x)
in_map f [] x there = absurd (let none = there.1 in omega arith)
in_map {X} {Y} f (y ∷ ys) x there = by there.0 there.1 there.2 (λ rest. in_map f ys x rest)
  where
    by : (k : ℕ) → k < length (y ∷ ys) → get_or (y ∷ ys) k x ≡ x → (Contains ys x → Contains (map f ys) (f x)) → Contains (f y ∷ map f ys) (f x)
    by zero inside is more = (0, omega arith, ap f is)
    by (suc k) inside is more = let rest = more (k, omega arith, is) in (suc rest.0, omega (arith, rest.1), rest.2)

pub from_map : {X Y : Type 0} (f : X → Y) (xs : List X) (y : Y) → Contains (map f xs) y → (x : X) × Contains xs x × (f x ≡ y)
from_map f [] y there = absurd (let none = there.1 in omega arith)
from_map {X} {Y} f (x ∷ xs) y there = by there.0 there.1 there.2 (λ rest. from_map f xs y rest)
  where
    by : (k : ℕ) → k < length (f x ∷ map f xs) → get_or (f x ∷ map f xs) k y ≡ y → (Contains (map f xs) y → (z : X) × Contains xs z × (f z ≡ y)) → (z : X) × Contains (x ∷ xs) z × (f z ≡ y)
    by zero inside is more = (x, (0, omega arith, refl), is)
    by (suc k) inside is more =
        let rest = more (k, omega arith, is) in
        (rest.0, (suc rest.1.0, omega (arith, rest.1.1), rest.1.2), rest.2)

-- a test of what a function gives, and a test of the elements that agrees with it
pub filter_of_map : {X Y : Type 0} (f : X → Y) (q : Y → Bool) (p : X → Bool) (xs : List X) → All (λ x. q (f x) ≡ p x) xs → filter q (map f xs) ≡ map f (filter p xs)
filter_of_map f q p [] agree = refl
filter_of_map {X} {Y} f q p (x ∷ xs) agree = by (p x) (agree 0 x (omega arith)) (filter_of_map f q p xs (λ k d inside. agree (suc k) d (omega arith)))
  where
    by : (b : Bool) → q (f x) ≡ b → filter q (map f xs) ≡ map f (filter p xs) → cond (q (f x)) (f x ∷ filter q (map f xs)) (filter q (map f xs)) ≡ map f (cond b (x ∷ filter p xs) (filter p xs))
    by true is rest = ap (λ b. cond b (f x ∷ filter q (map f xs)) (filter q (map f xs))) is ∙ ap (λ l. f x ∷ l) rest
    by false is rest = ap (λ b. cond b (f x ∷ filter q (map f xs)) (filter q (map f xs))) is ∙ rest

pub filter_none : {X : Type 0} (xs : List X) → filter (λ x. false) xs ≡ []
filter_none [] = refl
filter_none (x ∷ xs) = filter_none xs

-- what holds of each pair that a filter keeps
pub pairs_kept : {X : Type 0} (p : X → Bool) (R : X → X → Type 0) (xs : List X) → AllPairs R (filter p xs)
    → (i j : ℕ) (d : X) → i < j → j < length xs → p (get_or xs i d) ≡ true → p (get_or xs j d) ≡ true → R (get_or xs i d) (get_or xs j d)
pairs_kept p R [] all i j d before within first second = absurd (omega arith)
pairs_kept {X} p R (x ∷ xs) all i j d before within first second = by (p x) refl all i j before within first second (λ rest m n early inside one two. pairs_kept p R xs rest m n d early inside one two)
  where
    tail : AllPairs R (x ∷ filter p xs) → AllPairs R (filter p xs)
    tail all i j d before within = all (suc i) (suc j) d (omega arith) (omega arith)

    by : (b : Bool) → p x ≡ b → AllPairs R (cond b (x ∷ filter p xs) (filter p xs)) → (i j : ℕ) → i < j → j < length (x ∷ xs) → p (get_or (x ∷ xs) i d) ≡ true → p (get_or (x ∷ xs) j d) ≡ true
        → (AllPairs R (filter p xs) → (m n : ℕ) → m < n → n < length xs → p (get_or xs m d) ≡ true → p (get_or xs n d) ≡ true → R (get_or xs m d) (get_or xs n d))
        → R (get_or (x ∷ xs) i d) (get_or (x ∷ xs) j d)
    by b is all zero zero before within first second more = absurd (omega arith)
    by b is all (suc i) zero before within first second more = absurd (omega arith)
    by true is all zero (suc j) before within first second more =
        let kept = in_filter p xs (get_or xs j d) second (Contains-get_or xs j d (omega arith)) in
        subst (R x) kept.2 (all 0 (suc kept.0) (get_or xs j d) (omega arith) (omega (arith, kept.1)))
    by true is all (suc i) (suc j) before within first second more = more (tail all) i j (omega arith) (omega arith) first second
    by false is all zero (suc j) before within first second more = absurd (let never = sym is ∙ first in cc)
    by false is all (suc i) (suc j) before within first second more = more all i j (omega arith) (omega arith) first second

-- pairs of what a function gives
pub pairs_map : {X Y : Type 0} (f : X → Y) (R : Y → Y → Type 0) (xs : List X) → ((i j : ℕ) (d : X) → i < j → j < length xs → R (f (get_or xs i d)) (f (get_or xs j d))) → AllPairs R (map f xs)
pairs_map f R [] all i j e before within = absurd (omega arith)
pairs_map f R (x ∷ xs) all i j e before within =
    let many : length (map f (x ∷ xs)) ≡ length (x ∷ xs) = length-map (x ∷ xs) f in
    let at_i = get_or-map f (x ∷ xs) i x e (omega arith) in
    let at_j = get_or-map f (x ∷ xs) j x e (omega arith) in
    subst (λ y. R y (get_or (map f (x ∷ xs)) j e)) (sym at_i) (subst (R (f (get_or (x ∷ xs) i x))) (sym at_j) (all i j x before (omega arith)))

pub map_pairs : {X Y : Type 0} (f : X → Y) (R : Y → Y → Type 0) (xs : List X) → AllPairs R (map f xs) → AllPairs (λ x y. R (f x) (f y)) xs
map_pairs f R xs all i j d before within =
    let many : length (map f xs) ≡ length xs = length-map xs f in
    let at_i = get_or-map f xs i d (f d) (omega arith) in
    let at_j = get_or-map f xs j d (f d) (omega arith) in
    subst (λ y. R y (f (get_or xs j d))) at_i (subst (R (get_or (map f xs) i (f d))) at_j (all i j (f d) before (omega arith)))

-- lists that correspond element by element
pub zip_at : {A B : Type 0} (R : A → B → Type 0) (xs : List A) (ys : List B) (i : ℕ) (d : A) (e : B) → AllZip R xs ys → i < length xs → R (get_or xs i d) (get_or ys i e)
zip_at R [] ys i d e zip inside = absurd (omega arith)
zip_at R (x ∷ xs) [] i d e zip inside = absurd zip
zip_at R (x ∷ xs) (y ∷ ys) zero d e zip inside = zip.0
zip_at R (x ∷ xs) (y ∷ ys) (suc i) d e zip inside = zip_at R xs ys i d e zip.1 (omega arith)

pub zip_length : {A B : Type 0} (R : A → B → Type 0) (xs : List A) (ys : List B) → AllZip R xs ys → length xs ≡ length ys
zip_length R [] [] zip = refl
zip_length R [] (y ∷ ys) zip = absurd zip
zip_length R (x ∷ xs) [] zip = absurd zip
zip_length R (x ∷ xs) (y ∷ ys) zip = let rest = zip_length R xs ys zip.1 in omega arith
