-- Beginnings of lists.
use Rattle.std.proofs.Common.{◌≡◌, ◌+◌, ◌-◌, ◌<◌, ◌≤◌, ℕ, suc, List, [], ◌∷◌, ◌++◌, length, Option, Some, None, refl, sym, ap, ◌∙◌, subst, arith, set, get_or, slice_get, take, append_assoc, All, AllPairs}
use Rattle.std.specs.Prelude.{IfSome}
use Rattle.std.specs.List.{remove, swap}
use Rattle.std.proofs.lemmas.List.{get_or-append-add, get_or_append_left, get_or-append_right, length_push, set-append_right, length-set, length-append, length-take, length-take-le, take-take, take-append-le, get_or-take}
use Rattle.std.proofs.lemmas.List.Edits.{remove-append_right, swap_is}
use Rattle.std.proofs.lemmas.Option.{slice_get_within, get_or_from_slice_get}

-- beginnings of lists that agree up to a place agree before it
pub take_alike : {A : Type 0} (m n : ℕ) (xs ys : List A) → m ≤ n → take n xs ≡ take n ys → take m xs ≡ take m ys
take_alike m n xs ys below same = sym (take-take m n xs below) ∙ ap (λ l. take m l) same ∙ take-take m n ys below

-- of a pair of elements, the one before the other
pub pairs_at : {A : Type 0} (R : A → A → Type 0) (xs : List A) → AllPairs R xs → (j k : ℕ) (x y : A) → j < k → slice_get xs j ≡ Some x → slice_get xs k ≡ Some y → R x y
pairs_at R xs pairs j k x y before at_j at_k =
    subst (λ z. R z y) (get_or_from_slice_get xs j x x at_j) (subst (R (get_or xs j x)) (get_or_from_slice_get xs k y x at_k) (pairs j k x before (slice_get_within xs k y at_k)))

pub pairs_take : {A : Type 0} (R : A → A → Type 0) (m : ℕ) (xs : List A) → m ≤ length xs → AllPairs R xs → AllPairs R (take m xs)
pairs_take R m xs fits all i j d before within =
    let len = length-take-le m xs fits in
    let at_i = get_or-take m xs i d (omega arith) in
    let at_j = get_or-take m xs j d (omega arith) in
    subst (λ x. R x (get_or (take m xs) j d)) (sym at_i) (subst (R (get_or xs i d)) (sym at_j) (all i j d before (omega arith)))

pub if_some : {A : Type 0} {P Q : A → Type 0} (r : Option A) → ((x : A) → P x → Q x) → IfSome r P → IfSome r Q
if_some None f is = tt
if_some (Some x) f is = f x is

-- what holds of all holds of all but the last, and of that
pub all_left : {A : Type 0} (P : A → Type 0) (xs : List A) (x : A) (all : List A) → all ≡ xs ++ x ∷ [] → All P all → All P xs
all_left P xs x all made each k d inside =
    let l = subst (All P) made each in
    subst P (get_or_append_left xs (x ∷ []) d k inside) (l k d (omega (arith, inside, length_push xs x)))

pub all_last : {A : Type 0} (P : A → Type 0) (xs : List A) (x : A) (all : List A) → all ≡ xs ++ x ∷ [] → All P all → P x
all_last P xs x all made each =
    let l = subst (All P) made each in
    subst P (get_or-append_right xs (x ∷ []) (length xs) (length xs) x refl (omega arith) ∙ ap (λ n. get_or (x ∷ []) n x) (let e : length xs - length xs ≡ 0 = omega arith in e)) (l (length xs) x (omega (arith, length_push xs x)))

-- without its last element, a list has the same beginnings
pub one_less : {A : Type 0} (all xs : List A) (x : A) (n : ℕ) → all ≡ xs ++ x ∷ [] → n < length all → (n ≤ length xs) × (take n xs ≡ take n all)
one_less all xs x n made inside =
    let len = ap length made in
    let below : n ≤ length xs = omega (arith, inside, len, length_push xs x) in
    (below, sym (ap (λ l. take n l) made ∙ take-append-le n xs (x ∷ []) below))
