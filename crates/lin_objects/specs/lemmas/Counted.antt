-- How many elements of a list pass a test.
use Rattle.std.proofs.Common.{◌≡◌, ℕ, suc, ◌+◌, ◌≤◌, Bool, true, false, cond, List, [], ◌∷◌, ◌++◌, count_by, Contains, inl, inr, refl, ap, ◌∙◌, true≢false, arith, nat_le, nat_lt, nat_eq, sym, ◌<◌}
use Rattle.std.proofs.lemmas.List.Sums.{sum_by-append, sum_by-cons}
use Rattle.lin_lists.specs.lemmas.Elements.{first_or_rest}
use Rattle.std.proofs.lemmas.Bool.Decides.{leb_tells, eqb_tells, Decides-ltb}

module _ {X : Type 0} (p : X → Bool) (x : X) (xs : List X) where
  pub count_yes : p x ≡ true → count_by p (x ∷ xs) ≡ suc (count_by p xs)
  count_yes e = sum_by-cons (λ y. cond (p y) 1 0) x xs ∙ ap (λ b. cond b 1 0 + count_by p xs) e ∙ omega arith

  pub count_no : p x ≡ false → count_by p (x ∷ xs) ≡ count_by p xs
  count_no e = sum_by-cons (λ y. cond (p y) 1 0) x xs ∙ ap (λ b. cond b 1 0 + count_by p xs) e ∙ omega arith

  -- where none passes, neither the first one does nor one of the rest
  pub none_counted : count_by p (x ∷ xs) ≤ 0 → (p x ≡ false) × (count_by p xs ≤ 0)
  none_counted none = by (p x) refl
    where
      by : (b : Bool) → p x ≡ b → (p x ≡ false) × (count_by p xs ≤ 0)
      by true e = let more = count_yes e in absurd (omega (arith, none))
      by false e = let same = count_no e in (e, omega (arith, none))

pub from_le : (m n : ℕ) → nat_le m n ≡ true → m ≤ n
from_le m n e = elim (leb_tells m n) [
  | inl is ↦ is.1
  | inr no' ↦ absurd (true≢false (sym e ∙ no'.0))
]

pub from_eq : (m n : ℕ) → nat_eq m n ≡ true → m ≡ n
from_eq m n e = elim (eqb_tells m n) [
  | inl is ↦ is.1
  | inr no' ↦ absurd (true≢false (sym e ∙ no'.0))
]

pub from_lt : (m n : ℕ) → nat_lt m n ≡ true → m < n
from_lt m n e = (Decides-ltb m n).0 e

module _ {X : Type 0} (p : X → Bool) where
  -- one passes
  pub some_counted : (xs : List X) (x : X) → Contains xs x → p x ≡ true → 1 ≤ count_by p xs
  some_counted [] x there e = absurd (let inside = there.1 in omega arith)
  some_counted (y ∷ ys) x there e = elim (first_or_rest y ys x there) [
    | inl same ↦ let more = count_yes p y ys (ap p same ∙ e) in omega (arith, more)
    | inr later ↦
        let least = some_counted ys x later e in
        by (p y) refl least
  ]
    where
      by : (b : Bool) → p y ≡ b → 1 ≤ count_by p ys → 1 ≤ count_by p (y ∷ ys)
      by true q least = let more = count_yes p y ys q in omega (arith, more)
      by false q least = let same = count_no p y ys q in omega (arith, same, least)

  -- none passes
  pub nothing_counted : (xs : List X) → ((x : X) → Contains xs x → p x ≡ false) → count_by p xs ≡ 0
  nothing_counted [] none = refl
  nothing_counted (y ∷ ys) none = count_no p y ys (none y (0, omega arith, refl)) ∙ nothing_counted ys (λ x there. none x (suc there.0, omega (arith, there.1), there.2))

  -- one in the middle
  pub count_middle : (xs : List X) (y : X) (ys : List X) → count_by p (xs ++ y ∷ ys) ≡ cond (p y) 1 0 + count_by p (xs ++ ys)
  count_middle xs y ys =
      let a = sum_by-append (λ z. cond (p z) 1 0) xs (y ∷ ys) in
      let b = sum_by-cons (λ z. cond (p z) 1 0) y ys in
      let c = sum_by-append (λ z. cond (p z) 1 0) xs ys in
      omega (arith, a, b, c)
