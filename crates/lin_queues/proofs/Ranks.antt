-- Counting the elements of a list that pass a test, up to a place.
use Rattle.std.proofs.Common.{◌≡◌, ℕ, ◌<◌, ◌≤◌, ◌+◌, zero, suc, Bool, true, false, cond, List, [], ◌∷◌, ◌++◌, length, length-append, take, filter, inl, inr, refl, ap, subst, ◌∙◌, arith, Some, slice_get}
use Rattle.std.proofs.lemmas.Bool.{cases_order, cases_Bool}
use Rattle.std.proofs.lemmas.List.Elements.{filter-append}
use Rattle.lin_lists.specs.lemmas.Lists.{take_next}

module _ {A : Type 0} (f : A → Bool) where
  abbrev pub count : List A → ℕ
  count xs = length (filter f xs)

  pub count_one : (x : A) (xs : List A) → f x ≡ true → count (x ∷ xs) ≡ suc (count xs)
  count_one x xs yes' = ap (λ b. length (cond b (x ∷ filter f xs) (filter f xs))) yes'

  pub count_none : (x : A) (xs : List A) → f x ≡ false → count (x ∷ xs) ≡ count xs
  count_none x xs no' = ap (λ b. length (cond b (x ∷ filter f xs) (filter f xs))) no'

  pub count_append : (xs ys : List A) → count (xs ++ ys) ≡ count xs + count ys
  count_append xs ys = ap length (filter-append f xs ys) ∙ length-append (filter f xs) (filter f ys)

  -- further on no fewer are counted
  pub count_rises : (xs : List A) (i j : ℕ) → i ≤ j → count (take i xs) ≤ count (take j xs)
  count_rises xs zero j below = omega arith
  count_rises [] (suc i) j below = omega arith
  count_rises (x ∷ xs) (suc i) zero below = omega arith
  count_rises (x ∷ xs) (suc i) (suc j) below =
      let rest = count_rises xs i j (omega arith) in
      elim (cases_Bool (f x)) [
        | inl yes' ↦ omega (arith, rest, count_one x (take i xs) yes', count_one x (take j xs) yes')
        | inr no' ↦ omega (arith, rest, count_none x (take i xs) no', count_none x (take j xs) no')
      ]

  -- one that passes is counted behind it
  pub counted : (xs : List A) (i j : ℕ) (x : A) → slice_get xs i ≡ Some x → f x ≡ true → i < j → count (take i xs) < count (take j xs)
  counted xs i j x there yes' below =
      let more = ap count (take_next i xs x there) ∙ count_append (take i xs) (x ∷ []) in
      let one = count_one x [] yes' in
      let rises = count_rises xs (suc i) j (omega arith) in
      let none : count [] ≡ 0 = refl in
      omega (arith, more, one, rises, none)

  -- so those that pass have different numbers
  pub one_rank : (xs : List A) (i j : ℕ) (x y : A) → slice_get xs i ≡ Some x → slice_get xs j ≡ Some y → f x ≡ true → f y ≡ true → count (take i xs) ≡ count (take j xs) → i ≡ j
  one_rank xs i j x y at_i at_j pass_x pass_y same = elim (cases_order i j) [
    | inl here ↦ here
    | inr differ ↦ elim differ [
      | inl below ↦ absurd (omega (arith, counted xs i j x at_i pass_x below, same))
      | inr above ↦ absurd (omega (arith, counted xs j i y at_j pass_y above, same))
    ]
  ]

  -- each number below a count is one's that passes
  pub ranked : (xs : List A) (j r : ℕ) → r < count (take j xs) → (i : ℕ) × (x : A) × (i < j) × (slice_get xs i ≡ Some x) × (f x ≡ true) × (count (take i xs) ≡ r)
  ranked xs zero r below = absurd (omega arith)
  ranked [] (suc j) r below = absurd (omega arith)
  ranked (x ∷ xs) (suc j) r below = elim (cases_Bool (f x)) [
    | inl yes' ↦ passes r yes' (ranked xs j) (subst (λ n. r < n) (count_one x (take j xs) yes') below)
    | inr no' ↦
        let rest = ranked xs j r (subst (λ n. r < n) (count_none x (take j xs) no') below) in
        (suc rest.0, rest.1, omega (arith, rest.2), rest.3, rest.4, count_none x (take rest.0 xs) no' ∙ rest.5)
  ]
    where
      passes : (r : ℕ) → f x ≡ true → ((q : ℕ) → q < count (take j xs) → (i : ℕ) × (y : A) × (i < j) × (slice_get xs i ≡ Some y) × (f y ≡ true) × (count (take i xs) ≡ q))
          → r < suc (count (take j xs)) → (i : ℕ) × (y : A) × (i < suc j) × (slice_get (x ∷ xs) i ≡ Some y) × (f y ≡ true) × (count (take i (x ∷ xs)) ≡ r)
      passes zero yes' more inside = (0, x, omega arith, refl, yes', refl)
      passes (suc r) yes' more inside =
          let rest = more r (omega arith) in
          (suc rest.0, rest.1, omega (arith, rest.2), rest.3, rest.4, count_one x (take rest.0 xs) yes' ∙ ap suc rest.5)
