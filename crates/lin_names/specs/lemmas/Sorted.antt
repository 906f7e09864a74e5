-- Lists put in order, by a total order that tells all apart.
use Rattle.std.proofs.Common.{◌≡◌, ◌⊎◌, inl, inr, ⊎_elim, ℕ, zero, suc, ◌+◌, ◌<◌, false, List, [], ◌∷◌, length, get_or, if◌then◌else◌, refl, sym, ap, ◌∙◌, subst, arith, true≢false}
use Rattle.std.specs.Bool.{⊤}
use Rattle.std.specs.Cmp.{IsTotalOrder, tied_itself}
use Rattle.std.specs.List.{AllByRecursion, sum_by}
use Rattle.std.specs.List.Sorted.{IsPermutation, IsSorted}
use Rattle.std.specs.Ordering.{is_eq, is_gt, is_lt, match_ordering, ordering_reverse}
use Rattle.std.specs.declared.cmp.Ordering.{Ordering}
use Rattle.std.specs.declared.cmp.Ordering.TheVariants.{Less, Equal, Greater}
use Rattle.std.proofs.lemmas.Cmp.{upto}
use Rattle.std.proofs.lemmas.List.Sorted.{IsPermutation-cons, IsPermutation-middle, IsPermutation-refl, IsPermutation-sym, IsPermutation-trans, sum_by-IsPermutation}
use Rattle.std.proofs.lemmas.List.Sums.{sum_by-cons}
use Rattle.lin_names.specs.Sorted.{sorted, with_one}

module _ {K : Type 0} (R : K → K → Ordering) where
  -- no element is above a later one
  abbrev pub Ascends : List K → Type 0
  Ascends [] = ⊤
  Ascends (x ∷ xs) = AllByRecursion (λ y. is_gt (R x y) ≡ false) xs × Ascends xs

  -- no element is above the next
  abbrev pub IsUp : List K → Type 0
  IsUp xs = (k : ℕ) (d : K) → k + 1 < length xs → is_gt (R (get_or xs k d) (get_or xs (k + 1) d)) ≡ false

module _ {K : Type 0} (R : K → K → Ordering) (o : IsTotalOrder R) (tells : (x y : K) → R x y ≡ Equal → x ≡ y) where
  infix 40 ◌⊑◌
  abbrev ◌⊑◌ : K → K → Type 0
  x ⊑ y = is_gt (R x y) ≡ false

  pub turned : (x y : K) → is_lt (R x y) ≡ is_gt (R y x)
  turned x y = by (R x y) refl
    where
      by : (r : Ordering) → R x y ≡ r → is_lt r ≡ is_gt (R y x)
      by Less e = ap is_gt (sym (o.antisymm y x ∙ ap ordering_reverse e))
      by Equal e = ap is_gt (sym (o.antisymm y x ∙ ap ordering_reverse e))
      by Greater e = ap is_gt (sym (o.antisymm y x ∙ ap ordering_reverse e))

  above : (x y : K) → R y x ≡ Less → R x y ≡ Greater
  above x y h = o.antisymm x y ∙ ap ordering_reverse h

  at_most : (x y : K) → R x y ≡ Less → x ⊑ y
  at_most x y h = ap is_gt h

  ordered : (x y : K) → (x ⊑ y) ⊎ (R y x ≡ Less)
  ordered x y = by (R x y) refl
    where
      by : (r : Ordering) → R x y ≡ r → (is_gt (R x y) ≡ false) ⊎ (R y x ≡ Less)
      by Less e = inl (ap is_gt e)
      by Equal e = inl (ap is_gt e)
      by Greater e = inr (o.antisymm y x ∙ ap ordering_reverse e)

  same : (x y : K) → x ⊑ y → y ⊑ x → x ≡ y
  same x y up down = by (R x y) refl
    where
      by : (r : Ordering) → R x y ≡ r → x ≡ y
      by Less e = absurd (true≢false (ap is_gt (sym (o.antisymm y x ∙ ap ordering_reverse e)) ∙ down))
      by Equal e = tells x y e
      by Greater e = absurd (true≢false (ap is_gt (sym e) ∙ up))

  put_ahead : (x y : K) (ys : List K) → x ⊑ y → with_one R x (y ∷ ys) ≡ x ∷ y ∷ ys
  put_ahead x y ys up = by (R x y) refl
    where
      by : (r : Ordering) → R x y ≡ r → with_one R x (y ∷ ys) ≡ x ∷ y ∷ ys
      by Less e = ap (λ r. match_ordering r (x ∷ y ∷ ys) (x ∷ y ∷ ys) (y ∷ with_one R x ys)) e
      by Equal e = ap (λ r. match_ordering r (x ∷ y ∷ ys) (x ∷ y ∷ ys) (y ∷ with_one R x ys)) e
      by Greater e = absurd (true≢false (ap is_gt (sym e) ∙ up))

  put_behind : (x y : K) (ys : List K) → R y x ≡ Less → with_one R x (y ∷ ys) ≡ y ∷ with_one R x ys
  put_behind x y ys h = ap (λ r. match_ordering r (x ∷ y ∷ ys) (x ∷ y ∷ ys) (y ∷ with_one R x ys)) (above x y h)

  put_permutes : (x : K) (xs : List K) → IsPermutation (x ∷ xs) (with_one R x xs)
  put_permutes x [] = IsPermutation-refl (x ∷ [])
  put_permutes x (y ∷ ys) = elim (ordered x y) [
    | inl up ↦ subst (IsPermutation (x ∷ y ∷ ys)) (sym (put_ahead x y ys up)) (IsPermutation-refl (x ∷ y ∷ ys))
    | inr below ↦ subst (IsPermutation (x ∷ y ∷ ys)) (sym (put_behind x y ys below))
        (IsPermutation-trans _ _ _ (IsPermutation-middle (x ∷ []) y ys) (IsPermutation-cons y _ _ (put_permutes x ys)))
  ]

  -- what is put in order has the same elements
  pub sorted_permutes : (xs : List K) → IsPermutation xs (sorted R xs)
  sorted_permutes [] = IsPermutation-refl []
  sorted_permutes (x ∷ xs) = IsPermutation-trans _ _ _ (IsPermutation-cons x _ _ (sorted_permutes xs)) (put_permutes x (sorted R xs))

  all_up : (x y : K) (ys : List K) → x ⊑ y → AllByRecursion (λ z. y ⊑ z) ys → AllByRecursion (λ z. x ⊑ z) ys
  all_up x y [] up all = tt
  all_up x y (z ∷ zs) up all = (upto o x y z up all.0, all_up x y zs up all.1)

  all_with : (x y : K) (ys : List K) → y ⊑ x → AllByRecursion (λ z. y ⊑ z) ys → AllByRecursion (λ z. y ⊑ z) (with_one R x ys)
  all_with x y [] up all = (up, tt)
  all_with x y (z ∷ zs) up all = ⊎_elim
      (λ (h : x ⊑ z). subst (AllByRecursion (λ w. y ⊑ w)) (sym (put_ahead x z zs h)) (up, all))
      (λ (h : R z x ≡ Less). subst (AllByRecursion (λ w. y ⊑ w)) (sym (put_behind x z zs h)) (all.0, all_with x y zs up all.1))
      (ordered x z)

  with_ascends : (x : K) (xs : List K) → Ascends R xs → Ascends R (with_one R x xs)
  with_ascends x [] rest = (tt, tt)
  with_ascends x (y ∷ ys) rest = ⊎_elim
      (λ (h : x ⊑ y). subst (Ascends R) (sym (put_ahead x y ys h)) ((h, all_up x y ys h rest.0), rest))
      (λ (h : R y x ≡ Less). subst (Ascends R) (sym (put_behind x y ys h)) (all_with x y ys (at_most y x h) rest.0, with_ascends x ys rest.1))
      (ordered x y)

  pub sorted_ascends : (xs : List K) → Ascends R (sorted R xs)
  sorted_ascends [] = tt
  sorted_ascends (x ∷ xs) = with_ascends x (sorted R xs) (sorted_ascends xs)

  -- steps that go up lead up
  pub ascends_from_steps : (xs : List K) → IsUp R xs → Ascends R xs
  ascends_from_steps [] up = tt
  ascends_from_steps (x ∷ []) up = (tt, tt)
  ascends_from_steps (x ∷ y ∷ ys) up =
      let rest : Ascends R (y ∷ ys) = ascends_from_steps (y ∷ ys)
      (λ k d lt. subst (λ n. is_gt (R (get_or (y ∷ ys) k d) (get_or (x ∷ y ∷ ys) n d)) ≡ false) (later k) (up (suc k) d (omega arith))) in
      let step : x ⊑ y = up 0 x (omega arith) in
      ((step, all_up x y ys step rest.0), rest)
    where
      later : (k : ℕ) → suc k + 1 ≡ suc (k + 1)
      later k = omega arith

  pub up_from_sorted : (xs : List K) → IsSorted R xs → IsUp R xs
  up_from_sorted xs up k d lt = sym (turned (get_or xs (k + 1) d) (get_or xs k d)) ∙ up k d (omega arith) lt

  -- whether the one is the other, as a number
  abbrev here : K → K → ℕ
  here y z = if is_eq (R z y) then 1 else 0

  here_itself : (y : K) → here y y ≡ 1
  here_itself y = ap (λ r. if is_eq r then 1 else 0) (tied_itself o y)

  -- where elements are at least one, so is what is counted among them
  counted : (x y : K) (zs : List K) → AllByRecursion (λ z. x ⊑ z) zs → 0 < sum_by (here y) zs → x ⊑ y
  counted x y [] all some = absurd (omega arith)
  counted x y (z ∷ zs) all some = by (R z y) refl (λ none. counted x y zs all.1 (omega (arith, some, none, sum_by-cons (here y) z zs)))
    where
      by : (r : Ordering) → R z y ≡ r → (here y z ≡ 0 → x ⊑ y) → x ⊑ y
      by Less e rest = rest (ap (λ r. if is_eq r then 1 else 0) e)
      by Equal e rest = subst (λ w. x ⊑ w) (tells z y e) all.0
      by Greater e rest = rest (ap (λ r. if is_eq r then 1 else 0) e)

  at_itself : (x : K) → x ⊑ x
  at_itself x = ap is_gt (tied_itself o x)

  -- two ascending lists that have the same elements are one
  one_way : (xs ys : List K) → Ascends R xs → Ascends R ys → ((f : K → ℕ) → sum_by f xs ≡ sum_by f ys) → xs ≡ ys
  one_way [] [] up on alike = refl
  one_way [] (y ∷ ys) up on alike = absurd (omega (arith, alike (λ _. 1), sum_by-cons (λ (_ : K). 1) y ys))
  one_way (x ∷ xs) [] up on alike = absurd (omega (arith, alike (λ _. 1), sum_by-cons (λ (_ : K). 1) x xs))
  one_way (x ∷ xs) (y ∷ ys) up on alike =
      let first : x ⊑ y = counted x y (x ∷ xs) (at_itself x, up.0) (omega (arith, alike (here y), sum_by-cons (here y) y ys, here_itself y)) in
      let second : y ⊑ x = counted y x (y ∷ ys) (at_itself y, on.0) (omega (arith, alike (here x), sum_by-cons (here x) x xs, here_itself x)) in
      let one : x ≡ y = same x y first second in
      let others : xs ≡ ys = one_way xs ys up.1 on.1 (λ f. omega (arith, alike f, sum_by-cons f x xs, sum_by-cons f y ys, ap f one)) in
      (λ i. one i ∷ others i)

  -- a list that ascends goes up in steps
  pub ascends_in_steps : (xs : List K) → Ascends R xs → IsUp R xs
  ascends_in_steps [] all k d lt = absurd (omega arith)
  ascends_in_steps (x ∷ []) all k d lt = absurd (omega arith)
  ascends_in_steps (x ∷ y ∷ ys) (all, rest) zero d lt = all.0
  ascends_in_steps (x ∷ y ∷ ys) (all, rest) (suc k) d lt =
      subst (λ n. is_gt (R (get_or (y ∷ ys) k d) (get_or (x ∷ y ∷ ys) n d)) ≡ false) (sym (later k)) (ascends_in_steps (y ∷ ys) rest k d (omega arith))
    where
      later : (k : ℕ) → suc k + 1 ≡ suc (k + 1)
      later k = omega arith

  -- a list that ascends and has the same elements is what is put in order
  pub ascending_is_sorted : (xs ys : List K) → IsPermutation xs ys → Ascends R ys → ys ≡ sorted R xs
  ascending_is_sorted xs ys moved up = one_way ys (sorted R xs) up (sorted_ascends xs)
      (λ f. sum_by-IsPermutation f xs ys moved ∙ sym (sum_by-IsPermutation f xs (sorted R xs) (sorted_permutes xs)))

  pub sorted_is : (xs ys : List K) → IsPermutation xs ys → IsSorted R ys → ys ≡ sorted R xs
  sorted_is xs ys moved up = ascending_is_sorted xs ys moved (ascends_from_steps ys (up_from_sorted ys up))

  -- a list whose steps go up is in order
  pub sorted_itself : (xs : List K) → IsUp R xs → xs ≡ sorted R xs
  sorted_itself xs up = ascending_is_sorted xs xs (IsPermutation-refl xs) (ascends_from_steps xs up)

  -- lists with the same elements are one, put in order
  pub sorted_same : (xs ys : List K) → IsPermutation xs ys → sorted R xs ≡ sorted R ys
  sorted_same xs ys moved = ascending_is_sorted ys (sorted R xs) (IsPermutation-trans _ _ _ (IsPermutation-sym xs ys moved) (sorted_permutes xs)) (sorted_ascends xs)
