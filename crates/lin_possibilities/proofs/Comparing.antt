-- Lists compared place by place.
use Rattle.std.proofs.Common.{◌≡◌, ◌+◌, ◌<◌, ◌≤◌, ℕ, true, false, List, [], ◌∷◌, drop, get_or, length, map, refl, sym, ap, ◌∙◌}
use Rattle.std.specs.Cmp.Lexicographic.{slice_cmp}
use Rattle.std.specs.Ordering.{is_ne, ordering_then}
use Rattle.std.specs.declared.cmp.Ordering.{Ordering}
use Rattle.std.specs.declared.cmp.Ordering.TheVariants.{Less, Equal, Greater}
use Rattle.std.proofs.lemmas.List.{drop_all, drop_more}
use Rattle.lin_lists.specs.lemmas.Taken.{element_at}

goes_on : (o r : Ordering) → is_ne o ≡ false → ordering_then o r ≡ r
goes_on Less r same = cc
goes_on Equal r same = refl
goes_on Greater r same = cc

stops : (o r : Ordering) → is_ne o ≡ true → o ≡ ordering_then o r
stops Less r differs = refl
stops Equal r differs = cc
stops Greater r differs = refl

module _ {A K : Type 0} (R : K → K → Ordering) (f : A → K) where
  abbrev pub compared : List A → List A → Ordering
  compared xs ys = slice_cmp R (map f xs) (map f ys)

  -- what stands at a place decides, and then what is behind it
  at_place : (xs ys : List A) (n : ℕ) (d e : A) → n < length xs → n < length ys
      → compared (drop n xs) (drop n ys) ≡ ordering_then (R (f (get_or xs n d)) (f (get_or ys n e))) (compared (drop (n + 1) xs) (drop (n + 1) ys))
  at_place xs ys n d e here there =
      ap (λ l. compared l (drop n ys)) (drop_more xs n d here) ∙ ap (λ l. compared (get_or xs n d ∷ drop (n + 1) xs) l) (drop_more ys n e there)

  -- where nothing differs at a place, what is behind it decides
  pub no_difference : (xs ys : List A) (n : ℕ) (d y : A) (o : Ordering) → n < length xs → n < length ys → y ≡ get_or ys n y → o ≡ R (f (get_or xs n d)) (f y) → is_ne o ≡ false
      → compared (drop n xs) (drop n ys) ≡ compared (drop (n + 1) xs) (drop (n + 1) ys)
  no_difference xs ys n d y o here there read is same =
      at_place xs ys n d y here there ∙ goes_on _ _ (ap (λ z. is_ne (R (f (get_or xs n d)) (f z))) (sym read) ∙ ap is_ne (sym is) ∙ same)

  -- and else what stands there
  pub difference : (xs ys : List A) (n : ℕ) (d y : A) (o : Ordering) → n < length xs → n < length ys → y ≡ get_or ys n y → o ≡ R (f (get_or xs n d)) (f y) → is_ne o ≡ true
      → o ≡ compared (drop n xs) (drop n ys)
  difference xs ys n d y o here there read is differs =
      stops _ _ differs ∙ ap (λ p. ordering_then p (compared (drop (n + 1) xs) (drop (n + 1) ys))) (is ∙ ap (λ z. R (f (get_or xs n d)) (f z)) read) ∙ sym (at_place xs ys n d y here there)

  -- one list ends, or both do
  pub first_ends : (xs ys : List A) (n : ℕ) → length xs ≤ n → n < length ys → Less ≡ compared (drop n xs) (drop n ys)
  first_ends xs ys n ended on =
      sym (ap (λ l. compared l (drop n ys)) (drop_all n xs ended) ∙ ap (λ l. compared [] l) (drop_more ys n (element_at ys n on).0 on))

  pub second_ends : (xs ys : List A) (n : ℕ) → n < length xs → length ys ≤ n → Greater ≡ compared (drop n xs) (drop n ys)
  second_ends xs ys n on ended =
      sym (ap (λ l. compared (drop n xs) l) (drop_all n ys ended) ∙ ap (λ l. compared l []) (drop_more xs n (element_at xs n on).0 on))

  pub both_end : (xs ys : List A) (n : ℕ) → length xs ≤ n → length ys ≤ n → Equal ≡ compared (drop n xs) (drop n ys)
  both_end xs ys n ended also = sym (ap (λ l. compared l (drop n ys)) (drop_all n xs ended) ∙ ap (λ l. compared [] l) (drop_all n ys also))
