-- What holds of each element or pair of a list, from the left.
use Rattle.std.proofs.Common.{◌≡◌, ◌<◌, ◌≤◌, ℕ, ◌+◌, List, length, All, AllPairs, Contains, refl, sym, subst, ◌∙◌, arith, take, get_or}
use Rattle.std.proofs.lemmas.Option.{get_or_from_slice_get, slice_get_read}
use Rattle.std.proofs.lemmas.List.{get_or-take, length-take-le, take_all}
use Rattle.std.proofs.lemmas.List.Elements.{All-push, All-contains}
use Rattle.std.proofs.lemmas.List.Quantifiers.{all_pairs_push}
use Rattle.lin_order.specs.lemmas.Lists.{take_more}

-- an element that was read stands there, whatever stands past the end
pub read_any : {A : Type 0} (xs : List A) (i : ℕ) (x : A) → i < length xs → x ≡ get_or xs i x → (d : A) → get_or xs i d ≡ x
read_any xs i x inside is d = get_or_from_slice_get xs i x d (slice_get_read xs (length xs) i x refl inside is)

module _ {A : Type 0} (xs : List A) (i : ℕ) (x : A) (inside : i < length xs) (is : x ≡ get_or xs i x) where
  -- of one more element
  pub all_more : (P : A → Type 0) → All P (take i xs) → P x → All P (take (i + 1) xs)
  all_more P all here = subst (All P) (sym (take_more xs i x inside is)) (All-push P (take i xs) x all here)

  pub contains_here : Contains xs x
  contains_here = (i, inside, sym is)

  -- what does not hold of one does not hold of each
  pub not_all : (P : A → Type 0) → (P x → ⊥) → All P xs → ⊥
  not_all P never all = never (All-contains P xs x all contains_here)

  -- of one more element with those before
  pub pairs_more : (R : A → A → Type 0) → AllPairs R (take i xs) → All (λ y. R y x) (take i xs) → AllPairs R (take (i + 1) xs)
  pairs_more R all here = subst (AllPairs R) (sym (take_more xs i x inside is)) (all_pairs_push R (take i xs) x all here)

  -- what does not hold of one and an earlier one does not hold of each pair
  pub not_pairs : (R : A → A → Type 0) (y : A) → Contains (take i xs) y → (R y x → ⊥) → AllPairs R xs → ⊥
  not_pairs R y there never all =
      let few = length-take-le i xs (omega arith) in
      let k : there.0 < length (take i xs) = there.1 in
      let early : there.0 < i = omega arith in
      let at_y = sym (get_or-take i xs there.0 y early) ∙ there.2 in
      never (subst (λ z. R z x) at_y (subst (R (get_or xs there.0 y)) (read_any xs i x inside is y) (all there.0 i y early inside)))

-- of all, once the end is reached
pub at_end : {A : Type 0} (xs : List A) (i : ℕ) (P : List A → Type 0) → length xs ≤ i → P (take i xs) → P xs
at_end xs i P past so_far = subst P (take_all i xs past) so_far
