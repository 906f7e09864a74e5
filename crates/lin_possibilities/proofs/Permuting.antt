-- Lists whose elements are put in another order.
use Rattle.std.proofs.Common.{◌≡◌, ◌<◌, ℕ, cond, nat_eq, List, length, get_or, AllPairs, inl, inr, refl, sym, ap, subst, ◌∙◌, arith}
use Rattle.std.specs.List.{AllZip, swap}
use Rattle.std.specs.List.Sorted.{IsPermutation}
use Rattle.std.proofs.lemmas.Bool.{cases_order}
use Rattle.std.proofs.lemmas.Bool.Decides.{nat_tests}
use Rattle.std.proofs.lemmas.List.Edits.{length-swap, swapped_from_swap}
use Rattle.std.proofs.lemmas.List.Sorted.{IsPermutation-keeps, IsPermutation-refl, IsPermutation-swap, IsPermutation-trans}
use Rattle.lin_possibilities.proofs.Zips.{zip_at, zip_from, zip_length}

-- what stands at a place when two have changed theirs stood there
moved : ℕ → ℕ → ℕ → ℕ
moved i j k = cond (nat_eq k i) j (cond (nat_eq k j) i k)

moved_first : (i j : ℕ) → moved i j i ≡ j
unfolding moved
moved_first i j = grind (arith, nat_tests)

moved_second : (i j : ℕ) → moved i j j ≡ i
unfolding moved
moved_second i j = grind (arith, nat_tests)

moved_other : (i j k : ℕ) → (k ≡ i → ⊥) → (k ≡ j → ⊥) → moved i j k ≡ k
unfolding moved
moved_other i j k a b = grind (arith, nat_tests)

moved_apart : (i j a b : ℕ) → a < b → moved i j a ≡ moved i j b → ⊥
unfolding moved
moved_apart i j a b before same = grind (arith, nat_tests)

moved_within : (n i j k : ℕ) → i < n → j < n → k < n → moved i j k < n
unfolding moved
moved_within n i j k a b c = grind (arith, nat_tests)

swap_reads : {A : Type 0} (xs : List A) (i j k : ℕ) (d : A) → i < length xs → j < length xs → get_or (swap xs i j) k d ≡ get_or xs (moved i j k) d
swap_reads xs i j k d a b =
    let s = swapped_from_swap xs (swap xs i j) i j d a b refl in
    let read = λ (m : ℕ). get_or xs m d in
    elim (cases_order k i) [
      | inl at_first ↦ ap (λ m. get_or (swap xs i j) m d) at_first ∙ s.0 ∙ sym (ap read (ap (moved i j) at_first ∙ moved_first i j))
      | inr differ ↦ elim (cases_order k j) [
        | inl at_second ↦ ap (λ m. get_or (swap xs i j) m d) at_second ∙ s.1 ∙ sym (ap read (ap (moved i j) at_second ∙ moved_second i j))
        | inr apart ↦
            let not_first : k ≡ i → ⊥ = λ same. elim differ [ inl before ↦ omega arith | inr after ↦ omega arith ] in
            let not_second : k ≡ j → ⊥ = λ same. elim apart [ inl before ↦ omega arith | inr after ↦ omega arith ] in
            s.2 k not_first not_second ∙ sym (ap read (moved_other i j k not_first not_second))
      ]
    ]

pairs_swapped : {A : Type 0} (R : A → A → Type 0) → ((x y : A) → R x y → R y x) → (xs : List A) (i j : ℕ) → i < length xs → j < length xs → AllPairs R xs → AllPairs R (swap xs i j)
pairs_swapped R back xs i j a b all m n d before within =
    let long = length-swap xs i j in
    let first = swap_reads xs i j m d a b in
    let second = swap_reads xs i j n d a b in
    let m_in = moved_within (length xs) i j m a b (omega arith) in
    let n_in = moved_within (length xs) i j n a b (omega arith) in
    let whole = subst (λ x. R x (get_or (swap xs i j) n d)) (sym first) (subst (R (get_or xs (moved i j m) d)) (sym second) (
    elim (cases_order (moved i j m) (moved i j n)) [
      | inl same ↦ absurd (moved_apart i j m n before same)
      | inr rest ↦ elim rest [
        | inl below ↦ all (moved i j m) (moved i j n) d below n_in
        | inr above ↦ back _ _ (all (moved i j n) (moved i j m) d above m_in)
      ]
    ])) in
    whole

-- what holds of each pair, whichever comes first, holds in another order too
pub pairs_permuted : {A : Type 0} (R : A → A → Type 0) → ((x y : A) → R x y → R y x) → (xs ys : List A) → IsPermutation xs ys → AllPairs R xs → AllPairs R ys
pairs_permuted R back xs ys perm all = IsPermutation-keeps xs (AllPairs R) all (λ l i j a b kept. pairs_swapped R back l i j a b kept) ys perm

module _ {A B : Type 0} (R : A → B → Type 0) where
  zip_swapped : (xs : List A) (ys : List B) (i j : ℕ) → i < length ys → j < length ys → AllZip R xs ys → AllZip R (swap xs i j) (swap ys i j)
  zip_swapped xs ys i j a b zip =
      let long = zip_length R xs ys zip in
      let long_x = length-swap xs i j in
      let long_y = length-swap ys i j in
      zip_from R (swap xs i j) (swap ys i j) (omega arith) (λ k d e within.
      let k_in = moved_within (length xs) i j k (omega arith) (omega arith) (omega arith) in
      subst (λ x. R x (get_or (swap ys i j) k e)) (sym (swap_reads xs i j k d (omega arith) (omega arith)))
      (subst (R (get_or xs (moved i j k) d)) (sym (swap_reads ys i j k e a b)) (zip_at R xs ys zip (moved i j k) d e k_in)))

  -- where the one list is put in another order, so is the other
  pub zip_permuted : (xs : List A) (ys zs : List B) → AllZip R xs ys → IsPermutation ys zs → (ws : List A) × IsPermutation xs ws × AllZip R ws zs
  zip_permuted xs ys zs zip perm = IsPermutation-keeps ys (λ l. (ws : List A) × IsPermutation xs ws × AllZip R ws l) (xs, IsPermutation-refl xs, zip)
      (λ l i j a b kept.
      let long = zip_length R kept.0 l kept.2 in
      (swap kept.0 i j, IsPermutation-trans xs kept.0 (swap kept.0 i j) kept.1 (IsPermutation-swap kept.0 (swap kept.0 i j) i j (omega arith) (omega arith) refl), zip_swapped kept.0 l i j a b kept.2))
      zs perm
