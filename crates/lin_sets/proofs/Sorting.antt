-- Lists that were put into another order, and into that of two numbers.
use Rattle.std.proofs.Common.{◌≡◌, ◌<◌, ◌≤◌, ◌+◌, ℕ, zero, suc, Bool, true, false, cond, nat_eq, ltb, eqb, List, [], ◌∷◌, length, get_or, AllPairs, nat_cmp, is_lt, Less, Equal, Greater, inl, inr, refl, sym, ap, subst, ◌∙◌, arith}
use Rattle.std.specs.List.{swap}
use Rattle.std.specs.List.Sorted.{IsPermutation, IsSortedByKey}
use Rattle.std.specs.Ordering.{ordering_then}
use Rattle.std.proofs.lemmas.Bool.{cases_lt, cases_order, ltb-false}
use Rattle.std.proofs.lemmas.Bool.Decides.{Decides-eqb, nat_tests}
use Rattle.std.proofs.lemmas.List.Edits.{length-swap, swapped_from_swap}
use Rattle.std.proofs.lemmas.List.Sorted.{IsPermutation-keeps}
use Rattle.lin_sets.proofs.Ordered.{IsOrdered}

-- what stands at a place when two have changed theirs stood there
moved : ℕ → ℕ → ℕ → ℕ
moved i j k = cond (nat_eq k i) j (cond (nat_eq k j) i k)

moved_first : (i j : ℕ) → moved i j i ≡ j
unfolding moved
moved_first i j = grind (arith, nat_tests)

moved_second : (i j : ℕ) → moved i j j ≡ i
unfolding moved
moved_second i j = grind (arith, nat_tests)

moved_other : (i j k : ℕ) → (k ≡ i → ⊥) → (k ≡ j → ⊥) → moved i j k ≡ k
unfolding moved
moved_other i j k a b = grind (arith, nat_tests)

moved_apart : (i j a b : ℕ) → a < b → moved i j a ≡ moved i j b → ⊥
unfolding moved
moved_apart i j a b before same = grind (arith, nat_tests)

moved_within : (n i j k : ℕ) → i < n → j < n → k < n → moved i j k < n
unfolding moved
moved_within n i j k a b c = grind (arith, nat_tests)

swap_reads : {A : Type 0} (xs : List A) (i j k : ℕ) (d : A) → i < length xs → j < length xs → get_or (swap xs i j) k d ≡ get_or xs (moved i j k) d
swap_reads xs i j k d a b =
    let s = swapped_from_swap xs (swap xs i j) i j d a b refl in
    let read = λ (m : ℕ). get_or xs m d in
    elim (cases_order k i) [
      | inl at_first ↦ ap (λ m. get_or (swap xs i j) m d) at_first ∙ s.0 ∙ sym (ap read (ap (moved i j) at_first ∙ moved_first i j))
      | inr differ ↦ elim (cases_order k j) [
        | inl at_second ↦ ap (λ m. get_or (swap xs i j) m d) at_second ∙ s.1 ∙ sym (ap read (ap (moved i j) at_second ∙ moved_second i j))
        | inr apart ↦
            let not_first : k ≡ i → ⊥ = λ same. elim differ [ inl before ↦ omega arith | inr after ↦ omega arith ] in
            let not_second : k ≡ j → ⊥ = λ same. elim apart [ inl before ↦ omega arith | inr after ↦ omega arith ] in
            s.2 k not_first not_second ∙ sym (ap read (moved_other i j k not_first not_second))
      ]
    ]

pairs_swapped : {A : Type 0} (R : A → A → Type 0) → ((x y : A) → R x y → R y x) → (xs : List A) (i j : ℕ) → i < length xs → j < length xs → AllPairs R xs → AllPairs R (swap xs i j)
pairs_swapped R back xs i j a b all m n d before within =
    let long = length-swap xs i j in
    let first = swap_reads xs i j m d a b in
    let second = swap_reads xs i j n d a b in
    let m_in = moved_within (length xs) i j m a b (omega arith) in
    let n_in = moved_within (length xs) i j n a b (omega arith) in
    subst (λ x. R x (get_or (swap xs i j) n d)) (sym first) (subst (R (get_or xs (moved i j m) d)) (sym second) (
    elim (cases_order (moved i j m) (moved i j n)) [
      | inl same ↦ absurd (moved_apart i j m n before same)
      | inr rest ↦ elim rest [
        | inl below ↦ all (moved i j m) (moved i j n) d below n_in
        | inr above ↦ back _ _ (all (moved i j n) (moved i j m) d above m_in)
      ]
    ]))

-- what holds of each pair, whichever comes first, holds in another order too
pub pairs_permuted : {A : Type 0} (R : A → A → Type 0) → ((x y : A) → R x y → R y x) → (xs ys : List A) → IsPermutation xs ys → AllPairs R xs → AllPairs R ys
pairs_permuted R back xs ys moves all = IsPermutation-keeps xs (AllPairs R) all (λ l i j a b kept. pairs_swapped R back l i j a b kept) ys moves

-- the one pair of numbers comes no later
abbrev Lower : ℕ × ℕ → ℕ × ℕ → Type 0
Lower x y = (x.0 ≤ y.0) × (y.0 ≤ x.0 → x.1 ≤ y.1)

lower : (x y : ℕ × ℕ) → is_lt (ordering_then (nat_cmp y.0 x.0) (nat_cmp y.1 x.1)) ≡ false → Lower x y
lower x y other = by (ltb y.0 x.0) (ltb-false y.0 x.0) (eqb y.0 x.0) (Decides-eqb y.0 x.0).1 (ltb y.1 x.1) (ltb-false y.1 x.1) other
  where
    by : (b : Bool) → (b ≡ false → x.0 ≤ y.0) → (e : Bool) → (y.0 ≡ x.0 → e ≡ true) → (c : Bool) → (c ≡ false → x.1 ≤ y.1)
        → is_lt (ordering_then (cond b Less (cond e Equal Greater)) (cond c Less (cond (eqb y.1 x.1) Equal Greater))) ≡ false → Lower x y
    by true low e same c next other = cc
    by false low true same true next other = cc
    by false low true same false next other = (low refl, λ up. next refl)
    by false low false same c next other = (low refl, λ up. let down = low refl in let e = same (omega (arith, down, up)) in cc)

lower_on : (x y z : ℕ × ℕ) → Lower x y → Lower y z → Lower x z
lower_on x y z one two =
    let a = one.0 in
    let b = two.0 in (
      omega (arith, a, b),
      λ up.
          let c = one.1 (omega (arith, b, up)) in
          let d = two.1 (omega (arith, a, up)) in
          omega (arith, c, d),
    )

module _ {X : Type 0} (key : X → ℕ × ℕ) (xs : List X) (sorted : IsSortedByKey key (λ x y. ordering_then (nat_cmp x.0 y.0) (nat_cmp x.1 y.1)) xs) where
  next_lower : (k : ℕ) (d : X) → k + 1 < length xs → Lower (key (get_or xs k d)) (key (get_or xs (k + 1) d))
  next_lower k d within = lower (key (get_or xs k d)) (key (get_or xs (k + 1) d)) (sorted k d (omega arith) within)

  pub sorted_pairs : AllPairs (λ x y. ((key x).0 ≤ (key y).0) × ((key y).0 ≤ (key x).0 → (key x).1 ≤ (key y).1)) xs
  sorted_pairs i zero d before within = absurd (omega (arith, before))
  sorted_pairs i (suc j) d before within =
      let next : Lower (key (get_or xs j d)) (key (get_or xs (suc j) d)) = subst (λ k. Lower (key (get_or xs j d)) (key (get_or xs k d))) (omega arith) (next_lower j d (omega (arith, within))) in
      elim (cases_lt i j) [
        | inl less ↦ lower_on (key (get_or xs i d)) (key (get_or xs j d)) (key (get_or xs (suc j) d)) (sorted_pairs i j d less (omega (arith, within))) next
        | inr from ↦ subst (λ k. Lower (key (get_or xs k d)) (key (get_or xs (suc j) d))) (omega (arith, before, from)) next
      ]

-- pairs by places are pairs of elements
pub ordered_of : {A : Type 0} (R : A → A → Type 0) (xs : List A) → AllPairs R xs → IsOrdered R xs
ordered_of R [] pairs = tt
ordered_of R (x ∷ xs) pairs = (
  λ y there. subst (R x) there.2 (pairs 0 (suc there.0) y (omega arith) (let within = there.1 in omega (arith, within))),
  ordered_of R xs (λ i j d before within. pairs (suc i) (suc j) d (omega (arith, before)) (omega (arith, within))),
)
