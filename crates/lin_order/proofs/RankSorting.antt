-- Ranks of parts put one after the other, and sorted.
use Rattle.std.proofs.Common.{◌≡◌, ◌<◌, ◌≤◌, ◌+◌, ℕ, zero, suc, max, Bool, true, false, cond, nat_eq, ltb, eqb, List, [], ◌∷◌, ◌++◌, length, get_or, map, filter, All, AllPairs, Contains, sum_by, nat_cmp, is_lt, IsPermutation, IsSorted, Less, Equal, Greater, append-nil, length-append, length-take-le, take, inl, inr, refl, sym, ap, subst, ◌∙◌, arith}
use Rattle.std.specs.Ordering.{ordering_then}
use Rattle.std.proofs.lemmas.Bool.{cases_order, ltb-false, ne_eqb}
use Rattle.std.proofs.lemmas.Bool.Decides.{Decides-eqb}
use Rattle.std.proofs.lemmas.List.{get_or_append_left, get_or_past, get_or_push, map-append}
use Rattle.std.proofs.lemmas.List.Elements.{All-cons, All-nil, All-weaker, filter-append}
use Rattle.std.proofs.lemmas.List.Kept.{AllPairs-cons, AllPairs-filter}
use Rattle.std.proofs.lemmas.List.Sums.{sum_by-cons}
use Rattle.std.proofs.lemmas.List.Sorted.{IsNonDecreasingBy-from_all_adjacent, sum_by-IsPermutation}
use Rattle.lin_order.specs.declared.placed.Placed.{Placed}
use Rattle.lin_order.specs.inner.Merging.{AreRanks, ranks_from}
use Rattle.lin_lists.specs.lemmas.Filters.{pairs_map}
use Rattle.lin_order.specs.lemmas.Lists.{take_more}

abbrev hit : ℕ → ℕ → ℕ
hit v x = cond (nat_eq x v) 1 0

-- how often a number stands in a list
abbrev many : ℕ → List ℕ → ℕ
many v [] = 0
many v (x ∷ xs) = hit v x + many v xs

many_here : (x : ℕ) (xs : List ℕ) → 0 < many x (x ∷ xs)
many_here x xs = let one = ap (λ b. cond b 1 0 + many x xs) ((Decides-eqb x x).1 refl) in omega arith

found : (v : ℕ) (xs : List ℕ) → 0 < many v xs → Contains xs v
found v [] some = absurd (omega arith)
found v (x ∷ xs) some = by (nat_eq x v) (Decides-eqb x v).0 some (found v xs)
  where
    by : (b : Bool) → (b ≡ true → x ≡ v) → 0 < cond b 1 0 + many v xs → (0 < many v xs → Contains xs v) → Contains (x ∷ xs) v
    by true same some more = (0, omega arith, same refl)
    by false same some more = let rest = more (omega arith) in (suc rest.0, omega (arith, rest.1), rest.2)

abbrev Rising : List ℕ → Type 0
Rising xs = AllPairs (λ x y. x ≤ y) xs

rest_rising : (x : ℕ) (xs : List ℕ) → Rising (x ∷ xs) → Rising xs
rest_rising x xs rising i j d before within = rising (suc i) (suc j) d (omega arith) (omega arith)

first_least : (x : ℕ) (xs : List ℕ) (v : ℕ) → Rising (x ∷ xs) → Contains (x ∷ xs) v → x ≤ v
first_least x xs v rising there = by there.0 there.1 there.2
  where
    by : (k : ℕ) → k < length (x ∷ xs) → get_or (x ∷ xs) k v ≡ v → x ≤ v
    by zero inside is = omega arith
    by (suc k) inside is = let up = rising 0 (suc k) v (omega arith) inside in omega arith

-- lists that do not fall and have the same numbers are one
same_rising : (xs ys : List ℕ) → Rising xs → Rising ys → ((v : ℕ) → many v xs ≡ many v ys) → xs ≡ ys
same_rising [] [] first second same = refl
same_rising [] (y ∷ ys) first second same = absurd (let here = many_here y ys in let e = same y in omega arith)
same_rising (x ∷ xs) [] first second same = absurd (let here = many_here x xs in let e = same x in omega arith)
same_rising (x ∷ xs) (y ∷ ys) first second same =
    let low = first_least y ys x second (found x (y ∷ ys) (let here = many_here x xs in let e = same x in omega arith)) in
    let high = first_least x xs y first (found y (x ∷ xs) (let here = many_here y ys in let e = same y in omega arith)) in
    let one : x ≡ y = omega arith in
    ap (λ z. z ∷ xs) one ∙ ap (λ l. y ∷ l) (same_rising xs ys (rest_rising x xs first) (rest_rising y ys second)
    (λ v. let e = same v in let heads : hit v x ≡ hit v y = ap (hit v) one in omega arith))

abbrev pub named : ℕ → ℕ × ℕ → Bool
named number r = nat_eq r.1 number

abbrev ranks_with : ℕ → List (ℕ × ℕ) → List ℕ
ranks_with number ranks = map (λ r. r.0) (filter (named number) ranks)

-- the same count over the pairs
tally : (number v : ℕ) (ranks : List (ℕ × ℕ)) → many v (ranks_with number ranks) ≡ sum_by (λ r. cond (nat_eq r.1 number) (cond (nat_eq r.0 v) 1 0) 0) ranks
tally number v [] = refl
tally number v (r ∷ ranks) = by (nat_eq r.1 number) (tally number v ranks) ∙ sym (sum_by-cons (λ r. cond (nat_eq r.1 number) (cond (nat_eq r.0 v) 1 0) 0) r ranks)
  where
    by : (b : Bool) → many v (ranks_with number ranks) ≡ sum_by (λ r. cond (nat_eq r.1 number) (cond (nat_eq r.0 v) 1 0) 0) ranks
        → many v (map (λ r. r.0) (cond b (r ∷ filter (named number) ranks) (filter (named number) ranks)))
        ≡ cond b (cond (nat_eq r.0 v) 1 0) 0 + sum_by (λ r. cond (nat_eq r.1 number) (cond (nat_eq r.0 v) 1 0) 0) ranks
    by true rest = ap (λ k. cond (nat_eq r.0 v) 1 0 + k) rest
    by false rest = rest ∙ omega arith

-- the ranks of a part do not fall
ranks_above : (base : ℕ) (part : List Placed) → All (λ rank. base ≤ rank) (ranks_from base part)
ranks_above base [] = All-nil (λ rank. base ≤ rank)
ranks_above base (p ∷ part) = All-cons (λ rank. base ≤ rank) (max base p.at) (ranks_from (max base p.at) part) (omega arith)
    (All-weaker (λ rank. max base p.at ≤ rank) (λ rank. base ≤ rank) (λ rank up. omega arith) (ranks_from (max base p.at) part) (ranks_above (max base p.at) part))

pub ranks_rise : (base : ℕ) (part : List Placed) → Rising (ranks_from base part)
ranks_rise base [] = λ i j d before within. absurd (omega arith)
ranks_rise base (p ∷ part) = AllPairs-cons (λ x y. x ≤ y) (max base p.at) (ranks_from (max base p.at) part) (ranks_above (max base p.at) part) (ranks_rise (max base p.at) part)

-- a pair that is not less than another has no lesser rank
not_less : (x y : ℕ × ℕ) → is_lt (ordering_then (nat_cmp y.0 x.0) (nat_cmp y.1 x.1)) ≡ false → x.0 ≤ y.0
not_less x y other = by (ltb y.0 x.0) (ltb-false y.0 x.0) other
  where
    by : (b : Bool) → (b ≡ false → x.0 ≤ y.0) → is_lt (ordering_then (cond b Less (cond (eqb y.0 x.0) Equal Greater)) (nat_cmp y.1 x.1)) ≡ false → x.0 ≤ y.0
    by true low other = cc
    by false low other = low refl

-- pairs of a rank and the number of a part
abbrev pub HasRanks : List (List Placed) → List (ℕ × ℕ) → Type 0
HasRanks parts ranks = (number : ℕ) → ranks_with number ranks ≡ ranks_from 0 (get_or parts number [])

pub ranks_sorted : (parts : List (List Placed)) (old new : List (ℕ × ℕ)) → HasRanks parts old → IsPermutation old new
    → IsSorted (λ x y. ordering_then (nat_cmp x.0 y.0) (nat_cmp x.1 y.1)) new → AreRanks parts new
ranks_sorted parts old new has moved sorted = record {
  of_parts = λ number. same_rising (ranks_with number new) (ranks_from 0 (get_or parts number [])) (rising_with number) (ranks_rise 0 (get_or parts number []))
      (λ v. tally number v new ∙ sum_by-IsPermutation (λ r. cond (nat_eq r.1 number) (cond (nat_eq r.0 v) 1 0) 0) old new moved ∙ sym (tally number v old) ∙ ap (many v) (has number));
  rising = rising;
}
  where
    rising : AllPairs (λ x y. x.0 ≤ y.0) new
    rising i j d before within = IsNonDecreasingBy-from_all_adjacent (λ (r : ℕ × ℕ). r.0) new
        (λ k e inside. not_less (get_or new k e) (get_or new (k + 1) e) (sorted k e (omega arith) inside)) i j d (omega arith) within

    rising_with : (number : ℕ) → Rising (ranks_with number new)
    rising_with number = pairs_map (λ (r : ℕ × ℕ). r.0) (λ x y. x ≤ y) (filter (named number) new) (AllPairs-filter (λ x y. x.0 ≤ y.0) (named number) new rising)

-- the ranks of one more part
ranks_named : (wanted number : ℕ) (ranks : List ℕ) → ranks_with wanted (map (λ r. (r, number)) ranks) ≡ cond (nat_eq number wanted) ranks []
ranks_named wanted number ranks = by (nat_eq number wanted) refl ranks
  where
    by : (b : Bool) → nat_eq number wanted ≡ b → (ranks : List ℕ) → ranks_with wanted (map (λ r. (r, number)) ranks) ≡ cond b ranks []
    by true is [] = refl
    by false is [] = refl
    by true is (r ∷ ranks) =
        ap (λ b. map (λ r. r.0) (cond b ((r, number) ∷ filter (named wanted) (map (λ r. (r, number)) ranks)) (filter (named wanted) (map (λ r. (r, number)) ranks)))) is ∙ ap (λ l. r ∷ l) (by true is ranks)
    by false is (r ∷ ranks) =
        ap (λ b. map (λ r. r.0) (cond b ((r, number) ∷ filter (named wanted) (map (λ r. (r, number)) ranks)) (filter (named wanted) (map (λ r. (r, number)) ranks)))) is ∙ by false is ranks

pub ranks_of_more : (done : List (List Placed)) (part : List Placed) (ranks : List (ℕ × ℕ)) → HasRanks done ranks
    → HasRanks (done ++ part ∷ []) (ranks ++ map (λ r. (r, length done)) (ranks_from 0 part))
ranks_of_more done part ranks has number = ap (map (λ (r : ℕ × ℕ). r.0)) (filter-append (named number) ranks (map (λ r. (r, length done)) (ranks_from 0 part)))
    ∙ map-append (λ (r : ℕ × ℕ). r.0) (filter (named number) ranks) (filter (named number) (map (λ r. (r, length done)) (ranks_from 0 part)))
    ∙ ap (λ l. ranks_with number ranks ++ l) (ranks_named number (length done) (ranks_from 0 part)) ∙ by
  where
    by : ranks_with number ranks ++ cond (nat_eq (length done) number) (ranks_from 0 part) [] ≡ ranks_from 0 (get_or (done ++ part ∷ []) number [])
    by = elim (cases_order number (length done)) [
      | inl here ↦
          ap (λ b. ranks_with number ranks ++ cond b (ranks_from 0 part) []) ((Decides-eqb (length done) number).1 (sym here))
          ∙ ap (λ l. l ++ ranks_from 0 part) (has number ∙ ap (ranks_from 0) (get_or_past done number [] (omega arith)))
          ∙ ap (ranks_from 0) (sym (get_or_push done part [] number (sym here)))
      | inr differ ↦ elim differ [
        | inl below ↦
            ap (λ b. ranks_with number ranks ++ cond b (ranks_from 0 part) []) (ne_eqb (length done) number (λ same. omega arith)) ∙ append-nil (ranks_with number ranks)
            ∙ has number ∙ ap (ranks_from 0) (sym (get_or_append_left done (part ∷ []) [] number below))
        | inr above ↦
            let longer = length-append done (part ∷ []) in
            ap (λ b. ranks_with number ranks ++ cond b (ranks_from 0 part) []) (ne_eqb (length done) number (λ same. omega arith)) ∙ append-nil (ranks_with number ranks)
            ∙ has number ∙ ap (ranks_from 0) (get_or_past done number [] (omega arith) ∙ sym (get_or_past (done ++ part ∷ []) number [] (omega arith)))
      ]
    ]

-- the same along the parts
module _ (parts : List (List Placed)) (i : ℕ) (part : List Placed) (inside : i < length parts) (is : part ≡ get_or parts i part) where
  pub ranks_along : (ranks later : List (ℕ × ℕ)) → HasRanks (take i parts) ranks → later ≡ ranks ++ map (λ r. (r, i)) (ranks_from 0 part) → HasRanks (take (i + 1) parts) later
  ranks_along ranks later has made =
      let few = length-take-le i parts (omega arith) in
      let same = made ∙ ap (λ k. ranks ++ map (λ r. (r, k)) (ranks_from 0 part)) (sym few) in
      subst (HasRanks (take (i + 1) parts)) (sym same) (subst (λ l. HasRanks l (ranks ++ map (λ r. (r, length (take i parts))) (ranks_from 0 part))) (sym (take_more parts i part inside is))
      (ranks_of_more (take i parts) part ranks has))
