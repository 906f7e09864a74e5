-- Operations that stand by their ranks are merged.
use Rattle.std.proofs.Common.{◌≡◌, ◌<◌, ◌≤◌, ◌⊎◌, ℕ, zero, suc, max, Bool, cond, nat_eq, List, [], ◌∷◌, ◌++◌, length, get_or, map, filter, take, drop, All, AllPairs, Contains, get_or-take, length-take-le, inl, inr, refl, sym, ap, subst, ◌∙◌, arith}
use Rattle.std.proofs.Math.Seq.{split_at}
use Rattle.std.proofs.lemmas.Bool.{cases_lt}
use Rattle.std.proofs.lemmas.Bool.Decides.{Decides-eqb}
use Rattle.std.proofs.lemmas.List.{get_or-map, length-map, get_or_default}
use Rattle.std.proofs.lemmas.List.Elements.{All-cons, All-nil, All-contains, Contains-get_or, Contains-append_cases, Contains-append_right, filter-append}
use Rattle.lin_order.specs.declared.placed.Placed.{Placed}
use Rattle.lin_order.specs.Merging.{IsMerged}
use Rattle.lin_order.specs.inner.Merging.{ranks_from}
use Rattle.lin_lists.specs.lemmas.Elements.{in_filter, from_filter}
use Rattle.lin_lists.specs.lemmas.Filters.{filter_of_map}

-- an operation with its rank and the number of its part
abbrev pub Ranked : Type 0
Ranked = (ℕ × ℕ) × Placed

abbrev pub rank_of : Ranked → ℕ
rank_of z = z.0.0

abbrev pub number_of : Ranked → ℕ
number_of z = z.0.1

abbrev pub operation_of : Ranked → Placed
operation_of z = z.1

abbrev pub has_number : ℕ → Ranked → Bool
has_number number z = nat_eq z.0.1 number

pub map_twice : {X Y Z : Type 0} (f : X → Y) (g : Y → Z) (xs : List X) → map g (map f xs) ≡ map (λ x. g (f x)) xs
map_twice f g [] = refl
map_twice f g (x ∷ xs) = ap (λ l. g (f x) ∷ l) (map_twice f g xs)

-- a rank is no less than the position
bounded : (base : ℕ) (zs : List Ranked) → map rank_of zs ≡ ranks_from base (map operation_of zs) → All (λ z. z.1.at ≤ z.0.0) zs
bounded base [] ranked = All-nil (λ z. z.1.at ≤ z.0.0)
bounded base (z ∷ zs) ranked =
    let first : z.0.0 ≡ max base z.1.at = cc in
    let rest : map rank_of zs ≡ ranks_from (max base z.1.at) (map operation_of zs) = cc in
    All-cons (λ z. z.1.at ≤ z.0.0) z zs (omega arith) (bounded (max base z.1.at) zs rest)

-- a rank is reached by the operation or one before it
reached : (base : ℕ) (xs ys : List Ranked) (y : Ranked) → map rank_of (xs ++ y ∷ ys) ≡ ranks_from base (map operation_of (xs ++ y ∷ ys))
    → (y.0.0 ≤ base) ⊎ ((z : Ranked) × Contains (xs ++ y ∷ []) z × (y.0.0 ≤ z.1.at))
reached base [] ys y ranked =
    let first : y.0.0 ≡ max base y.1.at = cc in
    elim (cases_lt base y.1.at) [
      | inl below ↦ inr (y, (0, omega arith, refl), omega arith)
      | inr past ↦ inl (omega arith)
    ]
reached base (x ∷ xs) ys y ranked =
    let rest : map rank_of (xs ++ y ∷ ys) ≡ ranks_from (max base x.1.at) (map operation_of (xs ++ y ∷ ys)) = cc in
    elim (reached (max base x.1.at) xs ys y rest) [
      | inl low ↦ elim (cases_lt base x.1.at) [
        | inl below ↦ inr (x, (0, omega arith, refl), omega arith)
        | inr past ↦ inl (omega arith)
      ]
      | inr found ↦ inr (found.0, Contains-append_right (x ∷ []) (xs ++ y ∷ []) found.0 found.1, found.2)
    ]

-- each part's operations are there with their ranks, and no rank is less than one ahead of it
module _ (parts : List (List Placed)) (zs : List Ranked)
    (is_part : (number : ℕ) → map operation_of (filter (has_number number) zs) ≡ get_or parts number [])
    (ranked : (number : ℕ) → map rank_of (filter (has_number number) zs) ≡ ranks_from 0 (get_or parts number []))
    (sorted : AllPairs (λ x y. x.0.0 ≤ y.0.0) zs) where
  by_part : (number : ℕ) → map rank_of (filter (has_number number) zs) ≡ ranks_from 0 (map operation_of (filter (has_number number) zs))
  by_part number = ranked number ∙ ap (ranks_from 0) (sym (is_part number))

  above : (j : ℕ) (d : Ranked) → j < length zs → (get_or zs j d).1.at ≤ (get_or zs j d).0.0
  above j d inside =
      let number = (get_or zs j d).0.1 in
      All-contains (λ z. z.1.at ≤ z.0.0) (filter (has_number number) zs) (get_or zs j d) (bounded 0 (filter (has_number number) zs) (by_part number))
      (in_filter (has_number number) zs (get_or zs j d) ((Decides-eqb number number).1 refl) (Contains-get_or zs j d inside))

  filter_at : (j : ℕ) (d : Ranked) → j < length zs
      → filter (has_number (get_or zs j d).0.1) zs ≡ filter (has_number (get_or zs j d).0.1) (take j zs) ++ (get_or zs j d ∷ filter (has_number (get_or zs j d).0.1) (drop (suc j) zs))
  filter_at j d inside =
      let y = get_or zs j d in
      let p = has_number y.0.1 in
      ap (filter p) (split_at zs j d inside) ∙ filter-append p (take j zs) (y ∷ drop (suc j) zs)
      ∙ ap (λ b. filter p (take j zs) ++ cond b (y ∷ filter p (drop (suc j) zs)) (filter p (drop (suc j) zs))) ((Decides-eqb y.0.1 y.0.1).1 refl)

  found : (j : ℕ) (d : Ranked) → j < length zs → (k : ℕ) × (k ≤ j) × ((get_or zs k d).0.1 ≡ (get_or zs j d).0.1) × ((get_or zs j d).0.0 ≤ (get_or zs k d).1.at)
  found j d inside =
      let y = get_or zs j d in
      let p = has_number y.0.1 in
      let equation = subst (λ l. map rank_of l ≡ ranks_from 0 (map operation_of l)) (filter_at j d inside) (by_part y.0.1) in
      elim (reached 0 (filter p (take j zs)) (filter p (drop (suc j) zs)) y equation) [
        | inl low ↦ (j, omega arith, refl, omega arith)
        | inr there ↦ elim (Contains-append_cases (filter p (take j zs)) (y ∷ []) there.0 there.1) [
          | inl earlier ↦
              let from = from_filter p (take j zs) there.0 earlier in
              place from.0.0 there.0 from.0.1 from.0.2 ((Decides-eqb there.0.0.1 y.0.1).0 from.1) there.2
          | inr here ↦ (let same = only here in (j, omega arith, refl, subst (λ z. y.0.0 ≤ z.1.at) (sym same) there.2))
        ]
      ]
    where
      only : {y z : Ranked} → Contains (y ∷ []) z → y ≡ z
      only {y} {z} there = by there.0 there.1 there.2
        where
          by : (k : ℕ) → k < length (y ∷ []) → get_or (y ∷ []) k z ≡ z → y ≡ z
          by zero within is = is
          by (suc k) within is = absurd (omega arith)

      place : (k : ℕ) (z : Ranked) → k < length (take j zs) → get_or (take j zs) k z ≡ z → z.0.1 ≡ (get_or zs j d).0.1 → (get_or zs j d).0.0 ≤ z.1.at
          → (k : ℕ) × (k ≤ j) × ((get_or zs k d).0.1 ≡ (get_or zs j d).0.1) × ((get_or zs j d).0.0 ≤ (get_or zs k d).1.at)
      place k z within is number reach =
          let few = length-take-le j zs (omega arith) in
          let early : k < j = omega arith in
          let at_k : get_or zs k d ≡ z = get_or_default zs k d z (omega arith) ∙ sym (get_or-take j zs k z early) ∙ is in
          (k, omega arith, ap (λ (x : Ranked). x.0.1) at_k ∙ number, subst (λ x. (get_or zs j d).0.0 ≤ x.1.at) (sym at_k) reach)

  abbrev numbered : Ranked → ℕ × Placed
  numbered z = (z.0.1, z.1)

  pub merged_by_ranks : IsMerged parts (map operation_of zs)
  merged_by_ranks = record {
    operations = map numbered zs;
    order_of = map_twice numbered (λ p. p.1) zs;
    parts_of = λ number.
        ap (map (λ (p : ℕ × Placed). p.1)) (filter_of_map numbered (λ p. nat_eq p.0 number) (has_number number) zs (λ k d inside. refl))
        ∙ map_twice numbered (λ p. p.1) (filter (has_number number) zs) ∙ is_part number;
    in_time = λ i j d before within.
        let many : length (map numbered zs) ≡ length zs = length-map zs numbered in
        let e : Ranked = ((0, d.0), d.1) in
        let far = found j e (omega arith) in
        let early = above i e (omega arith) in
        let up : (get_or zs i e).0.0 ≤ (get_or zs j e).0.0 = sorted i j e before (omega arith) in
        let at_i = get_or-map numbered zs i e d (omega arith) in
        let at_j = get_or-map numbered zs j e d (omega arith) in
        let at_k = get_or-map numbered zs far.0 e d (omega (arith, far.1)) in (
          far.0,
          far.1,
          ap (λ (p : ℕ × Placed). p.0) at_k ∙ far.2 ∙ sym (ap (λ (p : ℕ × Placed). p.0) at_j),
          subst (λ p. p.1.at ≤ (get_or (map numbered zs) far.0 d).1.at) (sym at_i) (subst (λ p. (get_or zs i e).1.at ≤ p.1.at) (sym at_k) (omega (arith, far.3))),
        );
  }
