-- Any orders can be merged: their operations sorted by rank.
use Rattle.std.proofs.Common.{◌≡◌, ◌<◌, ◌≤◌, ◌+◌, ℕ, zero, suc, max, Bool, true, false, cond, nat_eq, leb, List, [], ◌∷◌, ◌++◌, get_or, map, filter, All, AllPairs, Contains, append-nil, refl, sym, ap, subst, ◌∙◌, arith}
use Rattle.std.proofs.lemmas.Bool.{cond_both, leb-true, leb-false, ne_eqb}
use Rattle.std.proofs.lemmas.Bool.Decides.{Decides-eqb}
use Rattle.std.proofs.lemmas.List.Elements.{All-cons, All-tail, All-weaker, All-contains, All-contains_itself, filter-append}
use Rattle.std.proofs.lemmas.List.Kept.{AllPairs-cons}
use Rattle.lin_order.specs.declared.placed.Placed.{Placed}
use Rattle.lin_order.specs.Merging.{IsMerged}
use Rattle.lin_order.specs.inner.Merging.{ranks_from}
use Rattle.lin_lists.specs.lemmas.Elements.{in_filter}
use Rattle.lin_lists.specs.lemmas.Filters.{map_pairs}
use Rattle.lin_order.proofs.RankSorting.{ranks_rise}
use Rattle.lin_order.proofs.Ranks.{Ranked, rank_of, operation_of, has_number, merged_by_ranks}

abbrev Ordered : List Ranked → Type 0
Ordered zs = AllPairs (λ x y. x.0.0 ≤ y.0.0) zs

-- ahead of the first that has no lesser rank
abbrev insert : Ranked → List Ranked → List Ranked
insert x [] = x ∷ []
insert x (y ∷ ys) = cond (leb x.0.0 y.0.0) (x ∷ y ∷ ys) (y ∷ insert x ys)

abbrev sort : List Ranked → List Ranked
sort [] = []
sort (x ∷ xs) = insert x (sort xs)

all_inserted : (P : Ranked → Type 0) (x : Ranked) (ys : List Ranked) → P x → All P ys → All P (insert x ys)
all_inserted P x [] here all = All-cons P x [] here all
all_inserted P x (y ∷ ys) here all =
    let rest = All-tail P y ys all in
    let longer = all_inserted P x ys here rest in
    cond_both (leb x.0.0 y.0.0) (x ∷ y ∷ ys) (y ∷ insert x ys) (All P) (λ yes'. All-cons P x (y ∷ ys) here all) (λ no'. All-cons P y (insert x ys) (all 0 y (omega arith)) longer)

first_least : (y : Ranked) (ys : List Ranked) → Ordered (y ∷ ys) → All (λ z. y.0.0 ≤ z.0.0) ys
first_least y ys ordered k d inside = ordered 0 (suc k) d (omega arith) (omega arith)

tail_ordered : (y : Ranked) (ys : List Ranked) → Ordered (y ∷ ys) → Ordered ys
tail_ordered y ys ordered i j d before within = ordered (suc i) (suc j) d (omega arith) (omega arith)

ordered_inserted : (x : Ranked) (ys : List Ranked) → Ordered ys → Ordered (insert x ys)
ordered_inserted x [] ordered = λ i j d before within. absurd (omega arith)
ordered_inserted x (y ∷ ys) ordered =
    let rest = ordered_inserted x ys (tail_ordered y ys ordered) in
    let least = first_least y ys ordered in
    cond_both (leb x.0.0 y.0.0) (x ∷ y ∷ ys) (y ∷ insert x ys) Ordered
    (λ low.
    let below = leb-true x.0.0 y.0.0 low in
    AllPairs-cons (λ x y. x.0.0 ≤ y.0.0) x (y ∷ ys) (All-cons (λ z. x.0.0 ≤ z.0.0) y ys below (All-weaker (λ z. y.0.0 ≤ z.0.0) (λ z. x.0.0 ≤ z.0.0) (λ z up. omega arith) ys least)) ordered)
    (λ high.
    let over = leb-false x.0.0 y.0.0 high in
    AllPairs-cons (λ x y. x.0.0 ≤ y.0.0) y (insert x ys) (all_inserted (λ z. y.0.0 ≤ z.0.0) x ys (omega arith) least) rest)

ordered_sorted : (xs : List Ranked) → Ordered (sort xs)
ordered_sorted [] = λ i j d before within. absurd (omega arith)
ordered_sorted (x ∷ xs) = ordered_inserted x (sort xs) (ordered_sorted xs)

module _ (p : Ranked → Bool) where
  -- an insert keeps what a filter keeps, if no element that the filter keeps has a lesser rank
  filter_inserted : (x : Ranked) (ys : List Ranked) → All (λ y. p x ≡ true → p y ≡ true → x.0.0 ≤ y.0.0) ys → filter p (insert x ys) ≡ filter p (x ∷ ys)
  filter_inserted x [] low = refl
  filter_inserted x (y ∷ ys) low =
      let rest = filter_inserted x ys (All-tail (λ y. p x ≡ true → p y ≡ true → x.0.0 ≤ y.0.0) y ys low) in
      cond_both (leb x.0.0 y.0.0) (x ∷ y ∷ ys) (y ∷ insert x ys) (λ l. filter p l ≡ filter p (x ∷ y ∷ ys)) (λ yes'. refl)
      (λ high. by (leb-false x.0.0 y.0.0 high) (p x) (p y) (low 0 y (omega arith)) (filter p ys) (filter p (insert x ys)) rest)
    where
      by : y.0.0 < x.0.0 → (a b : Bool) → (a ≡ true → b ≡ true → x.0.0 ≤ y.0.0) → (old new : List Ranked) → new ≡ cond a (x ∷ old) old
          → cond b (y ∷ new) new ≡ cond a (x ∷ cond b (y ∷ old) old) (cond b (y ∷ old) old)
      by over true true low old new is = let never = low refl refl in absurd (omega arith)
      by over true false low old new is = is
      by over false true low old new is = ap (λ l. y ∷ l) is
      by over false false low old new is = is

  filter_sorted : (xs : List Ranked) → Ordered (filter p xs) → filter p (sort xs) ≡ filter p xs
  filter_sorted [] ordered = refl
  filter_sorted (x ∷ xs) ordered = by (p x) refl ordered (filter_sorted xs)
    where
      by : (b : Bool) → p x ≡ b → Ordered (cond b (x ∷ filter p xs) (filter p xs)) → (Ordered (filter p xs) → filter p (sort xs) ≡ filter p xs) → filter p (insert x (sort xs)) ≡ cond b (x ∷ filter p xs) (filter p xs)
      by true is ordered more =
          let rest = more (tail_ordered x (filter p xs) ordered) in
          let least = first_least x (filter p xs) ordered in
          filter_inserted x (sort xs) (All-weaker (Contains (sort xs)) (λ y. p x ≡ true → p y ≡ true → x.0.0 ≤ y.0.0)
          (λ y there yes' kept. All-contains (λ z. x.0.0 ≤ z.0.0) (filter p xs) y least (subst (λ l. Contains l y) rest (in_filter p (sort xs) y kept there))) (sort xs) (All-contains_itself (sort xs)))
          ∙ ap (λ b. cond b (x ∷ filter p (sort xs)) (filter p (sort xs))) is ∙ ap (λ l. x ∷ l) rest
      by false is ordered more =
          let rest = more ordered in
          filter_inserted x (sort xs) (λ k d inside yes' kept. absurd (let never = sym is ∙ yes' in cc))
          ∙ ap (λ b. cond b (x ∷ filter p (sort xs)) (filter p (sort xs))) is ∙ rest

-- the operations of a part with their ranks and the part's number
abbrev tag : ℕ → ℕ → List Placed → List Ranked
tag base number [] = []
tag base number (p ∷ part) = ((max base p.at, number), p) ∷ tag (max base p.at) number part

abbrev tag_all : ℕ → List (List Placed) → List Ranked
tag_all number [] = []
tag_all number (part ∷ parts) = tag 0 number part ++ tag_all (suc number) parts

tag_operations : (base number : ℕ) (part : List Placed) → map operation_of (tag base number part) ≡ part
tag_operations base number [] = refl
tag_operations base number (p ∷ part) = ap (λ l. p ∷ l) (tag_operations (max base p.at) number part)

tag_ranks : (base number : ℕ) (part : List Placed) → map rank_of (tag base number part) ≡ ranks_from base part
tag_ranks base number [] = refl
tag_ranks base number (p ∷ part) = ap (λ l. max base p.at ∷ l) (tag_ranks (max base p.at) number part)

tag_ordered : (base number : ℕ) (part : List Placed) → Ordered (tag base number part)
tag_ordered base number part = map_pairs rank_of (λ x y. x ≤ y) (tag base number part) (subst (AllPairs (λ x y. x ≤ y)) (sym (tag_ranks base number part)) (ranks_rise base part))

filter_tag : (wanted base number : ℕ) (part : List Placed) → filter (has_number wanted) (tag base number part) ≡ cond (nat_eq number wanted) (tag base number part) []
filter_tag wanted base number part = by (nat_eq number wanted) refl base part
  where
    by : (b : Bool) → nat_eq number wanted ≡ b → (base : ℕ) (part : List Placed) → filter (has_number wanted) (tag base number part) ≡ cond b (tag base number part) []
    by true is base [] = refl
    by false is base [] = refl
    by true is base (p ∷ part) =
        ap (λ b. cond b (((max base p.at, number), p) ∷ filter (has_number wanted) (tag (max base p.at) number part)) (filter (has_number wanted) (tag (max base p.at) number part))) is
        ∙ ap (λ l. ((max base p.at, number), p) ∷ l) (by true is (max base p.at) part)
    by false is base (p ∷ part) =
        ap (λ b. cond b (((max base p.at, number), p) ∷ filter (has_number wanted) (tag (max base p.at) number part)) (filter (has_number wanted) (tag (max base p.at) number part))) is
        ∙ by false is (max base p.at) part

filter_later : (wanted number : ℕ) (parts : List (List Placed)) → wanted < number → filter (has_number wanted) (tag_all number parts) ≡ []
filter_later wanted number [] below = refl
filter_later wanted number (part ∷ parts) below =
    let other : nat_eq number wanted ≡ false = ne_eqb number wanted (λ same. omega arith) in
    filter-append (has_number wanted) (tag 0 number part) (tag_all (suc number) parts)
    ∙ ap (λ l. l ++ filter (has_number wanted) (tag_all (suc number) parts)) (filter_tag wanted 0 number part ∙ ap (λ b. cond b (tag 0 number part) []) other)
    ∙ filter_later wanted (suc number) parts (omega arith)

filter_all : (wanted number k : ℕ) (parts : List (List Placed)) → wanted ≡ number + k → filter (has_number wanted) (tag_all number parts) ≡ tag 0 wanted (get_or parts k [])
filter_all wanted number k [] is = refl
filter_all wanted number zero (part ∷ parts) is =
    let one : number ≡ wanted = omega arith in
    filter-append (has_number wanted) (tag 0 number part) (tag_all (suc number) parts)
    ∙ ap (λ l. filter (has_number wanted) (tag 0 number part) ++ l) (filter_later wanted (suc number) parts (omega arith))
    ∙ append-nil (filter (has_number wanted) (tag 0 number part))
    ∙ filter_tag wanted 0 number part ∙ ap (λ b. cond b (tag 0 number part) []) ((Decides-eqb number wanted).1 one) ∙ ap (λ n. tag 0 n part) one
filter_all wanted number (suc k) (part ∷ parts) is =
    let other : nat_eq number wanted ≡ false = ne_eqb number wanted (λ same. omega arith) in
    filter-append (has_number wanted) (tag 0 number part) (tag_all (suc number) parts)
    ∙ ap (λ l. l ++ filter (has_number wanted) (tag_all (suc number) parts)) (filter_tag wanted 0 number part ∙ ap (λ b. cond b (tag 0 number part) []) other)
    ∙ filter_all wanted (suc number) k parts (omega arith)

pub merge_exists : (parts : List (List Placed)) → (order : List Placed) × IsMerged parts order
merge_exists parts = (
  map operation_of (sort (tag_all 0 parts)),
  merged_by_ranks parts (sort (tag_all 0 parts))
      (λ number. ap (map operation_of) (kept number) ∙ tag_operations 0 number (get_or parts number []))
      (λ number. ap (map rank_of) (kept number) ∙ tag_ranks 0 number (get_or parts number []))
      (ordered_sorted (tag_all 0 parts)),
)
  where
    all : (number : ℕ) → filter (has_number number) (tag_all 0 parts) ≡ tag 0 number (get_or parts number [])
    all number = filter_all number 0 number parts (omega arith)

    kept : (number : ℕ) → filter (has_number number) (sort (tag_all 0 parts)) ≡ tag 0 number (get_or parts number [])
    kept number = filter_sorted (has_number number) (tag_all 0 parts) (subst Ordered (sym (all number)) (tag_ordered 0 number (get_or parts number []))) ∙ all number
