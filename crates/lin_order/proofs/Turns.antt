-- Taking operations from parts in turn.
use Rattle.std.proofs.Common.{◌≡◌, ◌<◌, ◌≤◌, ◌+◌, ℕ, zero, suc, max, Bool, cond, nat_eq, List, [], ◌∷◌, ◌++◌, length, length-append, length-set, length-take-le, get_or, get_or-set_other, get_or-set_same, map, filter, reverse, set, take, take_all, drop, drop_of_length-le, append-nil, append_assoc, zip, add-one, AllPairs, inl, inr, refl, sym, ap, subst, ◌∙◌, arith}
use Rattle.std.proofs.Math.Seq.{split_at}
use Rattle.std.specs.Global.{Vec}
use Rattle.std.proofs.lemmas.Bool.{cases_eq, cases_lt, ne_eqb}
use Rattle.std.proofs.lemmas.Bool.Decides.{Decides-eqb}
use Rattle.std.proofs.lemmas.List.{get_or-map, get_or_past, length-map, length-reverse, map-append, map-set, reverse-append, reverse-reverse, take-append-le}
use Rattle.std.proofs.lemmas.List.Elements.{filter-append}
use Rattle.std.proofs.lemmas.Slice.Zip.{firsts-zip, seconds-zip}
use Rattle.lin_order.specs.declared.placed.Placed.{Placed}
use Rattle.lin_order.specs.Merging.{IsMerged, lists_of}
use Rattle.lin_order.specs.inner.Merging.{AreRanks, IsTaken, ranks_from}
use Rattle.lin_lists.specs.lemmas.Filters.{filter_of_map, map_pairs}
use Rattle.lin_order.specs.lemmas.Lists.{take_more}
use Rattle.lin_order.proofs.Ranks.{map_twice, merged_by_ranks}
use Rattle.lin_order.proofs.RankSorting.{named}

module _ {X : Type 0} where
  turned_read : (parts : List (List X)) (i : ℕ) → get_or (map reverse (take i parts) ++ drop i parts) i [] ≡ get_or parts i []
  turned_read [] zero = refl
  turned_read [] (suc i) = refl
  turned_read (part ∷ parts) zero = refl
  turned_read (part ∷ parts) (suc i) = turned_read parts i

  turned_set : (parts : List (List X)) (i : ℕ) → i < length parts
      → set (map reverse (take i parts) ++ drop i parts) i (reverse (get_or parts i [])) ≡ map reverse (take (suc i) parts) ++ drop (suc i) parts
  turned_set [] i inside = absurd (omega arith)
  turned_set (part ∷ parts) zero inside = refl
  turned_set (part ∷ parts) (suc i) inside = ap (λ l. reverse part ∷ l) (turned_set parts i (omega arith))

pub turned_more : (now : List (Vec Placed)) (parts : List (List Placed)) (i : ℕ) (part later : Vec Placed) → i < length now → length now ≡ length parts
    → lists_of now ≡ map reverse (take i parts) ++ drop i parts → part ≡ get_or now i part → later.items ≡ reverse part.items
    → lists_of (set now i later) ≡ map reverse (take (i + 1) parts) ++ drop (i + 1) parts
turned_more now parts i part later inside many so_far is turned =
    let here : part.items ≡ get_or parts i [] = ap (λ v. v.items) is ∙ sym (get_or-map (λ v. v.items) now i part [] inside) ∙ ap (λ l. get_or l i []) so_far ∙ turned_read parts i in
    map-set (λ v. v.items) now i later ∙ ap (λ l. set l i later.items) so_far ∙ ap (set (map reverse (take i parts) ++ drop i parts) i) (turned ∙ ap reverse here)
    ∙ turned_set parts i (omega arith) ∙ ap (λ k. map reverse (take k parts) ++ drop k parts) (sym (add-one i))

-- what was taken for the first k ranks, and what is left, turned around
pub record IsTakenTo (parts : List (List Placed)) (ranks : List (ℕ × ℕ)) (k : ℕ) (left : List (List Placed)) (order : List Placed) : Type 0 where
  pub length_of : length order ≡ k
  pub count_of : length left ≡ length parts
  pub parts_of : (number : ℕ) → map (λ p. p.1) (filter (λ p. nat_eq p.0.1 number) (zip (take k ranks) order)) ++ reverse (get_or left number []) ≡ get_or parts number []

pub turned_all : (now parts : List (Vec Placed)) (behind : List (Vec Placed)) (i n : ℕ) → lists_of now ≡ map reverse (take i (lists_of parts)) ++ drop i (lists_of parts) → length parts ≤ i → n ≡ length now
    → lists_of (take n (now ++ behind)) ≡ map reverse (lists_of parts)
turned_all now parts behind i n so_far past is =
    let many : length (lists_of parts) ≡ length parts = length-map parts (λ v. v.items) in
    ap lists_of (take-append-le n now behind (omega arith) ∙ take_all n now (omega arith)) ∙ so_far
    ∙ ap (λ l. map reverse l ++ drop i (lists_of parts)) (take_all i (lists_of parts) (omega arith))
    ∙ ap (λ l. map reverse (lists_of parts) ++ l) (drop_of_length-le (lists_of parts) {i = i} (omega arith)) ∙ append-nil (map reverse (lists_of parts))

abbrev in_part : ℕ → (ℕ × ℕ) × Placed → Bool
in_part number p = nat_eq p.0.1 number

abbrev taken_of : ℕ → List (ℕ × ℕ) → List Placed → List Placed
taken_of number ranks order = map (λ p. p.1) (filter (in_part number) (zip ranks order))

zip_push : {X Y : Type 0} (xs : List X) (ys : List Y) (x : X) (y : Y) → length ys ≡ length xs → zip (xs ++ x ∷ []) (ys ++ y ∷ []) ≡ zip xs ys ++ (x, y) ∷ []
zip_push [] [] x y many = refl
zip_push [] (v ∷ ys) x y many = absurd (omega arith)
zip_push (u ∷ xs) [] x y many = absurd (omega arith)
zip_push (u ∷ xs) (v ∷ ys) x y many = ap (λ l. (u, v) ∷ l) (zip_push xs ys x y (omega arith))

-- as many operations are taken from a part as there are ranks of it
taken_length : (number : ℕ) (ranks : List (ℕ × ℕ)) (order : List Placed) → length order ≡ length ranks → length (taken_of number ranks order) ≡ length (filter (named number) ranks)
taken_length number ranks order many =
    length-map (filter (in_part number) (zip ranks order)) (λ p. p.1) ∙ sym (length-map (filter (in_part number) (zip ranks order)) (λ p. p.0))
    ∙ ap length (sym (filter_of_map (λ (p : (ℕ × ℕ) × Placed). p.0) (named number) (in_part number) (zip ranks order) (λ k d inside. refl)) ∙ ap (filter (named number)) (firsts-zip ranks order many))

ranks_length : (base : ℕ) (part : List Placed) → length (ranks_from base part) ≡ length part
ranks_length base [] = refl
ranks_length base (p ∷ part) = ap suc (ranks_length (max base p.at) part)

module _ (parts : List (List Placed)) (ranks : List (ℕ × ℕ)) (are : AreRanks parts ranks) where
  -- a part has as many operations as ranks
  part_length : (number : ℕ) → length (filter (named number) ranks) ≡ length (get_or parts number [])
  part_length number = sym (length-map (filter (named number) ranks) (λ r. r.0)) ∙ ap length (are.of_parts number) ∙ ranks_length 0 (get_or parts number [])

  pub taken_none : (left : List (List Placed)) (order : List Placed) → left ≡ map reverse parts → order ≡ [] → IsTakenTo parts ranks 0 left order
  taken_none left order turned empty = record {
    length_of = ap length empty;
    count_of = ap length turned ∙ length-map parts reverse;
    parts_of = λ number.
        ap (λ o. map (λ (p : (ℕ × ℕ) × Placed). p.1) (filter (in_part number) (zip [] o)) ++ reverse (get_or left number [])) empty
        ∙ ap (λ l. reverse (get_or l number [])) turned ∙ ap reverse (read_map parts number) ∙ reverse-reverse (get_or parts number []);
  }
    where
      read_map : (parts : List (List Placed)) (number : ℕ) → get_or (map reverse parts) number [] ≡ reverse (get_or parts number [])
      read_map [] number = refl
      read_map (part ∷ parts) zero = refl
      read_map (part ∷ parts) (suc number) = read_map parts number

  module _ (k : ℕ) (r : ℕ × ℕ) (inside : k < length ranks) (is : get_or ranks k r ≡ r) where
    ranks_split : ranks ≡ take k ranks ++ (r ∷ drop (suc k) ranks)
    ranks_split = split_at ranks k r inside ∙ ap (λ x. take k ranks ++ (x ∷ drop (suc k) ranks)) is

    -- fewer ranks of the part are before this one than there are
    fewer : length (filter (named r.1) (take k ranks)) < length (filter (named r.1) ranks)
    fewer =
        let e = ap (filter (named r.1)) ranks_split ∙ filter-append (named r.1) (take k ranks) (r ∷ drop (suc k) ranks)
        ∙ ap (λ b. filter (named r.1) (take k ranks) ++ cond b (r ∷ filter (named r.1) (drop (suc k) ranks)) (filter (named r.1) (drop (suc k) ranks))) ((Decides-eqb r.1 r.1).1 refl) in
        let more = ap length e ∙ length-append (filter (named r.1) (take k ranks)) (r ∷ filter (named r.1) (drop (suc k) ranks)) in
        omega arith

    few_ranks : length (take k ranks) ≡ k
    few_ranks = length-take-le k ranks (omega arith)

    module _ (left : List (List Placed)) (order : List Placed) (so_far : IsTakenTo parts ranks k left order) where
      -- so the part has an operation left
      pub some_left : 0 < length (get_or left r.1 [])
      some_left =
          let many = so_far.length_of in
          let taken = taken_length r.1 (take k ranks) order (many ∙ sym few_ranks) in
          let all = part_length r.1 in
          let parts_len = sym (length-append (taken_of r.1 (take k ranks) order) (reverse (get_or left r.1 []))) ∙ ap length (so_far.parts_of r.1) in
          let turned = length-reverse (get_or left r.1 []) in
          let less = fewer in
          omega arith

      pub number_inside : r.1 < length left
      number_inside = elim (cases_lt r.1 (length left)) [
        | inl below ↦ below
        | inr past ↦ (let none = ap length (get_or_past left r.1 [] past) in let some = some_left in absurd (omega arith))
      ]

      pub taken_more : (later : List (List Placed)) (rest : List Placed) (p : Placed) → get_or left r.1 [] ≡ rest ++ p ∷ [] → later ≡ set left r.1 rest → IsTakenTo parts ranks (k + 1) later (order ++ p ∷ [])
      taken_more later rest p popped made = record {
        length_of = let many = so_far.length_of in length-append order (p ∷ []) ∙ omega arith;
        count_of = ap length made ∙ length-set left r.1 rest ∙ so_far.count_of;
        parts_of = λ number.
            ap (λ l. map (λ (q : (ℕ × ℕ) × Placed). q.1) (filter (in_part number) l) ++ reverse (get_or later number [])) zipped
            ∙ ap (λ l. map (λ (q : (ℕ × ℕ) × Placed). q.1) l ++ reverse (get_or later number [])) (filter-append (in_part number) (zip (take k ranks) order) ((r, p) ∷ []))
            ∙ ap (λ l. l ++ reverse (get_or later number [])) (map-append (λ (q : (ℕ × ℕ) × Placed). q.1) (filter (in_part number) (zip (take k ranks) order)) (filter (in_part number) ((r, p) ∷ [])))
            ∙ by number;
      }
        where
          zipped : zip (take (k + 1) ranks) (order ++ p ∷ []) ≡ zip (take k ranks) order ++ (r, p) ∷ []
          zipped = ap (λ l. zip l (order ++ p ∷ [])) (take_more ranks k r inside (sym is)) ∙ zip_push (take k ranks) order r p (so_far.length_of ∙ sym few_ranks)

          by : (number : ℕ) → (taken_of number (take k ranks) order ++ map (λ (q : (ℕ × ℕ) × Placed). q.1) (cond (nat_eq r.1 number) ((r, p) ∷ []) [])) ++ reverse (get_or later number []) ≡ get_or parts number []
          by number = elim (cases_eq r.1 number) [
            | inl same ↦
                ap (λ b. (taken_of number (take k ranks) order ++ map (λ (q : (ℕ × ℕ) × Placed). q.1) (cond b ((r, p) ∷ []) [])) ++ reverse (get_or later number [])) ((Decides-eqb r.1 number).1 same)
                ∙ append_assoc (taken_of number (take k ranks) order) (p ∷ []) (reverse (get_or later number []))
                ∙ ap (λ l. taken_of number (take k ranks) order ++ p ∷ reverse l) (ap (λ l. get_or l number []) made ∙ ap (λ n. get_or (set left r.1 rest) n []) (sym same) ∙ get_or-set_same left r.1 rest [] number_inside)
                ∙ ap (λ l. taken_of number (take k ranks) order ++ l) (sym (ap reverse popped ∙ reverse-append rest (p ∷ [])))
                ∙ ap (λ n. taken_of number (take k ranks) order ++ reverse (get_or left n [])) same ∙ so_far.parts_of number
            | inr differ ↦
                ap (λ b. (taken_of number (take k ranks) order ++ map (λ (q : (ℕ × ℕ) × Placed). q.1) (cond b ((r, p) ∷ []) [])) ++ reverse (get_or later number [])) (ne_eqb r.1 number differ)
                ∙ ap (λ l. l ++ reverse (get_or later number [])) (append-nil (taken_of number (take k ranks) order))
                ∙ ap (λ l. taken_of number (take k ranks) order ++ reverse l) (ap (λ l. get_or l number []) made ∙ get_or-set_other left r.1 number rest [] (λ e. differ (sym e)))
                ∙ so_far.parts_of number
          ]

  pub taken_whole : (k : ℕ) (left : List (List Placed)) (order : List Placed) → length ranks ≤ k → k ≤ length ranks → IsTakenTo parts ranks k left order → IsTaken parts ranks order
  taken_whole k left order past within taken = record {
    length_of = let many = taken.length_of in omega arith;
    parts_of = λ number.
        let many : length order ≡ length ranks = (let e = taken.length_of in omega arith) in
        let whole = ap (λ l. taken_of number l order ++ reverse (get_or left number [])) (sym (take_all k ranks past)) ∙ taken.parts_of number in
        let counted = taken_length number ranks order many in
        let all = part_length number in
        let lengths = sym (length-append (taken_of number ranks order) (reverse (get_or left number []))) ∙ ap length whole in
        let none : reverse (get_or left number []) ≡ [] = no_elements (reverse (get_or left number [])) (omega arith) in
        sym (append-nil (taken_of number ranks order)) ∙ ap (λ l. taken_of number ranks order ++ l) (sym none) ∙ whole;
  }
    where
      no_elements : {X : Type 0} (xs : List X) → length xs ≡ 0 → xs ≡ []
      no_elements [] is = refl
      no_elements (x ∷ xs) is = absurd (omega arith)

-- what was taken in turn is merged
pub taken_is_merged : (parts : List (List Placed)) (ranks : List (ℕ × ℕ)) (order : List Placed) → AreRanks parts ranks → IsTaken parts ranks order → IsMerged parts order
taken_is_merged parts ranks order are taken = subst (IsMerged parts) (seconds-zip ranks order taken.length_of) (merged_by_ranks parts (zip ranks order) taken.parts_of
    (λ number. sym (map_twice (λ (p : (ℕ × ℕ) × Placed). p.0) (λ r. r.0) (filter (in_part number) (zip ranks order)))
    ∙ ap (map (λ (r : ℕ × ℕ). r.0)) (sym (filter_of_map (λ (p : (ℕ × ℕ) × Placed). p.0) (named number) (in_part number) (zip ranks order) (λ k d inside. refl))
    ∙ ap (filter (named number)) (firsts-zip ranks order taken.length_of))
    ∙ are.of_parts number)
    (map_pairs (λ (p : (ℕ × ℕ) × Placed). p.0) (λ x y. x.0 ≤ y.0) (zip ranks order) (subst (AllPairs (λ x y. x.0 ≤ y.0)) (sym (firsts-zip ranks order taken.length_of)) are.rising)))
