-- What was open at a mark, after each of the changes.
use Rattle.std.proofs.Common.{◌≡◌, ◌≢◌, ◌<◌, ◌≤◌, ℕ, zero, suc, Bool, true, false, nat_eq, nat_lt, List, [], ◌∷◌, ◌++◌, length, Some, refl, sym, ap, ◌∙◌, subst, arith, append_assoc, get_or, set, slice_get, take, drop, map, filter, cond, All, AllPairs, Contains}
use Rattle.std.specs.List.{remove, swap}
use Rattle.std.specs.List.Sorted.{IsPermutation}
use Rattle.std.proofs.lemmas.Bool.Decides.{Decides-eqb, Decides-ltb}
use Rattle.std.proofs.lemmas.List.{append-nil, get_or-map, length-map, map-append, take-append-le, drop-append-le}
use Rattle.std.proofs.lemmas.List.Edits.{swap_is}
use Rattle.std.proofs.lemmas.List.Elements.{All-head, All-tail, filter-append}
use Rattle.std.proofs.lemmas.List.Sorted.{IsPermutation-refl, IsPermutation-sym, IsPermutation-trans, IsPermutation-append_comm, IsPermutation-append_left, IsPermutation-append_right, IsPermutation-map, Contains-permutation}
use Rattle.std.proofs.lemmas.Map.Keys.{IsDistinct-IsPermutation}
use Rattle.std.proofs.lemmas.Map.Made.{AllPairs-from_IsDistinct, IsDistinct-from_AllPairs}
use Rattle.lin_events.specs.declared.calls.Call.TheVariants.{Read}
use Rattle.lin_events.specs.declared.events.Event.{Event}
use Rattle.lin_frontier.specs.declared.pending.Open.{Open}
use Rattle.lin_frontier.specs.Frontiers.{IsPending}
use Rattle.lin_frontier.specs.declared.opens.OpenMark.{OpenMark}
use Rattle.lin_frontier.specs.Opens.{called_before, fresh}

-- the positions of the calls
abbrev at_of : Open → ℕ
at_of o = o.at

abbrev none : Open
none = record { process = 0; at = 0; call = Read; crashed = false }

-- the list may stand in another order
pub pending_permuted : (h : List Event) (xs ys : List Open) → IsPermutation xs ys → IsPending h xs → IsPending h ys
pending_permuted h xs ys moved pending = record {
  once = from_numbers ys (AllPairs-from_IsDistinct Decides-eqb (map at_of ys)
      (IsDistinct-IsPermutation nat_eq flips (map at_of xs) (map at_of ys) (IsPermutation-map at_of xs ys moved) (IsDistinct-from_AllPairs Decides-eqb (map at_of xs) (to_numbers xs pending.once))));
  sound = λ o there. pending.sound o (back o there);
  complete = λ at process key call open'. let found = pending.complete at process key call open' in (found.0, Contains-permutation xs ys found.0 moved found.1, found.2);
  crashed = λ o there. pending.crashed o (back o there);
}
  where
    back : (o : Open) → Contains ys o → Contains xs o
    back o there = Contains-permutation ys xs o (IsPermutation-sym xs ys moved) there

    flips : (x y : ℕ) → nat_eq x y ≡ nat_eq y x
    flips x y = by (nat_eq x y) (nat_eq y x) refl refl
      where
        differ : true ≡ false → ⊥
        differ d = cc

        by : (b c : Bool) → nat_eq x y ≡ b → nat_eq y x ≡ c → b ≡ c
        by true true e f = refl
        by false false e f = refl
        by true false e f = absurd (differ (sym ((Decides-eqb y x).1 (sym ((Decides-eqb x y).0 e))) ∙ f))
        by false true e f = absurd (differ (sym ((Decides-eqb x y).1 (sym ((Decides-eqb y x).0 f))) ∙ e))

    to_numbers : (l : List Open) → AllPairs (λ o p. o.at ≢ p.at) l → AllPairs (λ x y. x ≢ y) (map at_of l)
    to_numbers l all i j d below inside =
        let len = length-map l at_of in
        subst (λ n. n ≢ get_or (map at_of l) j d) (sym (get_or-map at_of l i none d (omega arith)))
        (subst (λ n. (get_or l i none).at ≢ n) (sym (get_or-map at_of l j none d (omega arith))) (all i j none below (omega arith)))

    from_numbers : (l : List Open) → AllPairs (λ x y. x ≢ y) (map at_of l) → AllPairs (λ o p. o.at ≢ p.at) l
    from_numbers l all i j d below inside =
        let len = length-map l at_of in
        subst (λ n. n ≢ (get_or l j d).at) (get_or-map at_of l i d 0 (omega arith))
        (subst (λ n. get_or (map at_of l) i 0 ≢ n) (get_or-map at_of l j d 0 inside) (all i j 0 below (omega arith)))

module _ (place : ℕ) where
  abbrev tests : Open → Bool
  tests o = nat_lt o.at place

  -- one after the other
  pub before_append : (xs ys : List Open) → called_before place (xs ++ ys) ≡ called_before place xs ++ called_before place ys
  before_append xs ys = ap (filter tests) (map-append fresh xs ys) ∙ filter-append tests (map fresh xs) (map fresh ys)

  before_cons : (o : Open) (xs : List Open) → called_before place (o ∷ xs) ≡ called_before place (o ∷ []) ++ called_before place xs
  before_cons o xs = before_append (o ∷ []) xs

  -- one that was called later isn't among them
  pub later : (o : Open) → place ≤ o.at → called_before place (o ∷ []) ≡ []
  later o behind = by (nat_lt o.at place) refl
    where
      by : (b : Bool) → nat_lt o.at place ≡ b → called_before place (o ∷ []) ≡ []
      by true e = absurd (let l = (Decides-ltb o.at place).0 e in omega arith)
      by false e = ap (λ b. cond b (fresh o ∷ []) []) e

  exchange : (a b c : List Open) → IsPermutation (a ++ (b ++ c)) (b ++ (a ++ c))
  exchange a b c = subst (λ l. IsPermutation l (b ++ (a ++ c))) (append_assoc a b c) (subst (IsPermutation ((a ++ b) ++ c)) (append_assoc b a c) (IsPermutation-append_left c (a ++ b) (b ++ a) (IsPermutation-append_comm a b)))

  pub in_turn : {xs ys zs : List Open} → IsPermutation xs ys → IsPermutation ys zs → IsPermutation xs zs
  in_turn {xs} {ys} {zs} a b = IsPermutation-trans xs ys zs a b

  pub same : {xs ys : List Open} → xs ≡ ys → IsPermutation xs ys
  same {xs} e = subst (IsPermutation xs) e (IsPermutation-refl xs)

  behind : (o : Open) (xs ys : List Open) → IsPermutation (called_before place xs) (called_before place ys) → IsPermutation (called_before place (o ∷ xs)) (called_before place (o ∷ ys))
  behind o xs ys moved = in_turn (same (before_cons o xs)) (in_turn (IsPermutation-append_right (called_before place (o ∷ [])) (called_before place xs) (called_before place ys) moved) (same (sym (before_cons o ys))))

  turned : (o p : Open) (xs : List Open) → IsPermutation (called_before place (o ∷ p ∷ xs)) (called_before place (p ∷ o ∷ xs))
  turned o p xs =
      in_turn (same (before_cons o (p ∷ xs) ∙ ap (λ l. called_before place (o ∷ []) ++ l) (before_cons p xs)))
      (in_turn (exchange (called_before place (o ∷ [])) (called_before place (p ∷ [])) (called_before place xs)) (same (sym (before_cons p (o ∷ xs) ∙ ap (λ l. called_before place (p ∷ []) ++ l) (before_cons o xs)))))

  some_same : {x y : Open} → Some x ≡ Some y → x ≡ y
  some_same e = cc

  -- one taken out and put first
  first : (xs : List Open) (i : ℕ) (o : Open) → slice_get xs i ≡ Some o → IsPermutation (called_before place xs) (called_before place (o ∷ remove xs i))
  first [] i o at = cc
  first (x ∷ xs) zero o at = same (ap (λ y. called_before place (y ∷ xs)) (some_same at))
  first (x ∷ xs) (suc i) o at = in_turn (behind x xs (o ∷ remove xs i) (first xs i o at)) (turned x o (remove xs i))

  -- one put in another's place
  put : (xs : List Open) (i : ℕ) (y : Open) → i < length xs → IsPermutation (called_before place (set xs i y)) (called_before place (y ∷ remove xs i))
  put [] i y inside = absurd (omega arith)
  put (x ∷ xs) zero y inside = IsPermutation-refl (called_before place (y ∷ xs))
  put (x ∷ xs) (suc i) y inside = in_turn (behind x (set xs i y) (y ∷ remove xs i) (put xs i y (omega arith))) (turned x y (remove xs i))

  remove_set : (xs : List Open) (i : ℕ) (y : Open) → remove (set xs i y) i ≡ remove xs i
  remove_set [] i y = refl
  remove_set (x ∷ xs) zero y = refl
  remove_set (x ∷ xs) (suc i) y = ap (λ l. x ∷ l) (remove_set xs i y)

  get_set : (xs : List Open) (i : ℕ) (y d : Open) → i < length xs → get_or (set xs i y) i d ≡ y
  get_set [] i y d inside = absurd (omega arith)
  get_set (x ∷ xs) zero y d inside = refl
  get_set (x ∷ xs) (suc i) y d inside = get_set xs i y d (omega arith)

  length_set : (xs : List Open) (i : ℕ) (y : Open) → length (set xs i y) ≡ length xs
  length_set [] i y = refl
  length_set (x ∷ xs) zero y = refl
  length_set (x ∷ xs) (suc i) y = ap suc (length_set xs i y)

  inside_of : (xs : List Open) (i : ℕ) (o : Open) → slice_get xs i ≡ Some o → i < length xs
  inside_of [] i o at = cc
  inside_of (x ∷ xs) zero o at = omega arith
  inside_of (x ∷ xs) (suc i) o at = let rest = inside_of xs i o at in omega arith

  -- exchanged with an earlier one, and crashed
  abbrev exchanged : List Open → ℕ → ℕ → Open → List Open
  exchanged xs c i y = set (set (set xs i y) c (get_or (set xs i y) i y)) i (get_or (set xs i y) c y)

  moved_first : (xs : List Open) (c i : ℕ) (o y : Open) → c ≤ i → slice_get xs i ≡ Some o → fresh y ≡ fresh o → IsPermutation (called_before place xs) (called_before place (exchanged xs c i y))
  moved_first [] c i o y before at alike = cc
  moved_first (x ∷ xs) zero zero o y before at alike = same (ap (λ z. filter tests (z ∷ map fresh xs)) (ap fresh (some_same at) ∙ sym alike))
  moved_first (x ∷ xs) zero (suc i) o y before at alike =
      let zs = set xs i y in
      let inside = inside_of xs i o at in
      let long = length_set xs i y in
      let as_y : called_before place (o ∷ x ∷ remove xs i) ≡ called_before place (y ∷ x ∷ remove xs i) = ap (λ z. filter tests (z ∷ map fresh (x ∷ remove xs i))) (sym alike) in
      in_turn (behind x xs (o ∷ remove xs i) (first xs i o at)) (in_turn (turned x o (remove xs i)) (in_turn (same as_y) (in_turn
      (behind y (x ∷ remove xs i) (set zs i x) (IsPermutation-sym (called_before place (set zs i x)) (called_before place (x ∷ remove xs i)) (in_turn (put zs i x (omega (arith, long))) (same (ap (λ l. called_before place (x ∷ l)) (remove_set xs i y))))))
      (same (ap (λ z. called_before place (z ∷ set zs i x)) (sym (get_set xs i y y inside)))))))
  moved_first (x ∷ xs) (suc c) zero o y before at alike = absurd (omega arith)
  moved_first (x ∷ xs) (suc c) (suc i) o y before at alike = behind x xs (exchanged xs c i y) (moved_first xs c i o y (omega arith) at alike)

  -- those behind the crashed ones, where one of them crashes
  moved_behind : (xs : List Open) (k c i : ℕ) (o y : Open) → k ≤ c → c ≤ i → slice_get xs i ≡ Some o → fresh y ≡ fresh o
      → (take k (exchanged xs c i y) ≡ take k xs) × IsPermutation (called_before place (drop k xs)) (called_before place (drop k (exchanged xs c i y)))
  moved_behind xs zero c i o y below before at alike = (refl, moved_first xs c i o y before at alike)
  moved_behind [] (suc k) c i o y below before at alike = cc
  moved_behind (x ∷ xs) (suc k) zero i o y below before at alike = absurd (omega arith)
  moved_behind (x ∷ xs) (suc k) (suc c) zero o y below before at alike = absurd (omega arith)
  moved_behind (x ∷ xs) (suc k) (suc c) (suc i) o y below before at alike =
      let rest = moved_behind xs k c i o y (omega arith) (omega arith) at alike in
      (ap (λ l. x ∷ l) rest.0, rest.1)

  -- and where one of them ends
  ended_behind : (xs : List Open) (k i : ℕ) (o : Open) → k ≤ i → slice_get xs i ≡ Some o → (take k (remove xs i) ≡ take k xs) × IsPermutation (called_before place (drop k xs)) (called_before place (o ∷ drop k (remove xs i)))
  ended_behind xs zero i o below at = (refl, first xs i o at)
  ended_behind [] (suc k) i o below at = cc
  ended_behind (x ∷ xs) (suc k) zero o below at = absurd (omega arith)
  ended_behind (x ∷ xs) (suc k) (suc i) o below at = let rest = ended_behind xs k i o (omega arith) at in (ap (λ l. x ∷ l) rest.0, rest.1)

  -- what was open at the mark
  abbrev pub then_open : List Open → List Open → OpenMark → List Open
  then_open operations ended mark = take mark.crashed operations ++ called_before place (drop mark.crashed operations ++ drop mark.ended ended)

  pub fronts : (mark : OpenMark) (operations others ended more : List Open) → take mark.crashed others ≡ take mark.crashed operations
      → IsPermutation (called_before place (drop mark.crashed operations ++ drop mark.ended ended)) (called_before place (drop mark.crashed others ++ drop mark.ended more))
      → IsPermutation (then_open operations ended mark) (then_open others more mark)
  fronts mark operations others ended more front moved =
      in_turn (same (ap (λ l. l ++ called_before place (drop mark.crashed operations ++ drop mark.ended ended)) (sym front)))
      (IsPermutation-append_right (take mark.crashed others) _ _ moved)

  -- after a call
  pub called_later : (xs ended : List Open) (o : Open) (mark : OpenMark) → mark.crashed ≤ length xs → place ≤ o.at → then_open (xs ++ o ∷ []) ended mark ≡ then_open xs ended mark
  called_later xs ended o mark fits after =
      let d = drop mark.crashed xs in
      let e = drop mark.ended ended in
      ap (λ l. l ++ called_before place (drop mark.crashed (xs ++ o ∷ []) ++ e)) (take-append-le mark.crashed xs (o ∷ []) fits)
      ∙ ap (λ l. take mark.crashed xs ++ called_before place (l ++ e)) (drop-append-le mark.crashed xs (o ∷ []) fits)
      ∙ ap (λ l. take mark.crashed xs ++ l) (before_append (d ++ o ∷ []) e ∙ ap (λ l. l ++ called_before place e) (before_append d (o ∷ []) ∙ ap (λ l. called_before place d ++ l) (later o after) ∙ append-nil (called_before place d)) ∙ sym (before_append d e))

  -- after an end that is kept
  pub ended_kept : (xs ended : List Open) (i : ℕ) (o : Open) (mark : OpenMark) → mark.crashed ≤ i → mark.ended ≤ length ended → slice_get xs i ≡ Some o → IsPermutation (then_open xs ended mark) (then_open (remove xs i) (ended ++ o ∷ []) mark)
  ended_kept xs ended i o mark below fits at =
      let k = mark.crashed in
      let rest = ended_behind xs k i o below at in
      let r = called_before place (drop k (remove xs i)) in
      let e = called_before place (drop mark.ended ended) in
      let one = called_before place (o ∷ []) in
      fronts mark xs (remove xs i) ended (ended ++ o ∷ []) rest.0 (
      in_turn (same (before_append (drop k xs) (drop mark.ended ended)))
      (in_turn (IsPermutation-append_left e _ _ rest.1)
      (in_turn (same (ap (λ l. l ++ e) (before_cons o (drop k (remove xs i))) ∙ append_assoc one r e))
      (in_turn (IsPermutation-append_comm one (r ++ e))
      (same (append_assoc r e one ∙ ap (λ l. r ++ l) (sym (before_append (drop mark.ended ended) (o ∷ []))) ∙ sym (before_append (drop k (remove xs i)) (drop mark.ended ended ++ o ∷ []))
      ∙ ap (λ l. called_before place (drop k (remove xs i) ++ l)) (sym (drop-append-le mark.ended ended (o ∷ []) fits)))))))
      )

  -- after one of an operation that was called behind the mark
  pub ended_gone : (xs ended : List Open) (i : ℕ) (o : Open) (mark : OpenMark) → mark.crashed ≤ i → place ≤ o.at → slice_get xs i ≡ Some o → IsPermutation (then_open xs ended mark) (then_open (remove xs i) ended mark)
  ended_gone xs ended i o mark below after at =
      let k = mark.crashed in
      let rest = ended_behind xs k i o below at in
      let e = called_before place (drop mark.ended ended) in
      fronts mark xs (remove xs i) ended ended rest.0 (
      in_turn (same (before_append (drop k xs) (drop mark.ended ended)))
      (in_turn (IsPermutation-append_left e _ _ rest.1)
      (same (ap (λ l. l ++ e) (before_cons o (drop k (remove xs i)) ∙ ap (λ l. l ++ called_before place (drop k (remove xs i))) (later o after)) ∙ sym (before_append (drop k (remove xs i)) (drop mark.ended ended)))))
      )

  -- after a crash
  pub crashed_kept : (xs ended : List Open) (c i : ℕ) (o y : Open) (mark : OpenMark) → mark.crashed ≤ c → c ≤ i → slice_get xs i ≡ Some o → fresh y ≡ fresh o → IsPermutation (then_open xs ended mark) (then_open (swap (set xs i y) c i) ended mark)
  crashed_kept xs ended c i o y mark below before at alike =
      let k = mark.crashed in
      let zs = set xs i y in
      let long = length_set xs i y in
      let inside = inside_of xs i o at in
      let is : exchanged xs c i y ≡ swap zs c i = swap_is zs c i y (omega (arith, long)) (omega (arith, long)) in
      let rest = moved_behind xs k c i o y below before at alike in
      let e = called_before place (drop mark.ended ended) in
      subst (λ l. IsPermutation (then_open xs ended mark) (then_open l ended mark)) is (fronts mark xs (exchanged xs c i y) ended ended rest.0 (
      in_turn (same (before_append (drop k xs) (drop mark.ended ended))) (in_turn (IsPermutation-append_left e _ _ rest.1) (same (sym (before_append (drop k (exchanged xs c i y)) (drop mark.ended ended)))))
      ))

  -- at the mark itself
  pub all_before : (xs : List Open) → All (λ o. o.at < place) xs → All (λ o. o.crashed ≡ false) xs → called_before place xs ≡ xs
  all_before [] called alive = refl
  all_before (x ∷ xs) called alive =
      let here : nat_lt x.at place ≡ true = (Decides-ltb x.at place).1 (All-head (λ (o : Open). o.at < place) x xs called) in
      let is : fresh x ≡ x = ap (λ b. record x { crashed = b }) (sym (All-head (λ (o : Open). o.crashed ≡ false) x xs alive)) in
      ap (λ b. cond b (fresh x ∷ called_before place xs) (called_before place xs)) here
      ∙ ap (λ o. o ∷ called_before place xs) is
      ∙ ap (λ l. x ∷ l) (all_before xs (All-tail (λ (o : Open). o.at < place) x xs called) (All-tail (λ (o : Open). o.crashed ≡ false) x xs alive))

  -- those that were called before an earlier place
  pub before_before : (earlier : ℕ) (xs : List Open) → earlier ≤ place → called_before earlier (called_before place xs) ≡ called_before earlier xs
  before_before earlier [] below = refl
  before_before earlier (x ∷ xs) below = by (before_before earlier xs below) (nat_lt x.at place) (nat_lt x.at earlier) refl refl
    where
      by : called_before earlier (called_before place xs) ≡ called_before earlier xs → (b c : Bool) → nat_lt x.at place ≡ b → nat_lt x.at earlier ≡ c → called_before earlier (called_before place (x ∷ xs)) ≡ called_before earlier (x ∷ xs)
      by rest true c e f =
          ap (λ t. called_before earlier (cond t (fresh x ∷ called_before place xs) (called_before place xs))) e
          ∙ ap (λ l. cond (nat_lt x.at earlier) (fresh x ∷ l) l) rest
      by rest false true e f = absurd (let l = (Decides-ltb x.at earlier).0 f in let m = (Decides-ltb x.at place).1 (omega arith) in differ (sym m ∙ e))
        where
          differ : true ≡ false → ⊥
          differ d = cc
      by rest false false e f =
          ap (λ t. called_before earlier (cond t (fresh x ∷ called_before place xs) (called_before place xs))) e
          ∙ rest ∙ sym (ap (λ t. cond t (fresh x ∷ called_before earlier xs) (called_before earlier xs)) f)
