-- Strictly rising lists, by any total order that tells all apart, and what they have.
use Rattle.std.proofs.Common.{◌≡◌, ℕ, Bool, true, zero, suc, ◌+◌, ◌-◌, ◌<◌, ◌≤◌, List, [], ◌∷◌, ◌++◌, ◌⊎◌, ◌↔◌, length, get_or, refl, sym, ap, ◌∙◌, inl, inr, ⊎_elim, subst, arith, lit≤}
use Rattle.std.specs.Cmp.{IsTotalOrder, IsEquivalence, tied_itself, Equal-is, eq_by_cmp_equiv}
use Rattle.std.specs.List.{All, AllByRecursion, Contains, AllWithin, HoldsAt, insert, dedup}
use Rattle.std.specs.Ordering.{eq_by_cmp, match_ordering, ordering_index, ordering_reverse}
use Rattle.std.proofs.lemmas.List.Kept.{IsStrictlySortedBy-dedup, Contains-dedup, Contains-from_dedup}
use Rattle.std.proofs.lemmas.List.Sorted.{Contains-permutation, IsPermutation-sym}
use Rattle.std.specs.List.Sorted.{IsNonDecreasingBy, IsSorted, IsStrictlySortedBy, IsPermutation}
use Rattle.std.proofs.lemmas.List.{get_or_default}
use Rattle.std.proofs.lemmas.Bool.{cases_lt}
use Rattle.std.proofs.lemmas.List.Edits.{insert_end}
use Rattle.std.specs.declared.cmp.Ordering.{Ordering}
use Rattle.std.specs.declared.cmp.Ordering.TheVariants.{Less, Equal, Greater}
use Rattle.std.proofs.lemmas.List.Elements.{All-cons, All-head, All-tail, All-contains}
use Rattle.lin_lists.specs.Sets.{IsRising, with_member, members_of}

module _ {K : Type 0} (R : K → K → Ordering) (o : IsTotalOrder R) (tells : (x y : K) → R x y ≡ Equal → x ≡ y) where
  infix 40 ◌⊏◌
  abbrev ◌⊏◌ : K → K → Type 0
  x ⊏ y = R x y ≡ Less

  pub contains_first : (x : K) (xs : List K) → Contains (x ∷ xs) x
  contains_first x xs = (0, omega arith, refl)

  pub contains_later : (x y : K) (xs : List K) → Contains xs y → Contains (x ∷ xs) y
  contains_later x y xs (k, h, e) = (suc k, omega arith, e)

  pub contains_none : (y : K) → Contains {X = K} [] y → ⊥
  contains_none y (k, h, e) = omega arith

  pub contains_cases : (x y : K) (xs : List K) → Contains (x ∷ xs) y → (y ≡ x) ⊎ Contains xs y
  contains_cases x y xs (zero, h, e) = inl (sym e)
  contains_cases x y xs (suc k, h, e) = inr (k, omega arith, e)

  -- how two compare, with what it means
  pub split : {G : Type 0} (x y : K) → (R x y ≡ Less → x ⊏ y → G) → (R x y ≡ Equal → x ≡ y → G) → (R x y ≡ Greater → y ⊏ x → G) → G
  split {G} x y less equal greater = by (R x y) refl
    where
      by : (r : Ordering) → R x y ≡ r → G
      by Less e = less e e
      by Equal e = equal e (tells x y e)
      by Greater e = greater e (o.antisymm y x ∙ ap ordering_reverse e)

  irreflexive : (x : K) → x ⊏ x → ⊥
  irreflexive x h = let e : R x x ≡ Equal = tied_itself o x in cc

  asymmetric : (x y : K) → x ⊏ y → y ⊏ x → ⊥
  asymmetric x y h g = irreflexive x (o.trans x y x h g)

  pub is_less : (x y : K) → x ⊏ y → R x y ≡ Less
  is_less x y h = h

  pub is_equal : (x y : K) → x ≡ y → R x y ≡ Equal
  is_equal x y h = ap (R x) (sym h) ∙ tied_itself o x

  pub is_greater : (x y : K) → y ⊏ x → R x y ≡ Greater
  is_greater x y h = o.antisymm x y ∙ ap ordering_reverse h

  pub put_before : (x y : K) (ys : List K) → x ⊏ y → with_member R x (y ∷ ys) ≡ x ∷ y ∷ ys
  put_before x y ys h = ap (λ o. match_ordering o (x ∷ y ∷ ys) (y ∷ ys) (y ∷ with_member R x ys)) (is_less x y h)

  pub put_upon : (x y : K) (ys : List K) → x ≡ y → with_member R x (y ∷ ys) ≡ y ∷ ys
  put_upon x y ys h = ap (λ o. match_ordering o (x ∷ y ∷ ys) (y ∷ ys) (y ∷ with_member R x ys)) (is_equal x y h)

  pub put_behind : (x y : K) (ys : List K) → y ⊏ x → with_member R x (y ∷ ys) ≡ y ∷ with_member R x ys
  put_behind x y ys h = ap (λ o. match_ordering o (x ∷ y ∷ ys) (y ∷ ys) (y ∷ with_member R x ys)) (is_greater x y h)

  -- what holds of a member and of the members holds of the members with the member
  pub All-with : (P : K → Type 0) (x : K) (xs : List K) → P x → All P xs → All P (with_member R x xs)
  All-with P x [] p h = All-cons P x [] p h
  All-with P x (y ∷ ys) p h = split x y
      (λ e q. subst (All P) (sym (put_before x y ys q)) (All-cons P x (y ∷ ys) p h))
      (λ e q. subst (All P) (sym (put_upon x y ys q)) h)
      (λ e q. subst (All P) (sym (put_behind x y ys q)) (All-cons P y (with_member R x ys) (All-head P y ys h) (All-with P x ys p (All-tail P y ys h))))

  pub below_all : (x y : K) (ys : List K) → x ⊏ y → All (λ z. y ⊏ z) ys → All (λ z. x ⊏ z) ys
  below_all x y ys h all k d lt = o.trans x y (get_or ys k d) h (all k d lt)

  pub rising_with : (x : K) (xs : List K) → IsRising R xs → IsRising R (with_member R x xs)
  rising_with x [] r = (λ k d h. absurd (omega arith), tt)
  rising_with x (y ∷ ys) r = split x y
      (λ e q. subst (IsRising R) (sym (put_before x y ys q)) (All-cons (λ z. x ⊏ z) y ys q (below_all x y ys q r.0), r))
      (λ e q. subst (IsRising R) (sym (put_upon x y ys q)) r)
      (λ e q. subst (IsRising R) (sym (put_behind x y ys q)) (All-with (λ z. y ⊏ z) x ys q r.0, rising_with x ys r.1))

  pub with_has : (x : K) (xs : List K) → Contains (with_member R x xs) x
  with_has x [] = contains_first x []
  with_has x (y ∷ ys) = split x y
      (λ e q. subst (λ l. Contains l x) (sym (put_before x y ys q)) (contains_first x (y ∷ ys)))
      (λ e q. subst (λ l. Contains l x) (sym (put_upon x y ys q)) (subst (Contains (y ∷ ys)) (sym q) (contains_first y ys)))
      (λ e q. subst (λ l. Contains l x) (sym (put_behind x y ys q)) (contains_later y x (with_member R x ys) (with_has x ys)))

  pub with_keeps : (x z : K) (xs : List K) → Contains xs z → Contains (with_member R x xs) z
  with_keeps x z [] h = absurd (contains_none z h)
  with_keeps x z (y ∷ ys) h = split x y
      (λ e q. subst (λ l. Contains l z) (sym (put_before x y ys q)) (contains_later x z (y ∷ ys) h))
      (λ e q. subst (λ l. Contains l z) (sym (put_upon x y ys q)) h)
      (λ e q. subst (λ l. Contains l z) (sym (put_behind x y ys q)) (⊎_elim
      (λ (f : z ≡ y). subst (Contains (y ∷ with_member R x ys)) (sym f) (contains_first y (with_member R x ys)))
      (λ (f : Contains ys z). contains_later y z (with_member R x ys) (with_keeps x z ys f))
      (contains_cases y z ys h)))

  pub with_adds_none : (x z : K) (xs : List K) → Contains (with_member R x xs) z → (z ≡ x) ⊎ Contains xs z
  with_adds_none x z [] h = contains_cases x z [] h
  with_adds_none x z (y ∷ ys) h = split x y
      (λ e q. contains_cases x z (y ∷ ys) (subst (λ l. Contains l z) (put_before x y ys q) h))
      (λ e q. inr (subst (λ l. Contains l z) (put_upon x y ys q) h))
      (λ e q. ⊎_elim
      (λ (f : z ≡ y). inr (subst (Contains (y ∷ ys)) (sym f) (contains_first y ys)))
      (λ (f : Contains (with_member R x ys) z). ⊎_elim
      (λ (g : z ≡ x). inl g)
      (λ (g : Contains ys z). inr (contains_later y z ys g))
      (with_adds_none x z ys f))
      (contains_cases y z (with_member R x ys) (subst (λ l. Contains l z) (put_behind x y ys q) h)))

  pub has_member : (x y : K) (xs : List K) → Contains (with_member R x xs) y ↔ ((y ≡ x) ⊎ Contains xs y)
  has_member x y xs = (
    with_adds_none x y xs,
    ⊎_elim
        (λ (e : y ≡ x). subst (Contains (with_member R x xs)) (sym e) (with_has x xs))
        (λ (h : Contains xs y). with_keeps x y xs h),
  )

  -- a member that is there already
  pub with_itself : (x : K) (xs : List K) → IsRising R xs → Contains xs x → with_member R x xs ≡ xs
  with_itself x [] r h = absurd (contains_none x h)
  with_itself x (y ∷ ys) r h = ⊎_elim
      (λ (e : x ≡ y). put_upon x y ys e)
      (λ (g : Contains ys x). put_behind x y ys (All-contains (λ z. y ⊏ z) ys x r.0 g) ∙ ap (λ l. y ∷ l) (with_itself x ys r.1 g))
      (contains_cases y x ys h)

  -- sets with the same members are the same
  pub same_sets : (xs ys : List K) → IsRising R xs → IsRising R ys → ((z : K) → Contains xs z ↔ Contains ys z) → xs ≡ ys
  same_sets [] [] r s h = refl
  same_sets [] (y ∷ ys) r s h = absurd (contains_none y ((h y).1 (contains_first y ys)))
  same_sets (x ∷ xs) [] r s h = absurd (contains_none x ((h x).0 (contains_first x xs)))
  same_sets (x ∷ xs) (y ∷ ys) r s h =
      let first : x ≡ y = heads in
      let rest : xs ≡ ys = same_sets xs ys r.1 s.1 (λ z. (forth first z, back first z)) in
      cc
    where
      heads : x ≡ y
      heads = ⊎_elim
          (λ (e : x ≡ y). e)
          (λ (f : Contains ys x). ⊎_elim
          (λ (e : y ≡ x). sym e)
          (λ (g : Contains xs y).
          let up : y ⊏ x = All-contains (λ z. y ⊏ z) ys x s.0 f in
          let down : x ⊏ y = All-contains (λ z. x ⊏ z) xs y r.0 g in
          absurd (asymmetric x y down up))
          (contains_cases x y xs ((h y).1 (contains_first y ys))))
          (contains_cases y x ys ((h x).0 (contains_first x xs)))

      forth : x ≡ y → (z : K) → Contains xs z → Contains ys z
      forth e z c = ⊎_elim
          (λ (f : z ≡ y). let up : x ⊏ z = All-contains (λ w. x ⊏ w) xs z r.0 c in absurd (irreflexive x (subst (λ w. x ⊏ w) (f ∙ sym e) up)))
          (λ (f : Contains ys z). f)
          (contains_cases y z ys ((h z).0 (contains_later x z xs c)))

      back : x ≡ y → (z : K) → Contains ys z → Contains xs z
      back e z c = ⊎_elim
          (λ (f : z ≡ x). let up : y ⊏ z = All-contains (λ w. y ⊏ w) ys z s.0 c in absurd (irreflexive y (subst (λ w. y ⊏ w) (f ∙ e) up)))
          (λ (f : Contains xs z). f)
          (contains_cases x z xs ((h z).1 (contains_later y z ys c)))

  pub members_rise : (xs : List K) → IsRising R (members_of R xs)
  members_rise [] = tt
  members_rise (x ∷ xs) = rising_with x (members_of R xs) (members_rise xs)

  pub members_have : (y : K) (xs : List K) → Contains (members_of R xs) y ↔ Contains xs y
  members_have y [] = (λ h. h, λ h. h)
  members_have y (x ∷ xs) =
      let here = has_member x y (members_of R xs) in
      let there = members_have y xs in (
        λ (h : Contains (with_member R x (members_of R xs)) y). ⊎_elim
            (λ (e : y ≡ x). subst (Contains (x ∷ xs)) (sym e) (contains_first x xs))
            (λ (g : Contains (members_of R xs) y). contains_later x y xs (there.0 g))
            (here.0 h),
        λ (h : Contains (x ∷ xs) y). here.1 (⊎_elim
            (λ (e : y ≡ x). inl e)
            (λ (g : Contains xs y). inr (there.1 g))
            (contains_cases x y xs h)),
      )

  -- a strictly rising list with the members of another is its set
  pub members_are : (xs ys : List K) → IsRising R ys → ((y : K) → Contains ys y ↔ Contains xs y) → ys ≡ members_of R xs
  members_are xs ys r same = same_sets ys (members_of R xs) r (members_rise xs)
      (λ y. (λ (h : Contains ys y). (members_have y xs).1 ((same y).0 h), λ (h : Contains (members_of R xs) y). (same y).1 ((members_have y xs).0 h)))

  -- a member put where those before are below and those behind above it
  pub with_at : (x : K) (xs : List K) (i : ℕ) → i ≤ length xs → AllWithin (λ y. R y x ≡ Less) xs 0 i →
      AllWithin (λ y. R y x ≡ Greater) xs i (length xs) → with_member R x xs ≡ insert xs i x
  with_at x [] zero le below above = refl
  with_at x [] (suc i) le below above = absurd (omega arith)
  with_at x (y ∷ ys) zero le below above =
      let e : R y x ≡ Greater = above 0 y (omega arith) (omega arith) in
      split y x (λ f q. absurd (cc)) (λ f q. absurd (cc)) (λ f q. put_before x y ys q)
  with_at x (y ∷ ys) (suc i) le below above =
      let e : R y x ≡ Less = below 0 y (omega arith) (omega arith) in
      let rest = with_at x ys i (omega arith)
      (λ k d a b. below (suc k) d (omega arith) (omega arith))
      (λ k d a b. above (suc k) d (omega arith) (omega arith)) in
      split y x (λ f q. put_behind x y ys q ∙ ap (λ l. y ∷ l) rest) (λ f q. absurd (cc)) (λ f q. absurd (cc))

  -- earlier members are below later ones
  pub rising_apart : (xs : List K) → IsRising R xs → (i j : ℕ) (d : K) → i < j → j < length xs → get_or xs i d ⊏ get_or xs j d
  rising_apart [] r i j d h k = absurd (omega arith)
  rising_apart (x ∷ xs) r i zero d h k = absurd (omega arith)
  rising_apart (x ∷ xs) r zero (suc j) d h k = r.0 j d (omega arith)
  rising_apart (x ∷ xs) r (suc i) (suc j) d h k = rising_apart xs r.1 i j d (omega arith) (omega arith)

  -- each member of a list is below the next
  abbrev pub Steps : List K → Type 0
  Steps xs = (k : ℕ) (d : K) → k + 1 < length xs → get_or xs k d ⊏ get_or xs (k + 1) d

  pub above_first : (x : K) (xs : List K) → Steps (x ∷ xs) → (k : ℕ) (d : K) → k < length xs → x ⊏ get_or xs k d
  above_first x xs s zero d h = s 0 d (omega arith)
  above_first x xs s (suc k) d h =
      let before = above_first x xs s k d (omega arith) in
      let next : get_or (x ∷ xs) (suc k) d ⊏ get_or (x ∷ xs) (suc k + 1) d = s (suc k) d (omega arith) in
      let there : get_or (x ∷ xs) (suc k + 1) d ≡ get_or xs (suc k) d = (let e : suc k + 1 ≡ suc (suc k) = omega arith in rw e refl) in
      let on : get_or xs k d ⊏ get_or xs (suc k) d = subst (λ z. get_or xs k d ⊏ z) there next in
      o.trans x (get_or xs k d) (get_or xs (suc k) d) before on

  pub rising_from_steps : (xs : List K) → Steps xs → IsRising R xs
  rising_from_steps [] s = tt
  rising_from_steps (x ∷ xs) s = (
    above_first x xs s,
    rising_from_steps xs (λ k d h.
        let later : get_or (x ∷ xs) (suc k) d ⊏ get_or (x ∷ xs) (suc k + 1) d = s (suc k) d (omega arith) in
        let there : get_or (x ∷ xs) (suc k + 1) d ≡ get_or xs (k + 1) d = (let e : suc k + 1 ≡ suc (k + 1) = omega arith in rw e refl) in
        subst (λ z. get_or xs k d ⊏ z) there later),
  )

  -- a member above the last one
  pub put_last : (x : K) (xs : List K) → IsRising R xs → (0 < length xs → get_or xs (length xs - 1) x ⊏ x) → with_member R x xs ≡ xs ++ x ∷ []
  put_last x xs r above = with_at x xs (length xs) (omega arith)
      (λ k d a b. is_less (get_or xs k d) x (below k d b))
      (λ k d a b. absurd (omega arith)) ∙ insert_end xs x
    where
      below : (k : ℕ) (d : K) → k < length xs → get_or xs k d ⊏ x
      below k d h =
          let top : get_or xs (length xs - 1) x ⊏ x = above (omega arith) in
          let same : get_or xs (length xs - 1) x ≡ get_or xs (length xs - 1) d = get_or_default xs (length xs - 1) x d (omega arith) in
          ⊎_elim
          (λ (lt : k < length xs - 1). let up = rising_apart xs r k (length xs - 1) d lt (omega arith) in o.trans (get_or xs k d) (get_or xs (length xs - 1) d) x up (subst (λ w. w ⊏ x) same top))
          (λ (le : length xs - 1 ≤ k). let e : k ≡ length xs - 1 = omega arith in rw (e, ← same) top)
          (cases_lt k (length xs - 1))

  -- what a search by comparing with a member sees rises
  pub compares_rising : (x : K) (xs : List K) → IsRising R xs → IsNonDecreasingBy (λ y. ordering_index (R y x)) xs
  compares_rising x xs r i j d le lt = ⊎_elim
      (λ (h : i < j). ranks (get_or xs i d) (get_or xs j d) (rising_apart xs r i j d h lt))
      (λ (h : j ≤ i). let e : i ≡ j = omega arith in rw e (omega arith))
      (cases_lt i j)
    where
      ranks : (a b : K) → a ⊏ b → ordering_index (R a x) ≤ ordering_index (R b x)
      ranks a b h = split a x
          (λ e q. rw e (omega arith))
          (λ e q. let f : R b x ≡ Greater = is_greater b x (subst (λ w. w ⊏ b) q h) in rw (e, f) (lit≤ tt))
          (λ e q. let f : R b x ≡ Greater = is_greater b x (o.trans x a b q h) in rw (e, f) (lit≤ tt))

  -- a search that met a member
  pub found : (x : K) (xs : List K) (i : ℕ) → IsRising R xs → i < length xs → HoldsAt (λ y. R y x ≡ Equal) xs i → with_member R x xs ≡ xs
  found x xs i r h e = with_itself x xs r (
    i,
    h,
    split (get_or xs i x) x
        (λ f q. absurd (cc (e x))) (λ f q. q) (λ f q. absurd (cc (e x))),
  )

  pub rising_inserted : (x : K) (xs ys : List K) → IsRising R xs → ys ≡ with_member R x xs → IsRising R ys
  rising_inserted x xs ys r e = subst (IsRising R) (sym e) (rising_with x xs r)

  pub rising_from_sorted : (xs : List K) → IsStrictlySortedBy R xs → IsRising R xs
  unfolding IsStrictlySortedBy
  rising_from_sorted [] s = tt
  rising_from_sorted (x ∷ xs) s = (above xs s.0, rising_from_sorted xs s.1)
    where
      above : (ys : List K) → AllByRecursion (λ y. R x y ≡ Less) ys → All (λ y. x ⊏ y) ys
      above [] a = λ k d h. absurd (omega arith)
      above (y ∷ ys) a = All-cons (λ z. x ⊏ z) y ys (split x y (λ e q. q) (λ e q. absurd (cc (a.0))) (λ e q. absurd (cc (a.0)))) (above ys a.1)

  -- sorted, and with each repeat dropped
  pub sorted_are_members : (E : K → K → Bool) → ((x y : K) → E x y ≡ eq_by_cmp R x y) → (xs ys zs : List K) → IsPermutation xs ys → IsSorted R ys → zs ≡ dedup E ys →
      IsRising R zs × (zs ≡ members_of R xs)
  sorted_are_members E ties xs ys zs moved up is = subst (λ l. IsRising R l × (l ≡ members_of R xs)) (sym is) (rising, members_are xs (dedup E ys) rising both)
    where
      rising : IsRising R (dedup E ys)
      rising = rising_from_sorted (dedup E ys) (IsStrictlySortedBy-dedup o ties ys up)

      same : (x y : K) → E x y ≡ true → x ≡ y
      same x y e = tells x y ((Equal-is (R x y)).0 (sym (ties x y) ∙ e))

      both : (y : K) → Contains (dedup E ys) y ↔ Contains xs y
      both y = (
        λ (h : Contains (dedup E ys) y). Contains-permutation ys xs y (IsPermutation-sym xs ys moved) (Contains-from_dedup E ys y h),
        λ (h : Contains xs y). Contains-dedup (subst IsEquivalence (λ i a b. sym (ties a b) i) (eq_by_cmp_equiv o)) same ys y (Contains-permutation xs ys y moved h),
      )
