-- Pairs by rising process: where a pair is put, what is left without one, and that members decide the list.
use Rattle.std.proofs.Common.{◌≡◌, ◌≢◌, ℕ, zero, suc, ◌+◌, ◌<◌, ◌≤◌, Bool, true, false, not, nat_eq, true≢false, filter, List, [], ◌∷◌, ◌++◌, length, Contains, All, ◌⊎◌, inl, inr, refl, sym, ap, subst, ◌∙◌, arith, get_or, take, drop}
use Rattle.std.proofs.lemmas.List.{append-nil}
use Rattle.std.proofs.lemmas.List.Elements.{All-contains, All-contains_itself, All-filter, filter_more, filter_passes, Contains-get_or, Contains-append_right}
use Rattle.std.proofs.lemmas.List.Kept.{AllPairs-cons, AllPairs-filter}
use Rattle.std.proofs.lemmas.Bool.Decides.{Decides-eqb as Decides-nat_eq}
use Rattle.std.proofs.lemmas.Bool.{cases_eq, cases_order, cond-true, cond-false, lt-ltb, le-ltb}
use Rattle.lin_events.specs.declared.calls.Reply.{Reply}
use Rattle.lin_order.specs.Configurations.{IsRising, IsAdded}
use Rattle.lin_frontier.specs.Placing.{insert_pair, without, IsAbsent}

-- an element stands first, or in the rest
pub first_or_rest : {A : Type 0} (x : A) (xs : List A) (y : A) → Contains (x ∷ xs) y → (x ≡ y) ⊎ Contains xs y
first_or_rest x xs y there = by there.0 there.1 there.2
  where
    by : (k : ℕ) → k < length (x ∷ xs) → get_or (x ∷ xs) k y ≡ y → (x ≡ y) ⊎ Contains xs y
    by zero inside is = inl is
    by (suc k) inside is = inr (k, omega arith, is)

pub absent_from : (process : ℕ) (xs : List (ℕ × Reply)) → ((other : Reply) → Contains xs (process, other) → ⊥) → IsAbsent process xs
absent_from process xs none k d inside same = none (get_or xs k d).1 (subst (λ n. Contains xs (n, (get_or xs k d).1)) same (Contains-get_or xs k d inside))

pub none_from : (process : ℕ) (xs : List (ℕ × Reply)) → IsAbsent process xs → (other : Reply) → Contains xs (process, other) → ⊥
none_from process xs absent other there = All-contains (λ (q : ℕ × Reply). q.0 ≢ process) xs (process, other) absent there refl

pub place_at : (process : ℕ) (reply : Reply) (xs : List (ℕ × Reply)) (i : ℕ) → i ≤ length xs → ((k : ℕ) (d : ℕ × Reply) → k < i → (get_or xs k d).0 < process)
    → (i < length xs → (d : ℕ × Reply) × (process ≤ (get_or xs i d).0)) → insert_pair process reply xs ≡ take i xs ++ (process, reply) ∷ drop i xs
place_at process reply [] zero within below above = refl
place_at process reply [] (suc i) within below above = absurd (omega arith)
place_at process reply (x ∷ xs) zero within below above = cond-false _ _ _ (le-ltb x.0 process (above (omega arith)).1)
place_at process reply (x ∷ xs) (suc i) within below above =
    cond-true _ _ _ (lt-ltb x.0 process (below 0 x (omega arith))) ∙ ap (λ l. x ∷ l) (place_at process reply xs i (omega arith) (λ k d l. below (suc k) d (omega arith)) (λ l. above (omega arith)))

-- an element after the first has a larger process
after_first : (x : ℕ × Reply) (xs : List (ℕ × Reply)) (y : ℕ × Reply) → IsRising (x ∷ xs) → Contains xs y → x.0 < y.0
after_first x xs y rising there = subst (λ (z : ℕ × Reply). x.0 < z.0) there.2 (rising 0 (suc there.0) y (omega arith) (omega (arith, there.1)))

rest_rising : (x : ℕ × Reply) (xs : List (ℕ × Reply)) → IsRising (x ∷ xs) → IsRising xs
rest_rising x xs rising i j d below within = rising (suc i) (suc j) d (omega arith) (omega arith)

-- rising pairs with the same members are the same
pub rising_unique : (xs ys : List (ℕ × Reply)) → IsRising xs → IsRising ys → ((x : ℕ × Reply) → Contains xs x → Contains ys x) → ((x : ℕ × Reply) → Contains ys x → Contains xs x) → xs ≡ ys
rising_unique [] [] r s f b = refl
rising_unique [] (y ∷ ys) r s f b = absurd (let there = b y (0, omega arith, refl) in let inside = there.1 in omega arith)
rising_unique (x ∷ xs) [] r s f b = absurd (let there = f x (0, omega arith, refl) in let inside = there.1 in omega arith)
rising_unique (x ∷ xs) (y ∷ ys) r s f b = both first (rising_unique xs ys (rest_rising x xs r) (rest_rising y ys s) forth back)
  where
    first : x ≡ y
    first = elim (first_or_rest y ys x (f x (0, omega arith, refl))) [
      | inl same ↦ sym same
      | inr later ↦ elim (first_or_rest x xs y (b y (0, omega arith, refl))) [
        | inl same ↦ same
        | inr other ↦ absurd (let p = after_first y ys x s later in let q = after_first x xs y r other in omega arith)
      ]
    ]

    forth : (z : ℕ × Reply) → Contains xs z → Contains ys z
    forth z there = elim (first_or_rest y ys z (f z (Contains-append_right (x ∷ []) xs z there))) [
      | inl same ↦ absurd (let p = after_first x xs z r there in let e = ap (λ (q : ℕ × Reply). q.0) (first ∙ same) in omega arith)
      | inr later ↦ later
    ]

    back : (z : ℕ × Reply) → Contains ys z → Contains xs z
    back z there = elim (first_or_rest x xs z (b z (Contains-append_right (y ∷ []) ys z there))) [
      | inl same ↦ absurd (let p = after_first y ys z s there in let e = ap (λ (q : ℕ × Reply). q.0) (sym first ∙ same) in omega arith)
      | inr later ↦ later
    ]

    both : x ≡ y → xs ≡ ys → x ∷ xs ≡ y ∷ ys
    both p q = cc

-- a pair put in its place is added
module _ (process : ℕ) (reply : Reply) where
  pub insert_added : (xs : List (ℕ × Reply)) → IsRising xs → ((other : Reply) → Contains xs (process, other) → ⊥) → IsAdded process reply xs (insert_pair process reply xs)
  insert_added [] rising absent = record {
    absent = absent;
    before = rising;
    rising = λ i j d below within. absurd (omega arith);
    kept = λ x there. absurd (let inside = there.1 in omega arith);
    has = (0, omega arith, refl);
    was = λ y there. elim (first_or_rest (process, reply) [] y there) [ inl same ↦ inr same | inr none ↦ inl none ];
  }
  insert_added (x ∷ xs) rising absent = elim (cases_order process x.0) [
    | inl same ↦ absurd (absent x.1 (0, omega arith, λ i. (sym same i, x.1)))
    | inr differ ↦ elim differ [
      | inl below ↦ subst (IsAdded process reply (x ∷ xs)) (sym (cond-false _ _ _ (le-ltb x.0 process (omega arith)))) (ahead below)
      | inr above ↦ subst (IsAdded process reply (x ∷ xs)) (sym (cond-true _ _ _ (lt-ltb x.0 process above)))
          (behind above (insert_added xs (rest_rising x xs rising) (λ other there. absent other (Contains-append_right (x ∷ []) xs (process, other) there))))
    ]
  ]
    where
      ahead : process < x.0 → IsAdded process reply (x ∷ xs) ((process, reply) ∷ x ∷ xs)
      ahead below = record {
        absent = absent;
        before = rising;
        rising = AllPairs-cons (λ p q. p.0 < q.0) (process, reply) (x ∷ xs) first_below rising;
        kept = λ y there. Contains-append_right ((process, reply) ∷ []) (x ∷ xs) y there;
        has = (0, omega arith, refl);
        was = λ y there. elim (first_or_rest (process, reply) (x ∷ xs) y there) [ inl same ↦ inr same | inr rest ↦ inl rest ];
      }
        where
          first_below : All (λ q. process < q.0) (x ∷ xs)
          first_below zero d inside = below
          first_below (suc k) d inside = let step = rising 0 (suc k) d (omega arith) inside in omega arith

      behind : x.0 < process → IsAdded process reply xs (insert_pair process reply xs) → IsAdded process reply (x ∷ xs) (x ∷ insert_pair process reply xs)
      behind above rest = record {
        absent = absent;
        before = rising;
        rising = AllPairs-cons (λ p q. p.0 < q.0) x (insert_pair process reply xs) (λ k d inside. elim (rest.was (get_or (insert_pair process reply xs) k d) (Contains-get_or (insert_pair process reply xs) k d inside)) [
          | inl old ↦ after_first x xs _ rising old
          | inr new ↦ subst (λ (y : ℕ × Reply). x.0 < y.0) new above
        ]) rest.rising;
        kept = λ y there. elim (first_or_rest x xs y there) [
          | inl same ↦ (0, omega arith, same)
          | inr old ↦ Contains-append_right (x ∷ []) (insert_pair process reply xs) y (rest.kept y old)
        ];
        has = Contains-append_right (x ∷ []) (insert_pair process reply xs) (process, reply) rest.has;
        was = λ y there. elim (first_or_rest x (insert_pair process reply xs) y there) [
          | inl same ↦ inl (0, omega arith, same)
          | inr later ↦ elim (rest.was y later) [
            | inl old ↦ inl (Contains-append_right (x ∷ []) xs y old)
            | inr new ↦ inr new
          ]
        ];
      }

  -- what is added is put in its place
  pub insert_is : (xs ys : List (ℕ × Reply)) → IsAdded process reply xs ys → ys ≡ insert_pair process reply xs
  insert_is xs ys added =
      let put = insert_added xs added.before added.absent in
      rising_unique ys (insert_pair process reply xs) added.rising put.rising
      (λ y there. elim (added.was y there) [ inl old ↦ put.kept y old | inr new ↦ subst (Contains (insert_pair process reply xs)) new put.has ])
      (λ y there. elim (put.was y there) [ inl old ↦ added.kept y old | inr new ↦ subst (Contains ys) new added.has ])

-- a process stands once
pub rising_once : (xs : List (ℕ × Reply)) (process : ℕ) (a b : Reply) → IsRising xs → Contains xs (process, a) → Contains xs (process, b) → a ≡ b
rising_once xs process a b rising there here = elim (cases_order there.0 here.0) [
  | inl same ↦
      let e : (process, a) ≡ (process, b) = sym there.2 ∙ ap (λ k. get_or xs k (process, a)) same ∙ any_default xs here.0 (process, a) (process, b) here.1 ∙ here.2 in
      ap (λ (p : ℕ × Reply). p.1) e
  | inr differ ↦ elim differ [
    | inl below ↦ absurd (never there.0 here.0 a b below here.1 there.2 here.2)
    | inr above ↦ absurd (never here.0 there.0 b a above there.1 here.2 there.2)
  ]
]
  where
    any_default : (xs : List (ℕ × Reply)) (i : ℕ) (d e : ℕ × Reply) → i < length xs → get_or xs i d ≡ get_or xs i e
    any_default [] i d e h = absurd (omega arith)
    any_default (x ∷ xs) zero d e h = refl
    any_default (x ∷ xs) (suc i) d e h = any_default xs i d e (omega arith)

    never : (i j : ℕ) (c d : Reply) → i < j → j < length xs → get_or xs i (process, c) ≡ (process, c) → get_or xs j (process, d) ≡ (process, d) → ⊥
    never i j c d below inside p q =
        let less = rising i j (process, c) below inside in
        let first = ap (λ (x : ℕ × Reply). x.0) p in
        let last = ap (λ (x : ℕ × Reply). x.0) (any_default xs j (process, c) (process, d) inside ∙ q) in
        omega arith

module _ {A : Type 0} (p : A → Bool) where
  pub kept_by : (xs : List A) (x : A) → p x ≡ true → Contains xs x → Contains (filter p xs) x
  kept_by [] x passes there = there
  kept_by (y ∷ ys) x passes there = elim (first_or_rest y ys x there) [
    | inl same ↦ subst (λ l. Contains l x) (sym (cond-true _ _ _ (ap p same ∙ passes))) (0, omega arith, same)
    | inr rest ↦ by (p y) refl (kept_by ys x passes rest)
  ]
    where
      by : (b : Bool) → p y ≡ b → Contains (filter p ys) x → Contains (filter p (y ∷ ys)) x
      by true e more = subst (λ l. Contains l x) (sym (cond-true _ _ _ e)) (Contains-append_right (y ∷ []) (filter p ys) x more)
      by false e more = subst (λ l. Contains l x) (sym (cond-false _ _ _ e)) more

  pub passed_by : (xs : List A) (x : A) → Contains (filter p xs) x → Contains xs x × (p x ≡ true)
  passed_by xs x there = (
    All-contains (Contains xs) (filter p xs) x (All-filter p (Contains xs) xs (All-contains_itself xs)) there,
    All-contains (λ y. p y ≡ true) (filter p xs) x (filter_passes p xs) there,
  )

module _ (process : ℕ) where
  pub other_process : (n : ℕ) → n ≢ process → not (nat_eq n process) ≡ true
  other_process n differ = by (nat_eq n process) refl
    where
      by : (b : Bool) → nat_eq n process ≡ b → not (nat_eq n process) ≡ true
      by true e = absurd (differ ((Decides-nat_eq n process).0 e))
      by false e = ap not e

  pub differs : (n : ℕ) → not (nat_eq n process) ≡ true → n ≢ process
  differs n h same = true≢false (sym h ∙ ap not ((Decides-nat_eq n process).1 same))

  pub from_without : (xs : List (ℕ × Reply)) (x : ℕ × Reply) → Contains (without process xs) x → Contains xs x × (x.0 ≢ process)
  from_without xs x there = let both = passed_by (λ (p : ℕ × Reply). not (nat_eq p.0 process)) xs x there in (both.0, differs x.0 both.1)

  pub in_without : (xs : List (ℕ × Reply)) (x : ℕ × Reply) → Contains xs x → x.0 ≢ process → Contains (without process xs) x
  in_without xs x there other = kept_by (λ (p : ℕ × Reply). not (nat_eq p.0 process)) xs x (other_process x.0 other) there

  -- where a process has a pair, the pairs of all others are the list without it
  pub taken_out : (reply : Reply) (xs : List (ℕ × Reply)) → IsRising xs → Contains xs (process, reply) → IsAdded process reply (without process xs) xs
  taken_out reply xs rising there = record {
    absent = λ other there'. (from_without xs (process, other) there').1 refl;
    before = AllPairs-filter (λ p q. p.0 < q.0) (λ p. not (nat_eq p.0 process)) xs rising;
    rising = rising;
    kept = λ x there'. (from_without xs x there').0;
    has = there;
    was = λ x there'. elim (cases_eq x.0 process) [
      | inl same ↦
          let e = rising_once xs process reply x.1 rising there (subst (λ n. Contains xs (n, x.1)) same there') in
          inr (λ i. (sym same i, e i))
      | inr other ↦ inl (in_without xs x there' other)
    ];
  }

  pub without_is : (reply : Reply) (xs ys : List (ℕ × Reply)) → IsAdded process reply xs ys → xs ≡ without process ys
  without_is reply xs ys added =
      let out = taken_out reply ys added.rising added.has in
      rising_unique xs (without process ys) added.before out.before
      (λ x there. in_without ys x (added.kept x there) (λ same. added.absent x.1 (subst (λ n. Contains xs (n, x.1)) same there)))
      (λ x there. elim (added.was x (out.kept x there)) [
        | inl old ↦ old
        | inr new ↦ absurd ((from_without ys x there).1 (sym (ap (λ (p : ℕ × Reply). p.0) new)))
      ])

-- the pairs of all others, one pair further
module _ (process : ℕ) (xs : List (ℕ × Reply)) (i : ℕ) (d : ℕ × Reply) (inside : i < length xs) where
  pub dropped_pair : (get_or xs i d).0 ≡ process → without process (take (i + 1) xs) ≡ without process (take i xs)
  dropped_pair same =
      filter_more (λ (p : ℕ × Reply). not (nat_eq p.0 process)) xs i d inside
      ∙ ap (λ l. without process (take i xs) ++ l) (cond-false _ _ _ (ap not ((Decides-nat_eq (get_or xs i d).0 process).1 same)))
      ∙ append-nil (without process (take i xs))
