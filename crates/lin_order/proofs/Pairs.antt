-- Pairs by rising process: what a pair is put into, and what is left without one.
use Rattle.std.proofs.Common.{◌≡◌, ◌≢◌, ℕ, zero, suc, ◌+◌, ◌<◌, ◌≤◌, ◌-◌, false, filter, List, [], ◌∷◌, ◌++◌, length, Contains, All, inl, inr, refl, sym, ap, subst, ◌∙◌, arith, get_or, take, drop}
use Rattle.std.proofs.lemmas.List.{append-nil, get_or-take, length-take-le}
use Rattle.std.proofs.lemmas.List.Elements.{All-contains, filter_more, Contains-append_right}
use Rattle.std.proofs.lemmas.List.Kept.{AllPairs-filter}
use Rattle.std.proofs.lemmas.Bool.{cases_eq, cases_Bool, cond-true, cond-false}
use Rattle.lin_events.specs.declared.calls.Reply.{Reply}
use Rattle.lin_order.specs.Configurations.{IsRising, IsAdded}
use Rattle.lin_order.specs.lemmas.Adding.{add_alone, add_first, add_later, one_rising, rest_rising}
use Rattle.lin_order.specs.lemmas.Each.{read_any, pairs_more}
use Rattle.lin_lists.specs.lemmas.Elements.{begins_other, other_true, other_from, in_filter, from_filter, first_or_rest}

-- no pair is of the process
abbrev pub IsOther : ℕ → List (ℕ × Reply) → Type 0
IsOther process xs = All (λ p. p.0 ≡ process → ⊥) xs

module _ (process : ℕ) (xs : List (ℕ × Reply)) where
  pub absent_from : IsOther process xs → (reply : Reply) → Contains xs (process, reply) → ⊥
  absent_from other reply there = All-contains (λ (p : ℕ × Reply). p.0 ≡ process → ⊥) xs (process, reply) other there refl

  pub not_absent : (p : ℕ × Reply) → Contains xs p → p.0 ≡ process → ((reply : Reply) → Contains xs (process, reply) → ⊥) → ⊥
  not_absent p there same absent = absent p.1 (subst (λ n. Contains xs (n, p.1)) same there)

-- whether one more pair is above the last of those so far
module _ (xs : List (ℕ × Reply)) (i : ℕ) (some : 1 ≤ i) (inside : i < length xs) (d : ℕ × Reply) (is : d ≡ get_or xs i d) where
  pub rising_more : (e : ℕ × Reply) → e ≡ get_or xs (i - 1) e → (get_or xs (i - 1) e).0 < (get_or xs i d).0 → IsRising (take i xs) → IsRising (take (i + 1) xs)
  rising_more e last above rising = pairs_more xs i d inside is (λ p q. p.0 < q.0) rising each
    where
      below : e.0 < d.0
      below = let first = ap (λ (p : ℕ × Reply). p.0) last in let second = ap (λ (p : ℕ × Reply). p.0) is in omega arith

      few : length (take i xs) ≡ i
      few = length-take-le i xs (omega arith)

      last_is : (f : ℕ × Reply) → get_or (take i xs) (i - 1) f ≡ e
      last_is f = get_or-take i xs (i - 1) f (omega arith) ∙ read_any xs (i - 1) e (omega arith) last f

      each : All (λ p. p.0 < d.0) (take i xs)
      each k f in_front = elim (cases_eq k (i - 1)) [
        | inl same ↦ subst (λ (p : ℕ × Reply). p.0 < d.0) (sym (last_is f) ∙ ap (λ n. get_or (take i xs) n f) (sym same)) below
        | inr other ↦
            let earlier : k < i - 1 = omega (arith, few) in
            let step = subst (λ (p : ℕ × Reply). (get_or (take i xs) k f).0 < p.0) (last_is f) (rising k (i - 1) f earlier (omega (arith, few))) in
            omega (arith, below)
      ]

  pub rising_not : (e : ℕ × Reply) → e ≡ get_or xs (i - 1) e → (get_or xs i d).0 ≤ (get_or xs (i - 1) e).0 → IsRising xs → ⊥
  rising_not e last past rising =
      let step = rising (i - 1) i d (omega arith) inside in
      let before = ap (λ (p : ℕ × Reply). p.0) (read_any xs (i - 1) e (omega arith) last d ∙ last) in
      omega arith

-- what a pair is put between those of smaller and those of larger processes
module _ (process : ℕ) (reply : Reply) where
  pub put_at : (xs : List (ℕ × Reply)) → IsRising xs → ((other : Reply) → Contains xs (process, other) → ⊥) → (i : ℕ) → i ≤ length xs
      → ((k : ℕ) (d : ℕ × Reply) → k < i → (get_or xs k d).0 < process) → (i < length xs → (d : ℕ × Reply) × (process ≤ (get_or xs i d).0))
      → IsAdded process reply xs (take i xs ++ (process, reply) ∷ drop i xs)
  put_at [] rising absent zero within below above = add_alone process reply
  put_at [] rising absent (suc i) within below above = absurd (omega arith)
  put_at (x ∷ xs) rising absent zero within below above = add_first process reply x xs rising (omega (arith, (above (omega arith)).1, differs))
    where
      differs : process ≢ x.0
      differs same = absent x.1 (0, omega arith, λ i. (sym same i, x.1))
  put_at (x ∷ xs) rising absent (suc i) within below above =
      add_later process reply x xs rising (take i xs ++ (process, reply) ∷ drop i xs) (below 0 x (omega arith))
      (put_at xs (rest_rising x xs rising) (λ other there. absent other (Contains-append_right (x ∷ []) xs (process, other) there)) i (omega arith)
      (λ k d l. below (suc k) d (omega arith)) (λ l. above (omega arith)))

  -- what is added decides the whole
  pub one_added : (xs ys zs : List (ℕ × Reply)) → IsAdded process reply xs ys → IsAdded process reply xs zs → ys ≡ zs
  one_added xs ys zs a b = one_rising ys zs a.rising b.rising (into a b) (into b a)
    where
      into : {ys zs : List (ℕ × Reply)} → IsAdded process reply xs ys → IsAdded process reply xs zs → (x : ℕ × Reply) → Contains ys x → Contains zs x
      into {ys} {zs} a b x there = elim (a.was x there) [
        | inl old ↦ b.kept x old
        | inr new ↦ subst (Contains zs) new b.has
      ]

  -- and what it is added to
  pub one_without : (xs ys zs : List (ℕ × Reply)) → IsAdded process reply ys xs → IsAdded process reply zs xs → ys ≡ zs
  one_without xs ys zs a b = one_rising ys zs a.before b.before (into a b) (into b a)
    where
      into : {ys zs : List (ℕ × Reply)} → IsAdded process reply ys xs → IsAdded process reply zs xs → (x : ℕ × Reply) → Contains ys x → Contains zs x
      into {ys} {zs} a b x there = elim (b.was x (a.kept x there)) [
        | inl old ↦ old
        | inr new ↦ absurd (a.absent reply (subst (Contains ys) (sym new) there))
      ]

-- a process stands once
rising_once : (xs : List (ℕ × Reply)) (process : ℕ) (a b : Reply) → IsRising xs → Contains xs (process, a) → Contains xs (process, b) → a ≡ b
rising_once [] process a b rising there here = absurd (let inside = there.1 in omega arith)
rising_once (x ∷ xs) process a b rising there here = elim (first_or_rest x xs (process, a) there) [
  | inl first ↦ elim (first_or_rest x xs (process, b) here) [
    | inl same ↦ ap (λ (p : ℕ × Reply). p.1) (sym first ∙ same)
    | inr later ↦ absurd (never b first later)
  ]
  | inr rest ↦ elim (first_or_rest x xs (process, b) here) [
    | inl first ↦ absurd (never a first rest)
    | inr later ↦ rising_once xs process a b (rest_rising x xs rising) rest later
  ]
]
  where
    never : {c : Reply} (d : Reply) → x ≡ (process, c) → Contains xs (process, d) → ⊥
    never {c} d first later =
        let e = ap (λ (p : ℕ × Reply). p.0) first in
        let above = subst (λ (z : ℕ × Reply). x.0 < z.0) later.2 (rising 0 (suc later.0) (process, d) (omega arith) (omega (arith, later.1))) in
        omega arith

module _ (process : ℕ) where
  -- where a process has a pair, the pairs of all others are the list without it
  pub taken_out : (reply : Reply) (xs : List (ℕ × Reply)) → IsRising xs → Contains xs (process, reply) → IsAdded process reply (filter (begins_other process) xs) xs
  taken_out reply xs rising there = record {
    absent = λ other there'. let both = from_filter (begins_other process) xs (process, other) there' in other_from process (process, other) both.1 refl;
    before = AllPairs-filter (λ p q. p.0 < q.0) (begins_other process) xs rising;
    rising = rising;
    kept = λ x there'. (from_filter (begins_other process) xs x there').0;
    has = there;
    was = λ x there'. elim (cases_eq x.0 process) [
      | inl same ↦
          let e = rising_once xs process reply x.1 rising there (subst (λ n. Contains xs (n, x.1)) same there') in
          inr (λ i. (sym same i, e i))
      | inr other ↦ inl (in_filter (begins_other process) xs x (other_true process x other) there')
    ];
  }

  -- the pairs of all others, one pair further
  module _ (xs : List (ℕ × Reply)) (i : ℕ) (d : ℕ × Reply) (inside : i < length xs) (is : d ≡ get_or xs i d) where
    pub kept_pair : (d.0 ≡ process → ⊥) → filter (begins_other process) (take (i + 1) xs) ≡ filter (begins_other process) (take i xs) ++ d ∷ []
    kept_pair other = filter_more (begins_other process) xs i d inside ∙ ap (λ l. filter (begins_other process) (take i xs) ++ l) (cond-true _ _ _ (other_true process (get_or xs i d) (λ same. other (ap (λ (p : ℕ × Reply). p.0) is ∙ same))) ∙ ap (λ y. y ∷ []) (sym is))

    pub dropped_pair : d.0 ≡ process → filter (begins_other process) (take (i + 1) xs) ≡ filter (begins_other process) (take i xs)
    dropped_pair same = filter_more (begins_other process) xs i d inside ∙ ap (λ l. filter (begins_other process) (take i xs) ++ l) (cond-false _ _ _ fails) ∙ append-nil (filter (begins_other process) (take i xs))
      where
        fails : begins_other process (get_or xs i d) ≡ false
        fails = elim (cases_Bool (begins_other process (get_or xs i d))) [
          | inl passes ↦ absurd (other_from process (get_or xs i d) passes (sym (ap (λ (p : ℕ × Reply). p.0) is) ∙ same))
          | inr unmet ↦ unmet
        ]
