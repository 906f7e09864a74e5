-- Pairs by rising process: one can be added, and their members decide them.
use Rattle.std.proofs.Common.{◌≡◌, ℕ, zero, suc, ◌<◌, List, [], ◌∷◌, Contains, All, inl, inr, refl, sym, ap, subst, ◌∙◌, arith, get_or}
use Rattle.std.proofs.lemmas.List.Elements.{Contains-get_or, Contains-append_right}
use Rattle.std.proofs.lemmas.List.Kept.{AllPairs-cons}
use Rattle.std.proofs.lemmas.Bool.{cases_order}
use Rattle.lin_events.specs.declared.calls.Reply.{Reply}
use Rattle.lin_order.specs.Configurations.{IsRising, IsAdded}
use Rattle.lin_lists.specs.lemmas.Elements.{first_or_rest, nothing_in}

pub rest_rising : (x : ℕ × Reply) (xs : List (ℕ × Reply)) → IsRising (x ∷ xs) → IsRising xs
rest_rising x xs rising i j d below within = rising (suc i) (suc j) d (omega arith) (omega arith)

module _ (process : ℕ) (reply : Reply) where
  pub add_alone : IsAdded process reply [] ((process, reply) ∷ [])
  add_alone = record {
    absent = λ other there. nothing_in (process, other) there;
    before = λ i j d below within. absurd (omega arith);
    rising = λ i j d below within. absurd (omega arith);
    kept = λ x there. absurd (nothing_in x there);
    has = (0, omega arith, refl);
    was = λ x there. elim (first_or_rest (process, reply) [] x there) [
      | inl same ↦ inr same
      | inr none ↦ inl none
    ];
  }

  module _ (x : ℕ × Reply) (xs : List (ℕ × Reply)) (rising : IsRising (x ∷ xs)) where
    pub add_first : process < x.0 → IsAdded process reply (x ∷ xs) ((process, reply) ∷ x ∷ xs)
    add_first below = record {
      absent = λ other there. let later = all_above there.0 (process, other) there.1 in let same = ap (λ (y : ℕ × Reply). y.0) there.2 in omega arith;
      before = rising;
      rising = AllPairs-cons (λ p q. p.0 < q.0) (process, reply) (x ∷ xs) all_above rising;
      kept = λ y there. Contains-append_right ((process, reply) ∷ []) (x ∷ xs) y there;
      has = (0, omega arith, refl);
      was = λ y there. elim (first_or_rest (process, reply) (x ∷ xs) y there) [
        | inl same ↦ inr same
        | inr rest ↦ inl rest
      ];
    }
      where
        all_above : All (λ q. process < q.0) (x ∷ xs)
        all_above zero d inside = below
        all_above (suc k) d inside = let step = rising 0 (suc k) d (omega arith) inside in omega arith

    pub add_later : (more : List (ℕ × Reply)) → x.0 < process → IsAdded process reply xs more → IsAdded process reply (x ∷ xs) (x ∷ more)
    add_later more above added = record {
      absent = λ other there. elim (first_or_rest x xs (process, other) there) [
        | inl same ↦ let first = ap (λ (y : ℕ × Reply). y.0) same in omega arith
        | inr rest ↦ added.absent other rest
      ];
      before = rising;
      rising = AllPairs-cons (λ p q. p.0 < q.0) x more (λ k d inside. elim (added.was (get_or more k d) (Contains-get_or more k d inside)) [
        | inl old ↦ subst (λ (y : ℕ × Reply). x.0 < y.0) old.2 (rising 0 (suc old.0) (get_or more k d) (omega arith) (omega (arith, old.1)))
        | inr new ↦ subst (λ (y : ℕ × Reply). x.0 < y.0) new above
      ]) added.rising;
      kept = λ y there. elim (first_or_rest x xs y there) [
        | inl same ↦ (0, omega arith, same)
        | inr old ↦ Contains-append_right (x ∷ []) more y (added.kept y old)
      ];
      has = Contains-append_right (x ∷ []) more (process, reply) added.has;
      was = λ y there. elim (first_or_rest x more y there) [
        | inl same ↦ inl (0, omega arith, same)
        | inr later ↦ elim (added.was y later) [
          | inl old ↦ inl (Contains-append_right (x ∷ []) xs y old)
          | inr new ↦ inr new
        ]
      ];
    }

  pub can_add : (placed : List (ℕ × Reply)) → IsRising placed → ((other : Reply) → Contains placed (process, other) → ⊥) → (more : List (ℕ × Reply)) × IsAdded process reply placed more
  can_add [] rising absent = ((process, reply) ∷ [], add_alone)
  can_add (x ∷ xs) rising absent = elim (cases_order process x.0) [
    | inl same ↦ absurd (absent x.1 (0, omega arith, λ i. (sym same i, x.1)))
    | inr differ ↦ elim differ [
      | inl below ↦ ((process, reply) ∷ x ∷ xs, add_first x xs rising below)
      | inr above ↦
          let rest = can_add xs (rest_rising x xs rising) (λ other there. absent other (Contains-append_right (x ∷ []) xs (process, other) there)) in
          (x ∷ rest.0, add_later x xs rising rest.0 above rest.1)
    ]
  ]

-- an element after the first has a larger process
above_first : (x : ℕ × Reply) (xs : List (ℕ × Reply)) (y : ℕ × Reply) → IsRising (x ∷ xs) → Contains xs y → x.0 < y.0
above_first x xs y rising there = subst (λ (z : ℕ × Reply). x.0 < z.0) there.2 (rising 0 (suc there.0) y (omega arith) (omega (arith, there.1)))

-- pairs by rising process with the same members are the same
pub one_rising : (xs ys : List (ℕ × Reply)) → IsRising xs → IsRising ys → ((x : ℕ × Reply) → Contains xs x → Contains ys x) → ((x : ℕ × Reply) → Contains ys x → Contains xs x) → xs ≡ ys
one_rising [] [] r s f b = refl
one_rising [] (y ∷ ys) r s f b = absurd (nothing_in y (b y (0, omega arith, refl)))
one_rising (x ∷ xs) [] r s f b = absurd (nothing_in x (f x (0, omega arith, refl)))
one_rising (x ∷ xs) (y ∷ ys) r s f b = both first (one_rising xs ys (rest_rising x xs r) (rest_rising y ys s) forth back)
  where
    first : x ≡ y
    first = elim (first_or_rest y ys x (f x (0, omega arith, refl))) [
      | inl same ↦ sym same
      | inr later ↦ elim (first_or_rest x xs y (b y (0, omega arith, refl))) [
        | inl same ↦ same
        | inr other ↦ absurd (let p = above_first y ys x s later in let q = above_first x xs y r other in omega arith)
      ]
    ]

    forth : (z : ℕ × Reply) → Contains xs z → Contains ys z
    forth z there = elim (first_or_rest y ys z (f z (Contains-append_right (x ∷ []) xs z there))) [
      | inl same ↦ absurd (let p = above_first x xs z r there in let e = ap (λ (q : ℕ × Reply). q.0) (first ∙ same) in omega arith)
      | inr later ↦ later
    ]

    back : (z : ℕ × Reply) → Contains ys z → Contains xs z
    back z there = elim (first_or_rest x xs z (b z (Contains-append_right (y ∷ []) ys z there))) [
      | inl same ↦ absurd (let p = above_first y ys z s there in let e = ap (λ (q : ℕ × Reply). q.0) (sym first ∙ same) in omega arith)
      | inr later ↦ later
    ]

    both : x ≡ y → xs ≡ ys → x ∷ xs ≡ y ∷ ys
    both p q = cc
