-- Domination among the members of a list, and taking out of it what others dominate.
use Rattle.std.proofs.Common.{◌≡◌, ◌⊎◌, ℕ, zero, suc, true, false, Bool, List, [], ◌∷◌, ◌++◌, length, length-append, Contains, AllPairs, inl, inr, refl, sym, ap, subst, ◌∙◌, arith, get_or, take, drop, ◌+◌, ◌-◌, ◌<◌, ◌≤◌, true≢false, not, ◌&&◌}
use Rattle.std.proofs.Math.Seq.{drop-append_seam, drop-cons, take-append_seam}
use Rattle.std.proofs.lemmas.List.{drop_all, length-drop, length-take-le, take_all, take_more}
use Rattle.std.proofs.lemmas.List.Elements.{All-contains, Contains-get_or, Contains-push, Contains-push_cases, Contains-append_left, Contains-append_right, Contains-append_cases}
use Rattle.lin_events.specs.declared.calls.Call.{Call}
use Rattle.lin_events.specs.declared.calls.Reply.{Reply}
use Rattle.lin_members.specs.declared.members.Path.{Path}
use Rattle.lin_frontier.specs.declared.pending.Open.{Open}
use Rattle.lin_members.specs.Members.{Member, IsOnOffer}
use Rattle.lin_frontier.specs.Placing.{IsAbsent}
use Rattle.lin_members.specs.Searching.{is_watching, is_observing, DominatesIn, IsAboveIn, IsPruned}
use Rattle.lin_frontier.specs.Masks.{is_crashed}

second_false : (a b : Bool) → b ≡ true → (a && not b) ≡ true → ⊥
second_false true true c h = true≢false (sym h)
second_false false true c h = true≢false (sym h)
second_false a false c h = true≢false (sym c)

module _ {S : Type 0} (observes : Call → Bool) (pending : List Open) where
  -- the first member dominates the second
  abbrev pub IsAbove : Member S → Member S → Type 0
  IsAbove m n = DominatesIn observes pending m n.state n.placed n.offers

  pub above_itself : (m : Member S) → IsAbove m m
  above_itself m = record {
    same = refl;
    part = λ i d inside. Contains-get_or m.placed i d inside;
    rest = λ i d inside. inl (Contains-get_or m.placed i d inside);
    offered = λ i d inside watching absent. let x = get_or m.offers i d in (x.0, Contains-get_or m.offers i d inside);
  }

  pub above_above : (k m n : Member S) → IsAbove k m → IsAbove m n → IsAbove k n
  above_above k m n a b = record {
    same = a.same ∙ b.same;
    part = λ i d inside. All-contains (λ x. Contains n.placed x) m.placed (get_or k.placed i d) b.part (a.part i d inside);
    rest = λ i d inside. elim (b.rest i d inside) [
      | inl there ↦ All-contains (λ (x : ℕ × Reply). Contains k.placed x ⊎ (is_crashed pending x.0 ≡ true)) m.placed (get_or n.placed i d) a.rest there
      | inr crashed ↦ inr crashed
    ];
    offered = λ i d inside watching absent.
        let x = get_or n.offers i d in
        let here = b.offered i d inside watching (still_absent x.1.0 watching absent) in
        All-contains (λ (y : ℕ × (ℕ × Reply)). is_watching observes pending y.1.0 ≡ true → IsAbsent y.1.0 k.placed → IsOnOffer k y.1) m.offers (here.0, x.1) a.offered here.1 watching absent;
  }
    where
      still_absent : (process : ℕ) → is_watching observes pending process ≡ true → IsAbsent process k.placed → IsAbsent process m.placed
      still_absent process watching absent i d inside same =
          elim (a.rest i d inside) [
            | inl there ↦ All-contains (λ (x : ℕ × Reply). x.0 ≡ process → ⊥) k.placed (get_or m.placed i d) absent there same
            | inr crashed ↦ second_false (is_observing observes pending process) (is_crashed pending process) (subst (λ q. is_crashed pending q ≡ true) same crashed) watching
          ]

  -- the same where the one must allow what was called as late
  pub above_itself_in : (m : Member S × Path) → IsAboveIn observes pending m m
  above_itself_in m = (above_itself m.0, omega arith)

  pub above_above_in : (k m n : Member S × Path) → IsAboveIn observes pending k m → IsAboveIn observes pending m n → IsAboveIn observes pending k n
  above_above_in k m n a b = (above_above k.0 m.0 n.0 a.0 b.0, omega (arith, a.1, b.1))

-- a list without one of its elements has as many in front of it
pub shorter : {A : Type 0} (xs now : List A) (at : ℕ) → at < length xs → now ≡ take at xs ++ drop (at + 1) xs → at ≤ length now
shorter xs now at inside is =
    let all = ap length is ∙ length-append (take at xs) (drop (at + 1) xs) in
    let front = length-take-le at xs (omega (arith, inside)) in
    omega arith

-- a slice up to the end of a list is what is left of it
pub rest_is : {A : Type 0} (xs : List A) (n : ℕ) → take (length xs - n) (drop n xs) ≡ drop n xs
rest_is xs n = take_all (length xs - n) (drop n xs) (omega (arith, length-drop n xs))

pub behind_too : {A : Type 0} {y : A} {P : Type 0} (xs : List A) (n : ℕ) → P ⊎ Contains (take (length xs - n) (drop n xs)) y → P ⊎ Contains (drop n xs) y
behind_too {y = y} xs n (inl before) = inl before
behind_too {y = y} xs n (inr behind) = inr (subst (λ l. Contains l y) (rest_is xs n) behind)

-- a pair more, in front
all_pairs_cons : {A : Type 0} (R : A → A → Type 0) (xs : List A) (x : A) → AllPairs R xs → ((y : A) → Contains xs y → R x y) → AllPairs R (x ∷ xs)
all_pairs_cons R xs x pairs each zero zero d below inside = absurd (omega arith)
all_pairs_cons R xs x pairs each zero (suc j) d below inside = each (get_or xs j d) (Contains-get_or xs j d (omega arith))
all_pairs_cons R xs x pairs each (suc i) zero d below inside = absurd (omega arith)
all_pairs_cons R xs x pairs each (suc i) (suc j) d below inside = pairs i j d (omega arith) (omega arith)

module _ {S : Type 0} (observes : Call → Bool) (pending : List Open) where
  -- of the members, `rest` are still to be looked at
  pub record IsPruning (members rest kept : List (Member S × Path)) : Type 0 where
    pub from_rest : (m : Member S × Path) → Contains rest m → Contains members m
    pub from_kept : (m : Member S × Path) → Contains kept m → Contains members m
    pub covered : (m : Member S × Path) → Contains members m → (n : Member S × Path) × (Contains rest n ⊎ Contains kept n) × IsAboveIn observes pending n m
    pub across : (m n : Member S × Path) → Contains kept m → Contains rest n → IsAboveIn observes pending n m → ⊥
    pub apart : AllPairs (λ m n. (IsAboveIn observes pending m n → ⊥) × (IsAboveIn observes pending n m → ⊥)) kept

  pub pruning_start : (members kept : List (Member S × Path)) → kept ≡ [] → IsPruning members members kept
  pruning_start members kept none = record {
    from_rest = λ m there. there;
    from_kept = λ m there. absurd (nothing m there);
    covered = λ m there. (m, inl there, above_itself_in observes pending m);
    across = λ m n there. absurd (nothing m there);
    apart = λ i j d below inside. absurd (let empty = ap length none in omega arith);
  }
    where
      nothing : (m : Member S × Path) → Contains kept m → ⊥
      nothing m there = let there' = subst (λ l. Contains l m) none there in let inside = there'.1 in omega arith

  module _ (members more rest kept : List (Member S × Path)) (m : Member S × Path) (popped : more ≡ rest ++ m ∷ []) (h : IsPruning members more kept) where
    in_more : (n : Member S × Path) → Contains rest n → Contains more n
    in_more n there = subst (λ l. Contains l n) (sym popped) (Contains-append_left rest (m ∷ []) n there)

    this : Contains more m
    this = subst (λ l. Contains l m) (sym popped) (Contains-push rest m)

    pub pruning_drop : (k : Member S × Path) → Contains rest k ⊎ Contains kept k → IsAboveIn observes pending k m → IsPruning members rest kept
    pruning_drop k there above = record {
      from_rest = λ n within. h.from_rest n (in_more n within);
      from_kept = h.from_kept;
      covered = λ n within. by n (h.covered n within);
      across = λ a b in_kept in_rest. h.across a b in_kept (in_more b in_rest);
      apart = h.apart;
    }
      where
        by : (n : Member S × Path) → ((o : Member S × Path) × (Contains more o ⊎ Contains kept o) × IsAboveIn observes pending o n) → (o : Member S × Path) × (Contains rest o ⊎ Contains kept o) × IsAboveIn observes pending o n
        by n c = elim c.1 [
          | inl in_more' ↦ elim (Contains-push_cases rest m c.0 (subst (λ l. Contains l c.0) popped in_more')) [
            | inl in_rest ↦ (c.0, inl in_rest, c.2)
            | inr same ↦ (k, there, above_above_in observes pending k m n above (subst (λ o. IsAboveIn observes pending o n) (sym same) c.2))
          ]
          | inr in_kept ↦ (c.0, inr in_kept, c.2)
        ]

    pub pruning_keep : (now : List (Member S × Path)) → now ≡ m ∷ kept
        → ((k : Member S × Path) → Contains rest k → IsAboveIn observes pending k m → ⊥) → ((k : Member S × Path) → Contains kept k → IsAboveIn observes pending k m → ⊥) → IsPruning members rest now
    pruning_keep now pushed below_rest below_kept = record {
      from_rest = λ n within. h.from_rest n (in_more n within);
      from_kept = λ n within. elim (cases n within) [
        | inl before ↦ h.from_kept n before
        | inr same ↦ subst (λ o. Contains members o) same (h.from_rest m this)
      ];
      covered = λ n within. by n (h.covered n within);
      across = λ a b in_now in_rest. elim (cases a in_now) [
        | inl before ↦ h.across a b before (in_more b in_rest)
        | inr same ↦ subst (λ o. IsAboveIn observes pending b o → ⊥) same (below_rest b in_rest)
      ];
      apart = subst (AllPairs (λ a b. (IsAboveIn observes pending a b → ⊥) × (IsAboveIn observes pending b a → ⊥))) (sym pushed)
          (all_pairs_cons (λ (a : Member S × Path) (b : Member S × Path). (IsAboveIn observes pending a b → ⊥) × (IsAboveIn observes pending b a → ⊥)) kept m h.apart
          (λ k there. (h.across k m there this, below_kept k there)));
    }
      where
        cases : (n : Member S × Path) → Contains now n → Contains kept n ⊎ (m ≡ n)
        cases n within = elim (Contains-append_cases (m ∷ []) kept n (subst (λ l. Contains l n) pushed within)) [
          | inl first ↦ elim (Contains-push_cases [] m n first) [
            | inl none ↦ absurd (let inside = none.1 in omega arith)
            | inr same ↦ inr same
          ]
          | inr before ↦ inl before
        ]

        kept_still : (n : Member S × Path) → Contains kept n → Contains now n
        kept_still n within = subst (λ l. Contains l n) (sym pushed) (Contains-append_right (m ∷ []) kept n within)

        by : (n : Member S × Path) → ((o : Member S × Path) × (Contains more o ⊎ Contains kept o) × IsAboveIn observes pending o n) → (o : Member S × Path) × (Contains rest o ⊎ Contains now o) × IsAboveIn observes pending o n
        by n c = elim c.1 [
          | inl in_more' ↦ elim (Contains-push_cases rest m c.0 (subst (λ l. Contains l c.0) popped in_more')) [
            | inl in_rest ↦ (c.0, inl in_rest, c.2)
            | inr same ↦ (c.0, inr (subst (λ o. Contains now o) same (subst (λ l. Contains l m) (sym pushed) (Contains-append_left (m ∷ []) kept m (Contains-push [] m)))), c.2)
          ]
          | inr in_kept ↦ (c.0, inr (kept_still c.0 in_kept), c.2)
        ]

  pub pruning_end : (members rest kept : List (Member S × Path)) → length rest ≡ 0 → IsPruning members rest kept → IsPruned observes pending members kept
  pruning_end members rest kept none h = record {
    from = h.from_kept;
    covered = λ m there. let c = h.covered m there in elim c.1 [
      | inl in_rest ↦ absurd (let inside = in_rest.1 in omega arith)
      | inr in_kept ↦ (c.0, in_kept, c.2)
    ];
    apart = h.apart;
  }

  -- the same for a list that is looked at from its end: what is left of it lies before a place, and what is kept behind that
  abbrev pub IsPrunedFrom : List (Member S × Path) → ℕ → List (Member S × Path) → Type 0
  IsPrunedFrom members at now = IsPruning members (take at now) (drop at now)

  pub from_end : (members : List (Member S × Path)) → IsPrunedFrom members (length members) members
  from_end members = subst (λ l. IsPruning members l (drop (length members) members)) (sym (take_all (length members) members (omega arith))) (pruning_start members (drop (length members) members) (drop_all (length members) members (omega arith)))

  module _ (members now : List (Member S × Path)) (at : ℕ) (m : Member S × Path) (inside : at < length now) (is : m ≡ get_or now at m) (h : IsPrunedFrom members (at + 1) now) where
    popped : take (at + 1) now ≡ take at now ++ m ∷ []
    popped = take_more now at m inside ∙ ap (λ k. take at now ++ k ∷ []) (sym is)

    pub from_dropped : (k : Member S × Path) → Contains (take at now) k ⊎ Contains (drop (at + 1) now) k → IsAboveIn observes pending k m → (then' : List (Member S × Path)) → then' ≡ take at now ++ drop (at + 1) now
        → IsPrunedFrom members at then'
    from_dropped k there above then' removed =
        subst (λ l. IsPruning members l (drop at then')) (sym before) (subst (λ l. IsPruning members (take at now) l) (sym behind)
        (pruning_drop members (take (at + 1) now) (take at now) (drop (at + 1) now) m popped h k there above))
      where
        len : length (take at now) ≡ at
        len = length-take-le at now (omega (arith, inside))

        before : take at then' ≡ take at now
        before = ap (take at) removed ∙ ap (λ n. take n (take at now ++ drop (at + 1) now)) (sym len) ∙ take-append_seam (take at now) (drop (at + 1) now)

        behind : drop at then' ≡ drop (at + 1) now
        behind = ap (drop at) removed ∙ ap (λ n. drop n (take at now ++ drop (at + 1) now)) (sym len) ∙ drop-append_seam (take at now) (drop (at + 1) now)

    pub from_kept_too : ((k : Member S × Path) → Contains (take at now) k → IsAboveIn observes pending k m → ⊥) → ((k : Member S × Path) → Contains (drop (at + 1) now) k → IsAboveIn observes pending k m → ⊥)
        → IsPrunedFrom members at now
    from_kept_too below_rest below_kept =
        pruning_keep members (take (at + 1) now) (take at now) (drop (at + 1) now) m popped h (drop at now)
        (drop-cons now at m inside ∙ ap (λ k. k ∷ drop (suc at) now) (sym is) ∙ ap (λ n. m ∷ drop n now) next) below_rest below_kept
      where
        next : suc at ≡ at + 1
        next = omega arith

  pub from_start : (members now : List (Member S × Path)) → IsPrunedFrom members 0 now → IsPruned observes pending members now
  from_start members now h = pruning_end members (take 0 now) now refl h
