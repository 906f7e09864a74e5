-- Members taken apart by their keys, and what is kept of the parts.
use Rattle.std.proofs.Common.{◌≡◌, ◌⊎◌, ◌-◌, ◌/◌, ◌^◌, ℕ, nat_eq, Bool, true, false, true≢false, List, [], ◌∷◌, ◌++◌, length, length-append, Contains, AllPairs, get_or, inl, inr, refl, sym, ap, subst, ◌∙◌, arith}
use Rattle.std.proofs.lemmas.Bool.{cases_lt}
use Rattle.std.proofs.lemmas.List.{get_or_append_left, get_or-append_right}
use Rattle.std.proofs.lemmas.List.Elements.{Contains-append_cases, Contains-append_left, Contains-append_right, Contains-get_or, Contains-push, Contains-push_cases}
use Rattle.std.specs.List.{fold}
use Rattle.std.specs.Hash as fed
use Rattle.std.specs.Hash.FoldHasher.{initial, write, finish}
use Rattle.std.specs.Int.Bits.{bit_and}
use Rattle.lin_events.specs.declared.calls.Call.{Call}
use Rattle.lin_members.specs.declared.members.Path.{Path}
use Rattle.lin_frontier.specs.declared.pending.Open.{Open}
use Rattle.lin_members.specs.Members.{Member}
use Rattle.lin_members.specs.Parts.{shows, IsParted}
use Rattle.lin_members.specs.Searching.{IsAboveIn, IsPruned}
use Rattle.lin_frontier.specs.lemmas.Masking.{same_bits}

-- pairs of two lists one after the other
pub pairs_joined : {A : Type 0} (R : A → A → Type 0) (xs ys : List A) → AllPairs R xs → AllPairs R ys → ((x y : A) → Contains xs x → Contains ys y → R x y) → AllPairs R (xs ++ ys)
pairs_joined R xs ys first second across i j d below inside =
    let many = length-append xs ys in
    elim (cases_lt j (length xs)) [
      | inl left ↦
          subst (λ x. R x (get_or (xs ++ ys) j d)) (sym (get_or_append_left xs ys d i (omega arith))) (subst (R (get_or xs i d)) (sym (get_or_append_left xs ys d j left)) (first i j d below left))
      | inr right ↦ subst (R (get_or (xs ++ ys) i d)) (sym (get_or-append_right xs ys (length xs) j d refl right)) (elim (cases_lt i (length xs)) [
        | inl before ↦
            subst (λ x. R x (get_or ys (j - length xs) d)) (sym (get_or_append_left xs ys d i before))
            (across (get_or xs i d) (get_or ys (j - length xs) d) (Contains-get_or xs i d before) (Contains-get_or ys (j - length xs) d (omega arith)))
        | inr behind ↦
            subst (λ x. R x (get_or ys (j - length xs) d)) (sym (get_or-append_right xs ys (length xs) i d refl behind)) (second (i - length xs) (j - length xs) d (omega arith) (omega arith))
      ])
    ]

module _ {S : Type 0} (test : Member S × Path → Bool) where
  -- of the members, `rest` are still to be told apart
  pub record IsParting (members rest ones zeros : List (Member S × Path)) : Type 0 where
    pub rest_of : (m : Member S × Path) → Contains rest m → Contains members m
    pub each : (m : Member S × Path) → Contains members m → Contains rest m ⊎ (Contains ones m ⊎ Contains zeros m)
    pub ones_from : (m : Member S × Path) → Contains ones m → Contains members m × (test m ≡ true)
    pub zeros_from : (m : Member S × Path) → Contains zeros m → Contains members m × (test m ≡ false)

  pub parting_start : (members ones zeros : List (Member S × Path)) → ones ≡ [] → zeros ≡ [] → IsParting members members ones zeros
  parting_start members ones zeros none empty = record {
    rest_of = λ m there. there;
    each = λ m there. inl there;
    ones_from = λ m there. absurd (let short = ap length none in let inside = there.1 in omega arith);
    zeros_from = λ m there. absurd (let short = ap length empty in let inside = there.1 in omega arith);
  }

  module _ (members more rest ones zeros : List (Member S × Path)) (x : Member S × Path) (popped : more ≡ rest ++ x ∷ []) (h : IsParting members more ones zeros) where
    has : Contains members x
    has = h.rest_of x (subst (λ l. Contains l x) (sym popped) (Contains-push rest x))

    still : (m : Member S × Path) → Contains rest m → Contains members m
    still m there = h.rest_of m (subst (λ l. Contains l m) (sym popped) (Contains-append_left rest (x ∷ []) m there))

    pub parting_one : (now : List (Member S × Path)) → now ≡ ones ++ x ∷ [] → test x ≡ true → IsParting members rest now zeros
    parting_one now pushed shown = record {
      rest_of = still;
      each = λ m there. elim (h.each m there) [
        | inl in_more ↦ elim (Contains-push_cases rest x m (subst (λ l. Contains l m) popped in_more)) [
          | inl in_rest ↦ inl in_rest
          | inr is ↦ inr (inl (subst (λ l. Contains l m) (sym pushed) (subst (Contains (ones ++ x ∷ [])) is (Contains-push ones x))))
        ]
        | inr other ↦ inr (elim other [
          | inl one ↦ inl (subst (λ l. Contains l m) (sym pushed) (Contains-append_left ones (x ∷ []) m one))
          | inr zero ↦ inr zero
        ])
      ];
      ones_from = λ m there. elim (Contains-push_cases ones x m (subst (λ l. Contains l m) pushed there)) [
        | inl before ↦ h.ones_from m before
        | inr is ↦ subst (λ (k : Member S × Path). Contains members k × (test k ≡ true)) is (has, shown)
      ];
      zeros_from = h.zeros_from;
    }

    pub parting_zero : (now : List (Member S × Path)) → now ≡ zeros ++ x ∷ [] → test x ≡ false → IsParting members rest ones now
    parting_zero now pushed hidden = record {
      rest_of = still;
      each = λ m there. elim (h.each m there) [
        | inl in_more ↦ elim (Contains-push_cases rest x m (subst (λ l. Contains l m) popped in_more)) [
          | inl in_rest ↦ inl in_rest
          | inr is ↦ inr (inr (subst (λ l. Contains l m) (sym pushed) (subst (Contains (zeros ++ x ∷ [])) is (Contains-push zeros x))))
        ]
        | inr other ↦ inr (elim other [
          | inl one ↦ inl one
          | inr zero ↦ inr (subst (λ l. Contains l m) (sym pushed) (Contains-append_left zeros (x ∷ []) m zero))
        ])
      ];
      ones_from = h.ones_from;
      zeros_from = λ m there. elim (Contains-push_cases zeros x m (subst (λ l. Contains l m) pushed there)) [
        | inl before ↦ h.zeros_from m before
        | inr is ↦ subst (λ (k : Member S × Path). Contains members k × (test k ≡ false)) is (has, hidden)
      ];
    }

  pub parting_end : (members rest ones zeros : List (Member S × Path)) → length rest ≡ 0 → IsParting members rest ones zeros → IsParted test members ones zeros
  parting_end members rest ones zeros none h = record {
    each = λ m there. elim (h.each m there) [
      | inl in_rest ↦ absurd (let inside = in_rest.1 in omega arith)
      | inr told ↦ told
    ];
    ones_from = h.ones_from;
    zeros_from = h.zeros_from;
  }

  -- what is kept of both parts is kept of all, since no member is above one of the other part
  pub pruned_joined : (observes : Call → Bool) (pending : List Open) → ((m n : Member S × Path) → IsAboveIn observes pending m n → test m ≡ test n)
      → (members ones zeros kept others out : List (Member S × Path)) → IsParted test members ones zeros → IsPruned observes pending ones kept
      → IsPruned observes pending zeros others → out ≡ kept ++ others → IsPruned observes pending members out
  pruned_joined observes pending alike members ones zeros kept others out parted first second is = subst (IsPruned observes pending members) (sym is) (record {
    from = λ m there. elim (Contains-append_cases kept others m there) [
      | inl one ↦ (parted.ones_from m (first.from m one)).0
      | inr zero ↦ (parted.zeros_from m (second.from m zero)).0
    ];
    covered = λ m there. elim (parted.each m there) [
      | inl one ↦ let by = first.covered m one in (by.0, Contains-append_left kept others by.0 by.1, by.2)
      | inr zero ↦ let by = second.covered m zero in (by.0, Contains-append_right kept others by.0 by.1, by.2)
    ];
    apart = pairs_joined (λ m n. (IsAboveIn observes pending m n → ⊥) × (IsAboveIn observes pending n m → ⊥)) kept others first.apart second.apart (λ m n one zero.
        let differ : test m ≡ test n → ⊥ = λ same. true≢false (sym (parted.ones_from m (first.from m one)).1 ∙ same ∙ (parted.zeros_from n (second.from n zero)).1) in
        (λ d. differ (alike m n d), λ d. differ (sym (alike n m d))));
  })

-- members of which one is above the other have the same key
pub same_shows : {S : Type 0} (input : S → List (List ℕ)) (observes : Call → Bool) (pending : List Open) (bit : ℕ) (m n : Member S × Path) → IsAboveIn observes pending m n
    → shows input pending bit m ≡ shows input pending bit n
same_shows input observes pending bit m n d =
    let bits = same_bits pending m.0.placed n.0.placed d.0.part d.0.rest in
    ap (λ k. nat_eq (bit_and (k / 2 ^ bit) 1) 1) (λ i. finish (fold write (fold write initial (input (d.0.same i))) (fed.u64 (bits i))))
