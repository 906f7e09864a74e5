-- Steps that are turned into outcomes, from the last on; and operations that are tried in turn.
use Rattle.std.proofs.Common.{◌≡◌, ℕ, zero, suc, ◌+◌, ◌<◌, ◌≤◌, List, [], ◌∷◌, ◌++◌, length, Contains, All, ◌⊎◌, inl, inr, refl, sym, ap, subst, ◌∙◌, arith, Some, get_or, take}
use Rattle.std.proofs.lemmas.List.Elements.{All-pop, Contains-push, Contains-push_cases, Contains-append_left}
use Rattle.lin_order.specs.declared.placed.Placed.{Placed}
use Rattle.lin_frontier.specs.Placing.{IsTried}

-- of the values that P holds of, `rest` are still to be turned into outcomes
pub record IsTrying {A C : Type 0} (P : A → Type 0) (make : A → C) (old : List C) (rest : List A) (now : List C) : Type 0 where
  pub kept : (x : C) → Contains old x → Contains now x
  pub sound : (x : C) → Contains now x → Contains old x ⊎ ((a : A) × P a × (x ≡ make a))
  pub rest_of : All P rest
  pub taken : (a : A) → P a → Contains rest a ⊎ Contains now (make a)

module _ {A C : Type 0} (P : A → Type 0) (make : A → C) (old : List C) where
  pub trying_start : (rest : List A) → All P rest → ((a : A) → P a → Contains rest a) → IsTrying P make old rest old
  trying_start rest all each = record {
    kept = λ x there. there;
    sound = λ x there. inl there;
    rest_of = all;
    taken = λ a p. inl (each a p);
  }

  pub trying_step : (more rest : List A) (now then' : List C) (x : A) → more ≡ rest ++ x ∷ [] → then' ≡ now ++ make x ∷ [] → IsTrying P make old more now → IsTrying P make old rest then'
  trying_step more rest now then' x popped pushed h =
      let parts = All-pop P more rest (Some x) popped h.rest_of in
      record {
        kept = λ y there. subst (λ l. Contains l y) (sym pushed) (Contains-append_left now (make x ∷ []) y (h.kept y there));
        sound = λ y there. elim (Contains-push_cases now (make x) y (subst (λ l. Contains l y) pushed there)) [
          | inl before ↦ h.sound y before
          | inr same ↦ inr (x, parts.1, sym same)
        ];
        rest_of = parts.0;
        taken = λ a p. elim (h.taken a p) [
          | inl in_more ↦ elim (Contains-push_cases rest x a (subst (λ l. Contains l a) popped in_more)) [
            | inl in_rest ↦ inl in_rest
            | inr same ↦ inr (subst (λ l. Contains l (make a)) (sym pushed) (subst (λ b. Contains (now ++ make x ∷ []) (make b)) same (Contains-push now (make x))))
          ]
          | inr in_now ↦ inr (subst (λ l. Contains l (make a)) (sym pushed) (Contains-append_left now (make x ∷ []) (make a) in_now))
        ];
      }

  pub trying_end : (rest : List A) (now : List C) → length rest ≡ 0 → IsTrying P make old rest now → (a : A) → P a → Contains now (make a)
  trying_end rest now none h a p = elim (h.taken a p) [
    | inl in_rest ↦ absurd (let inside = in_rest.1 in omega arith)
    | inr in_now ↦ in_now
  ]

-- each of the operations was tried, and nothing else
pub record IsTriedAll {A C : Type 0} (R : A → Placed → C → Type 0) (xs : List A) (out : List (C × Placed)) : Type 0 where
  pub sound : (x : C × Placed) → Contains out x → (o : A) × Contains xs o × R o x.1 x.0
  pub complete : (o : A) (l : Placed) (t : C) → Contains xs o → R o l t → Contains out (t, l)

module _ {A C : Type 0} (R : A → Placed → C → Type 0) where
  pub tried_none : (xs : List A) (out : List (C × Placed)) → xs ≡ [] → out ≡ [] → IsTriedAll R xs out
  tried_none xs out none empty = record {
    sound = λ x there. absurd (let there' = subst (λ l. Contains l x) empty there in let inside = there'.1 in omega arith);
    complete = λ o l t there. absurd (let there' = subst (λ l. Contains l o) none there in let inside = there'.1 in omega arith);
  }

  pub tried_push : (xs : List A) (o : A) (out now : List (C × Placed)) → IsTried (R o) out now → IsTriedAll R xs out → IsTriedAll R (xs ++ o ∷ []) now
  tried_push xs o out now one all = record {
    sound = λ x there. elim (one.sound x there) [
      | inl old ↦ let s = all.sound x old in (s.0, Contains-append_left xs (o ∷ []) s.0 s.1, s.2)
      | inr new ↦ (o, Contains-push xs o, new)
    ];
    complete = λ p l t there step. elim (Contains-push_cases xs o p there) [
      | inl old ↦ one.kept (t, l) (all.complete p l t old step)
      | inr same ↦ one.complete l t (subst (λ q. R q l t) (sym same) step)
    ];
  }

take_one : {A : Type 0} (i : ℕ) (xs : List A) (d : A) → i < length xs → take (suc i) xs ≡ take i xs ++ get_or xs i d ∷ []
take_one i [] d inside = absurd (omega arith)
take_one zero (y ∷ ys) d inside = refl
take_one (suc i) (y ∷ ys) d inside = ap (λ l. y ∷ l) (take_one i ys d (omega arith))

pub take_next : {A : Type 0} (xs : List A) (i : ℕ) (x : A) → i < length xs → x ≡ get_or xs i x → take (i + 1) xs ≡ take i xs ++ x ∷ []
take_next xs i x inside is =
    let next : i + 1 ≡ suc i = omega arith in
    ap (λ n. take n xs) next ∙ take_one i xs x inside ∙ ap (λ y. take i xs ++ y ∷ []) (sym is)

pub take_all : {A : Type 0} (i : ℕ) (xs : List A) → length xs ≤ i → take i xs ≡ xs
take_all zero [] past = refl
take_all zero (y ∷ ys) past = absurd (omega arith)
take_all (suc i) [] past = refl
take_all (suc i) (y ∷ ys) past = ap (λ l. y ∷ l) (take_all i ys (omega arith))

module _ {A C : Type 0} (R : A → Placed → C → Type 0) (xs : List A) (i : ℕ) where
  pub tried_more : (d : A) (out now : List (C × Placed)) → i < length xs → IsTried (R (get_or xs i d)) out now → IsTriedAll R (take i xs) out → IsTriedAll R (take (i + 1) xs) now
  tried_more d out now inside one all =
      let next : i + 1 ≡ suc i = omega arith in
      subst (λ l. IsTriedAll R l now) (sym (ap (λ n. take n xs) next ∙ take_one i xs d inside)) (tried_push R (take i xs) (get_or xs i d) out now one all)

  pub tried_full : (out : List (C × Placed)) → length xs ≤ i → IsTriedAll R (take i xs) out → IsTriedAll R xs out
  tried_full out past all = subst (λ l. IsTriedAll R l out) (take_all i xs past) all
