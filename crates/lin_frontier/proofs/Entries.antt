-- Entries that an event leaves, put in one after the other.
use Rattle.std.proofs.Common.{◌≡◌, ℕ, zero, suc, ◌+◌, Bool, true, false, if◌then◌else◌, List, [], ◌∷◌, ◌++◌, take, Contains, ◌⊎◌, inl, inr, refl, sym, ap, subst, ◌∙◌, arith, Option, Some, None, slice_get}
use Rattle.std.specs.Map.{keys_of}
use Rattle.std.specs.Option.{MatchOption}
use Rattle.std.proofs.lemmas.List.Elements.{Contains-append_left, Contains-append_right, Contains-push, Contains-push_cases}
use Rattle.indexmap.specs.IndexMap.{insert_entry}
use Rattle.lin_events.specs.declared.calls.Reply.{Reply}
use Rattle.lin_events.specs.declared.events.Body.{Body}
use Rattle.lin_events.specs.declared.events.Body.TheVariants.{Invoke, Ok, Fail, Info}
use Rattle.lin_frontier.specs.Placing.{IsKept, IsKeeping}
use Rattle.lin_frontier.specs.lemmas.Absorbing.{keys_push}
use Rattle.lin_frontier.specs.lemmas.Inserting.{first_or_rest}

module _ {K V : Type 0} (eq : K → K → Bool) (same : (x y : K) → eq x y ≡ true → x ≡ y) (k : K) (v : V) where
  -- what stands in the entries after an insertion
  pub inserted_cases : (es : List (K × V)) (e : K × V) → Contains (insert_entry eq es k v) e → Contains es e ⊎ (e ≡ (k, v))
  inserted_cases [] e there = elim (first_or_rest (k, v) [] e there) [ inl is ↦ inr (sym is) | inr none ↦ inl none ]
  inserted_cases (x ∷ es) e there = by (eq k x.0) refl (inserted_cases es e)
    where
      by : (b : Bool) → eq k x.0 ≡ b → (Contains (insert_entry eq es k v) e → Contains es e ⊎ (e ≡ (k, v))) → Contains (x ∷ es) e ⊎ (e ≡ (k, v))
      by true t more =
          let key = same k x.0 t in
          elim (first_or_rest (x.0, v) es e (subst (λ l. Contains l e) (ap (λ c. if c then (x.0, v) ∷ es else x ∷ insert_entry eq es k v) t) there)) [
            | inl is ↦ inr (sym is ∙ (λ i. (sym key i, v)))
            | inr rest ↦ inl (Contains-append_right (x ∷ []) es e rest)
          ]
      by false t more =
          elim (first_or_rest x (insert_entry eq es k v) e (subst (λ l. Contains l e) (ap (λ c. if c then (x.0, v) ∷ es else x ∷ insert_entry eq es k v) t) there)) [
            | inl is ↦ inl (0, omega arith, is)
            | inr rest ↦ elim (more rest) [
              | inl old ↦ inl (Contains-append_right (x ∷ []) es e old)
              | inr new ↦ inr new
            ]
          ]

  -- the keys stay, and the new one is there
  pub key_stays : (es : List (K × V)) (t : K) → Contains (keys_of es) t → Contains (keys_of (insert_entry eq es k v)) t
  key_stays [] t there = absurd (let inside = there.1 in omega arith)
  key_stays (x ∷ es) t there = by (eq k x.0) refl (key_stays es t)
    where
      by : (b : Bool) → eq k x.0 ≡ b → (Contains (keys_of es) t → Contains (keys_of (insert_entry eq es k v)) t) → Contains (keys_of (insert_entry eq (x ∷ es) k v)) t
      by true t' more = subst (λ l. Contains (keys_of l) t) (sym (ap (λ c. if c then (x.0, v) ∷ es else x ∷ insert_entry eq es k v) t')) there
      by false t' more = subst (λ l. Contains (keys_of l) t) (sym (ap (λ c. if c then (x.0, v) ∷ es else x ∷ insert_entry eq es k v) t')) (elim (first_or_rest x.0 (keys_of es) t there) [
        | inl is ↦ (0, omega arith, is)
        | inr rest ↦ Contains-append_right (x.0 ∷ []) (keys_of (insert_entry eq es k v)) t (more rest)
      ])

  pub key_there : (es : List (K × V)) → Contains (keys_of (insert_entry eq es k v)) k
  key_there [] = (0, omega arith, refl)
  key_there (x ∷ es) = by (eq k x.0) refl (key_there es)
    where
      by : (b : Bool) → eq k x.0 ≡ b → Contains (keys_of (insert_entry eq es k v)) k → Contains (keys_of (insert_entry eq (x ∷ es) k v)) k
      by true t more = subst (λ l. Contains (keys_of l) k) (sym (ap (λ c. if c then (x.0, v) ∷ es else x ∷ insert_entry eq es k v) t)) (0, omega arith, sym (same k x.0 t))
      by false t more = subst (λ l. Contains (keys_of l) k) (sym (ap (λ c. if c then (x.0, v) ∷ es else x ∷ insert_entry eq es k v) t)) (Contains-append_right (x.0 ∷ []) (keys_of (insert_entry eq es k v)) k more)

pub take_next : {A : Type 0} (xs : List A) (i : ℕ) (x : A) → slice_get xs i ≡ Some x → take (i + 1) xs ≡ take i xs ++ x ∷ []
take_next {A} xs i x is =
    let next : i + 1 ≡ suc i = omega arith in
    ap (λ n. take n xs) next ∙ by xs i is
  where
    by : (xs : List A) (i : ℕ) → slice_get xs i ≡ Some x → take (suc i) xs ≡ take i xs ++ x ∷ []
    by [] i is = cc
    by (y ∷ ys) zero is = let same : y ≡ x = cc in ap (λ z. z ∷ []) same
    by (y ∷ ys) (suc i) is = ap (λ l. y ∷ l) (by ys i is)

-- an event leaves one configuration of each, or none
kept_once : {S : Type 0} (process : ℕ) (body : Body) (c d e : S × List (ℕ × Reply)) → IsKept process body c d → IsKept process body c e → d ≡ e
kept_once process (Invoke call) c d e p q = p ∙ sym q
kept_once process (Ok name reply) c d e p q = p.1 ∙ sym q.1
kept_once process (Fail name) c d e p q = p.1 ∙ sym q.1
kept_once process (Info name) c d e p q = p ∙ sym q

module _ {S : Type 0} (process : ℕ) (body : Body) where
  pub keeping_none : (old new : List ((S × List (ℕ × Reply)) × ℕ)) → old ≡ [] → new ≡ [] → IsKeeping process body old new
  keeping_none old new none empty = record {
    sound = λ e there. absurd (let there' = subst (λ l. Contains l e) empty there in let inside = there'.1 in omega arith);
    complete = λ c d there. absurd (let there' = subst (λ l. Contains (keys_of l) c) none there in let inside = there'.1 in omega arith);
  }

  module _ (es : List ((S × List (ℕ × Reply)) × ℕ)) (i : ℕ) (c : S × List (ℕ × Reply)) (id : ℕ) (is : slice_get es i ≡ Some (c, id)) where
    keys_next : keys_of (take (i + 1) es) ≡ keys_of (take i es) ++ c ∷ []
    keys_next = ap keys_of (take_next es i (c, id) is) ∙ keys_push (take i es) c id

    old_kept : (e : (S × List (ℕ × Reply)) × ℕ) → Contains (take i es) e → Contains (take (i + 1) es) e
    old_kept e there = subst (λ l. Contains l e) (sym (take_next es i (c, id) is)) (Contains-append_left (take i es) ((c, id) ∷ []) e there)

    pub keeping_in : (eq : (S × List (ℕ × Reply)) → (S × List (ℕ × Reply)) → Bool) → ((x y : S × List (ℕ × Reply)) → eq x y ≡ true → x ≡ y)
        → (d : S × List (ℕ × Reply)) (new now : List ((S × List (ℕ × Reply)) × ℕ)) → now ≡ insert_entry eq new d id → IsKept process body c d
        → IsKeeping process body (take i es) new → IsKeeping process body (take (i + 1) es) now
    keeping_in eq same d new now put kept k = record {
      sound = λ e there. elim (inserted_cases eq same d id new e (subst (λ l. Contains l e) put there)) [
        | inl old ↦ let s = k.sound e old in (s.0, old_kept (s.0, e.1) s.1, s.2)
        | inr is' ↦
            let there' = subst (λ l. Contains l (c, id)) (sym (take_next es i (c, id) is)) (Contains-push (take i es) (c, id)) in
            (c, subst (λ n. Contains (take (i + 1) es) (c, n)) (sym (ap (λ (x : (S × List (ℕ × Reply)) × ℕ). x.1) is')) there', subst (IsKept process body c) (sym (ap (λ (x : (S × List (ℕ × Reply)) × ℕ). x.0) is')) kept)
      ];
      complete = λ b t there kept'. subst (λ l. Contains (keys_of l) t) (sym put) (elim (Contains-push_cases (keys_of (take i es)) c b (subst (λ l. Contains l b) keys_next there)) [
        | inl old ↦ key_stays eq same d id new t (k.complete b t old kept')
        | inr same' ↦
            let one = kept_once process body c d t kept (subst (λ x. IsKept process body x t) (sym same') kept') in
            subst (λ x. Contains (keys_of (insert_entry eq new d id)) x) one (key_there eq same d id new)
      ]);
    }

    pub keeping_out : (new : List ((S × List (ℕ × Reply)) × ℕ)) → ((d : S × List (ℕ × Reply)) → IsKept process body c d → ⊥)
        → IsKeeping process body (take i es) new → IsKeeping process body (take (i + 1) es) new
    keeping_out new never k = record {
      sound = λ e there. let s = k.sound e there in (s.0, old_kept (s.0, e.1) s.1, s.2);
      complete = λ b t there kept. elim (Contains-push_cases (keys_of (take i es)) c b (subst (λ l. Contains l b) keys_next there)) [
        | inl old ↦ k.complete b t old kept
        | inr same ↦ absurd (never t (subst (λ x. IsKept process body x t) (sym same) kept))
      ];
    }

  -- what is taken out of an answer
  pub left_some : (o : Option (S × List (ℕ × Reply))) (c d : S × List (ℕ × Reply)) → o ≡ Some d → MatchOption o ((e : S × List (ℕ × Reply)) → IsKept process body c e → ⊥) (IsKept process body c) → IsKept process body c d
  left_some o c d is h = subst (λ x. MatchOption x ((e : S × List (ℕ × Reply)) → IsKept process body c e → ⊥) (IsKept process body c)) is h

  pub left_none : (o : Option (S × List (ℕ × Reply))) (c : S × List (ℕ × Reply)) → o ≡ None → MatchOption o ((e : S × List (ℕ × Reply)) → IsKept process body c e → ⊥) (IsKept process body c)
      → (e : S × List (ℕ × Reply)) → IsKept process body c e → ⊥
  left_none o c is h = subst (λ x. MatchOption x ((e : S × List (ℕ × Reply)) → IsKept process body c e → ⊥) (IsKept process body c)) is h

  pub keeping_end : (es new : List ((S × List (ℕ × Reply)) × ℕ)) (i : ℕ) → take i es ≡ es → IsKeeping process body (take i es) new → IsKeeping process body es new
  keeping_end es new i all k = subst (λ l. IsKeeping process body l new) all k
