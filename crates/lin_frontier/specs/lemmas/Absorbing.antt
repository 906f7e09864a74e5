-- A list of outcomes that is taken into a map, from its end.
use Rattle.std.proofs.Common.{◌≡◌, ℕ, ◌+◌, zero, suc, false, List, [], ◌∷◌, ◌++◌, length, Contains, All, ◌⊎◌, inl, inr, refl, sym, ap, subst, ◌∙◌, append_assoc, arith, Option, Some, None, is_some, slice_get, add-one}
use Rattle.std.proofs.lemmas.List.{append-nil}
use Rattle.std.proofs.lemmas.List.Elements.{All-push, All-pop, All-weaker, All-contains_itself, Contains-push, Contains-push_cases, Contains-append_left}
use Rattle.std.specs.Map.{keys_of}
use Rattle.lin_order.specs.declared.placed.Placed.{Placed}
use Rattle.lin_frontier.specs.Nodes.{IsGrown}
use Rattle.lin_frontier.specs.Walks.{IsNode, IsAbsorbed}

-- of the outcomes, `rest` are still to be taken
pub record IsAbsorbing {S : Type 0} (out rest : List (S × Placed)) (parent : ℕ) (before now : List (S × ℕ)) (first nodes : List (ℕ × Placed)) : Type 0 where
  pub added : List (S × ℕ)
  pub kept : now ≡ before ++ added
  pub grown : IsGrown first nodes
  pub from_out : All (λ e. (l : Placed) × Contains out (e.0, l) × IsNode nodes e.1 parent l) added
  pub rest_of : All (Contains out) rest
  pub taken : (p : S × Placed) → Contains out p → Contains (keys_of now) p.0 ⊎ Contains rest p

-- what nodes had they have with more
pub get_more : {A : Type 0} (xs ys : List A) (k : ℕ) (x : A) → slice_get xs k ≡ Some x → slice_get (xs ++ ys) k ≡ Some x
get_more [] ys k x h = cc
get_more (z ∷ zs) ys zero x h = h
get_more (z ∷ zs) ys (suc k) x h = get_more zs ys k x h

get_last : {A : Type 0} (xs : List A) (y : A) → slice_get (xs ++ y ∷ []) (length xs) ≡ Some y
get_last [] y = refl
get_last (z ∷ zs) y = get_last zs y

-- the keys of one more entry
pub keys_push : {K X : Type 0} (es : List (K × X)) (k : K) (v : X) → keys_of (es ++ (k, v) ∷ []) ≡ keys_of es ++ k ∷ []
keys_push [] k v = refl
keys_push (e ∷ es) k v = ap (λ l. e.0 ∷ l) (keys_push es k v)

pub absorbing_start : {S : Type 0} (out : List (S × Placed)) (parent : ℕ) (before : List (S × ℕ)) (nodes : List (ℕ × Placed)) → IsAbsorbing out out parent before before nodes nodes
absorbing_start out parent before nodes = record {
  added = [];
  kept = sym (append-nil before);
  grown = ([], sym (append-nil nodes));
  from_out = λ k d h. absurd (omega arith);
  rest_of = All-contains_itself out;
  taken = λ s h. inr h;
}

module _ {S : Type 0} (out more rest : List (S × Placed)) (parent : ℕ) (before now : List (S × ℕ)) (first nodes : List (ℕ × Placed)) (x : S × Placed) (popped : more ≡ rest ++ x ∷ []) where
  -- the last of the rest was there already
  pub absorbing_skip : Contains (keys_of now) x.0 → IsAbsorbing out more parent before now first nodes → IsAbsorbing out rest parent before now first nodes
  absorbing_skip there a = record {
    added = a.added;
    kept = a.kept;
    grown = a.grown;
    from_out = a.from_out;
    rest_of = (All-pop (Contains out) more rest (Some x) popped a.rest_of).0;
    taken = λ s h. elim (a.taken s h) [
      | inl in_now ↦ inl in_now
      | inr in_more ↦ elim (Contains-push_cases rest x s (subst (λ l. Contains l s) popped in_more)) [
        | inl in_rest ↦ inr in_rest
        | inr same ↦ inl (subst (λ p. Contains (keys_of now) p.0) same there)
      ]
    ];
  }

  -- the last of the rest was new, and was put at the end with a node of its own
  pub absorbing_push : (then' : List (S × ℕ)) (grown : List (ℕ × Placed)) (id : ℕ) → then' ≡ now ++ (x.0, id) ∷ [] → grown ≡ nodes ++ (parent, x.1) ∷ [] → id ≡ length nodes + 1
      → IsAbsorbing out more parent before now first nodes → IsAbsorbing out rest parent before then' first grown
  absorbing_push then' grown id put pushed is a =
      let parts = All-pop (Contains out) more rest (Some x) popped a.rest_of in
      let keys = ap keys_of put ∙ keys_push now x.0 id in
      record {
        added = a.added ++ (x.0, id) ∷ [];
        kept = put ∙ ap (λ l. l ++ (x.0, id) ∷ []) a.kept ∙ append_assoc before a.added ((x.0, id) ∷ []);
        grown = (a.grown.0 ++ (parent, x.1) ∷ [], pushed ∙ ap (λ l. l ++ (parent, x.1) ∷ []) a.grown.1 ∙ append_assoc first a.grown.0 ((parent, x.1) ∷ []));
        from_out = All-push (λ (e : S × ℕ). (l : Placed) × Contains out (e.0, l) × IsNode grown e.1 parent l) a.added (x.0, id)
            (All-weaker (λ (e : S × ℕ). (l : Placed) × Contains out (e.0, l) × IsNode nodes e.1 parent l) (λ (e : S × ℕ). (l : Placed) × Contains out (e.0, l) × IsNode grown e.1 parent l)
            (λ e h. (h.0, h.1, (h.2.0, h.2.1, subst (λ l. slice_get l h.2.0 ≡ Some (parent, h.0)) (sym pushed) (get_more nodes ((parent, x.1) ∷ []) h.2.0 (parent, h.0) h.2.2)))) a.added a.from_out)
            (x.1, parts.1, (length nodes, is ∙ add-one (length nodes), subst (λ l. slice_get l (length nodes) ≡ Some (parent, x.1)) (sym pushed) (get_last nodes (parent, x.1))));
        rest_of = parts.0;
        taken = λ s h. elim (a.taken s h) [
          | inl in_now ↦ inl (subst (λ l. Contains l s.0) (sym keys) (Contains-append_left (keys_of now) (x.0 ∷ []) s.0 in_now))
          | inr in_more ↦ elim (Contains-push_cases rest x s (subst (λ l. Contains l s) popped in_more)) [
            | inl in_rest ↦ inr in_rest
            | inr same ↦ inl (subst (λ l. Contains l s.0) (sym keys) (subst (λ p. Contains (keys_of now ++ x.0 ∷ []) p.0) same (Contains-push (keys_of now) x.0)))
          ]
        ];
      }

-- in the end each outcome is among the keys
pub absorbing_end : {S : Type 0} (out rest : List (S × Placed)) (parent : ℕ) (before now : List (S × ℕ)) (first nodes : List (ℕ × Placed)) → rest ≡ []
    → IsAbsorbing out rest parent before now first nodes → IsAbsorbed out parent before now nodes
absorbing_end out rest parent before now first nodes e a = record {
  added = a.added;
  kept = a.kept;
  from_out = a.from_out;
  taken = λ s h. elim (a.taken s h) [
    | inl in_now ↦ in_now
    | inr in_rest ↦ absurd (let none = subst (λ l. Contains l s) e in_rest in let inside = none.1 in omega arith)
  ];
}

-- what is not there is none
pub none_from_not_some : {A : Type 0} (o : Option A) → is_some o ≡ false → o ≡ None
none_from_not_some None h = refl
none_from_not_some (Some x) h = cc

-- a list with no element
pub nothing_left : {S : Type 0} (xs : List S) → length xs ≡ 0 → xs ≡ []
nothing_left [] h = refl
nothing_left (x ∷ xs) h = absurd (omega (arith, h))
