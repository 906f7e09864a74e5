-- Steps among which a reply is looked for, and members that are taken in where none that was visited dominates them: both from a list, from the last on.
use Rattle.std.proofs.Common.{◌≡◌, ◌⊎◌, ℕ, ◌+◌, List, [], ◌∷◌, ◌++◌, length, Contains, All, inl, inr, refl, sym, ap, subst, ◌∙◌, arith, append_assoc, Option, Some, None, Bool, Result, Ok, Err, OnOk, slice_get}
use Rattle.std.proofs.lemmas.List.{append-nil}
use Rattle.std.proofs.lemmas.List.Elements.{All-pop, All-push, All-weaker, Contains-push, Contains-push_cases, Contains-append_left}
use Rattle.lin_events.specs.declared.calls.Call.{Call}
use Rattle.lin_events.specs.declared.calls.Reply.{Reply}
use Rattle.lin_order.specs.declared.placed.Placed.{Placed}
use Rattle.lin_members.specs.declared.members.Path.{Path}
use Rattle.lin_frontier.specs.declared.pending.Open.{Open}
use Rattle.lin_members.specs.Members.{Member}
use Rattle.lin_frontier.specs.Nodes.{IsGrown}
use Rattle.lin_members.specs.Searching.{IsNodeOf, BeginsRound, DominatesIn, IsVisiting}
use Rattle.lin_configurations.specs.Putting.{IsPutNext, IsTakenIn}
use Rattle.lin_frontier.specs.lemmas.Absorbing.{get_more}
use Rattle.lin_members.specs.lemmas.Undominated.{above_itself}

-- of the steps that P holds of, those with the reply are among `rest`
pub record IsSifting {S : Type 0} (P : S × Reply → Type 0) (reply : Reply) (rest : List (S × Reply)) : Type 0 where
  pub rest_of : All P rest
  pub complete : (s : S) → P (s, reply) → Contains rest (s, reply)

module _ {S : Type 0} (P : S × Reply → Type 0) (reply : Reply) where
  module _ (more rest : List (S × Reply)) (a : S × Reply) (popped : more ≡ rest ++ a ∷ []) (h : IsSifting P reply more) where
    pub sifting_skip : (a.1 ≡ reply → ⊥) → IsSifting P reply rest
    sifting_skip other = record {
      rest_of = (All-pop P more rest (Some a) popped h.rest_of).0;
      complete = λ s p. elim (Contains-push_cases rest a (s, reply) (subst (λ l. Contains l (s, reply)) popped (h.complete s p))) [
        | inl in_rest ↦ in_rest
        | inr same ↦ absurd (other (ap (λ (b : S × Reply). b.1) same))
      ];
    }

    pub sifting_hit : a.1 ≡ reply → P (a.0, reply)
    sifting_hit is = subst P (λ i. (a.0, is i)) (All-pop P more rest (Some a) popped h.rest_of).1

  pub sifting_end : (rest : List (S × Reply)) → length rest ≡ 0 → IsSifting P reply rest → (s : S) → P (s, reply) → ⊥
  sifting_end rest none h s p = let there = h.complete s p in let inside = there.1 in absurd (omega arith)

-- what was added to nodes before and after
pub grown_grown : {A : Type 0} (a b c : List A) → IsGrown a b → IsGrown b c → IsGrown a c
grown_grown a b c p q = (p.0 ++ q.0, q.1 ∙ ap (λ l. l ++ q.0) p.1 ∙ append_assoc a p.0 q.0)

pub not_grown : {A : Type 0} (a : List A) → IsGrown a a
not_grown a = ([], sym (append-nil a))

-- a node stays where nodes are added
pub node_stays : (nodes now : List (ℕ × (Placed × Option ℕ))) (id parent : ℕ) (x : Placed × Option ℕ) → IsGrown nodes now → IsNodeOf nodes id parent x → IsNodeOf now id parent x
node_stays nodes now id parent x grown n = (n.0, n.1, subst (λ l. slice_get l n.0 ≡ Some (parent, x)) (sym grown.1) (get_more nodes grown.0 n.0 (parent, x) n.2))

pub begins_still : (nodes now : List (ℕ × (Placed × Option ℕ))) (path next : Path) (p : Placed) → IsGrown nodes now → BeginsRound nodes path next p → BeginsRound now path next p
begins_still nodes now path next p grown b = record { round = b.round; node = node_stays nodes now next.node path.node (p, None) grown b.node }

pub begins_from : (nodes : List (ℕ × (Placed × Option ℕ))) (path from next : Path) (p q : Placed) → from ≡ path → q ≡ p → next.round ≡ from.round + 1 → IsNodeOf nodes next.node from.node (q, None) → BeginsRound nodes path next p
begins_from nodes path from next p q at same round node = record {
  round = round ∙ ap (λ (k : Path). k.round + 1) at;
  node = subst (λ (r : Placed). IsNodeOf nodes next.node path.node (r, None)) same (subst (λ (k : Path). IsNodeOf nodes next.node k.node (q, None)) at node);
}

-- what was put last is last behind others too
pub put_after : {S : Type 0} (c : S × List (ℕ × Reply)) (p : Placed) (offers : List (ℕ × (ℕ × Reply))) (path : Path) (nodes : List (ℕ × (Placed × Option ℕ))) (front old now : List (Member S × Path)) → IsPutNext c p offers path nodes old now
    → IsPutNext c p offers path nodes (front ++ old) (front ++ now)
put_after c p offers path nodes front old now put = record {
  member = put.member;
  pushed = ap (λ l. front ++ l) put.pushed ∙ sym (append_assoc front old (put.member ∷ []));
  same = put.same;
  begins = put.begins;
}

-- what holds holds where the result is an `Ok`
pub on_any : {X E : Type 0} (r : Result X E) (P : Type 0) → P → OnOk r P
on_any (Ok x) P p = p
on_any (Err e) P p = tt

-- of the outcomes, `rest` are still to be taken in
pub record IsTakingIn {S : Type 0} (observes : Call → Bool) (pending : List Open) (outcomes rest : List ((S × List (ℕ × Reply)) × Placed)) (offers : List (ℕ × (ℕ × Reply))) (path : Path)
    (first nodes : List (ℕ × (Placed × Option ℕ))) (old now : List (Member S × Path)) : Type 0 where
  pub nodes_grown : IsGrown first nodes
  pub from_rest : (x : (S × List (ℕ × Reply)) × Placed) → Contains rest x → Contains outcomes x
  pub added : List (Member S × Path)
  pub grown : now ≡ old ++ added
  pub new : All (λ n. (p : Placed) × Contains outcomes ((n.0.state, n.0.placed), p) × (n.0.offers ≡ offers) × BeginsRound nodes path n.1 p) added
  pub taken : (c : S × List (ℕ × Reply)) (p : Placed) → Contains outcomes (c, p) → Contains rest (c, p) ⊎ ((n : Member S × Path) × Contains now n × DominatesIn observes pending n.0 c.0 c.1 offers)

module _ {S : Type 0} (observes : Call → Bool) (pending : List Open) (outcomes : List ((S × List (ℕ × Reply)) × Placed)) (offers : List (ℕ × (ℕ × Reply))) (path : Path)
    (first : List (ℕ × (Placed × Option ℕ))) (old : List (Member S × Path)) where
  pub taking_start : IsTakingIn observes pending outcomes outcomes offers path first first old old
  taking_start = record {
    nodes_grown = not_grown first;
    from_rest = λ x there. there;
    added = [];
    grown = sym (append-nil old);
    new = λ i d inside. absurd (omega arith);
    taken = λ c p there. inl there;
  }

  -- nodes were added
  taking_grown : (rest : List ((S × List (ℕ × Reply)) × Placed)) (nodes after : List (ℕ × (Placed × Option ℕ))) (now : List (Member S × Path)) → IsGrown nodes after → IsTakingIn observes pending outcomes rest offers path first nodes old now
      → IsTakingIn observes pending outcomes rest offers path first after old now
  taking_grown rest nodes after now more_nodes h = record {
    nodes_grown = grown_grown first nodes after h.nodes_grown more_nodes;
    from_rest = h.from_rest;
    added = h.added;
    grown = h.grown;
    new = All-weaker (λ (n : Member S × Path). (p : Placed) × Contains outcomes ((n.0.state, n.0.placed), p) × (n.0.offers ≡ offers) × BeginsRound nodes path n.1 p)
        (λ (n : Member S × Path). (p : Placed) × Contains outcomes ((n.0.state, n.0.placed), p) × (n.0.offers ≡ offers) × BeginsRound after path n.1 p)
        (λ n a. (a.0, a.1, a.2, begins_still nodes after path n.1 a.0 more_nodes a.3)) h.added h.new;
    taken = h.taken;
  }

  module _ (more rest : List ((S × List (ℕ × Reply)) × Placed)) (nodes : List (ℕ × (Placed × Option ℕ))) (now : List (Member S × Path)) (x : (S × List (ℕ × Reply)) × Placed) (popped : more ≡ rest ++ x ∷ [])
      (h : IsTakingIn observes pending outcomes more offers path first nodes old now) where
    in_more : (y : (S × List (ℕ × Reply)) × Placed) → Contains rest y → Contains more y
    in_more y there = subst (λ l. Contains l y) (sym popped) (Contains-append_left rest (x ∷ []) y there)

    pub taking_skip : (n : Member S × Path) → Contains now n → DominatesIn observes pending n.0 x.0.0 x.0.1 offers → IsTakingIn observes pending outcomes rest offers path first nodes old now
    taking_skip n there above = record {
      nodes_grown = h.nodes_grown;
      from_rest = λ y within. h.from_rest y (in_more y within);
      added = h.added;
      grown = h.grown;
      new = h.new;
      taken = λ c p within. elim (h.taken c p within) [
        | inl in_more' ↦ elim (Contains-push_cases rest x (c, p) (subst (λ l. Contains l (c, p)) popped in_more')) [
          | inl in_rest ↦ inl in_rest
          | inr same ↦ inr (n, there, subst (λ (y : (S × List (ℕ × Reply)) × Placed). DominatesIn observes pending n.0 y.0.0 y.0.1 offers) same above)
        ]
        | inr found ↦ inr found
      ];
    }

    pub taking_push : (after : List (ℕ × (Placed × Option ℕ))) (then' : List (Member S × Path)) (next : Path) → IsGrown nodes after → BeginsRound after path next x.1
        → then' ≡ now ++ ((record { state = x.0.0; placed = x.0.1; offers = offers }, next)) ∷ [] → IsTakingIn observes pending outcomes rest offers path first after old then'
    taking_push after then' next more_nodes begins pushed = record {
      nodes_grown = grown_grown first nodes after h.nodes_grown more_nodes;
      from_rest = λ y within. h.from_rest y (in_more y within);
      added = h.added ++ m ∷ [];
      grown = pushed ∙ ap (λ l. l ++ m ∷ []) h.grown ∙ append_assoc old h.added (m ∷ []);
      new = All-push (λ (n : Member S × Path). (p : Placed) × Contains outcomes ((n.0.state, n.0.placed), p) × (n.0.offers ≡ offers) × BeginsRound after path n.1 p) h.added m
          (All-weaker (λ (n : Member S × Path). (p : Placed) × Contains outcomes ((n.0.state, n.0.placed), p) × (n.0.offers ≡ offers) × BeginsRound nodes path n.1 p)
          (λ (n : Member S × Path). (p : Placed) × Contains outcomes ((n.0.state, n.0.placed), p) × (n.0.offers ≡ offers) × BeginsRound after path n.1 p)
          (λ n a. (a.0, a.1, a.2, begins_still nodes after path n.1 a.0 more_nodes a.3)) h.added h.new)
          (x.1, h.from_rest x this, refl, begins);
      taken = λ c p within. elim (h.taken c p within) [
        | inl in_more' ↦ elim (Contains-push_cases rest x (c, p) (subst (λ l. Contains l (c, p)) popped in_more')) [
          | inl in_rest ↦ inl in_rest
          | inr same ↦ inr (
            m,
            subst (λ l. Contains l m) (sym pushed) (Contains-push now m),
            subst (λ (y : (S × List (ℕ × Reply)) × Placed). DominatesIn observes pending m.0 y.0.0 y.0.1 offers) same (above_itself observes pending m.0),
          )
        ]
        | inr found ↦ inr (found.0, subst (λ l. Contains l found.0) (sym pushed) (Contains-append_left now (m ∷ []) found.0 found.1), found.2)
      ];
    }
      where
        m : Member S × Path
        m = (record { state = x.0.0; placed = x.0.1; offers = offers }, next)

        this : Contains more x
        this = subst (λ l. Contains l x) (sym popped) (Contains-push rest x)

    -- the same of a member that was put together
    pub taking_made : (after : List (ℕ × (Placed × Option ℕ))) (then' : List (Member S × Path)) (n : Member S × Path) → IsGrown nodes after → BeginsRound after path n.1 x.1
        → n.0 ≡ record { state = x.0.0; placed = x.0.1; offers = offers } → then' ≡ now ++ n ∷ [] → IsTakingIn observes pending outcomes rest offers path first after old then'
    taking_made after then' n more_nodes begins is pushed = taking_push after then' n.1 more_nodes begins (pushed ∙ ap (λ (k : Member S). now ++ (k, n.1) ∷ []) is)

    -- it was taken in
    pub taking_turn : (after : List (ℕ × (Placed × Option ℕ))) (then' : List (Member S × Path)) → IsGrown nodes after → IsTakenIn observes pending x.0 x.1 offers path after now then' → IsTakingIn observes pending outcomes rest offers path first after old then'
    taking_turn after then' more_nodes turn = elim turn [
      | inl above ↦ subst (λ l. IsTakingIn observes pending outcomes rest offers path first after old l) (sym above.3) (taking_grown rest nodes after now more_nodes (taking_skip above.0 above.1 above.2))
      | inr put ↦ taking_made after then' put.member more_nodes put.begins put.same put.pushed
    ]

  pub taking_end : (rest : List ((S × List (ℕ × Reply)) × Placed)) (nodes : List (ℕ × (Placed × Option ℕ))) (now : List (Member S × Path)) → length rest ≡ 0
      → IsTakingIn observes pending outcomes rest offers path first nodes old now → IsVisiting observes pending outcomes offers path nodes old now
  taking_end rest nodes now none h = record {
    added = h.added;
    grown = h.grown;
    new = h.new;
    taken = λ c p there. elim (h.taken c p there) [
      | inl in_rest ↦ absurd (let inside = in_rest.1 in omega arith)
      | inr found ↦ found
    ];
  }
