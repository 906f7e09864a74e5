-- A node spells one order, no longer than there are nodes; and reading it back to the root.
use Rattle.std.proofs.Common.{◌≡◌, ℕ, zero, suc, ◌+◌, ◌-◌, ◌<◌, ◌≤◌, List, [], ◌∷◌, ◌++◌, length, length-append, get_or, refl, sym, ap, subst, ◌∙◌, append_assoc, arith, Some, slice_get, reverse, inl, inr}
use Rattle.std.proofs.lemmas.List.{append-nil, get_or_append_left, length-reverse, reverse-append, reverse-reverse}
use Rattle.std.proofs.lemmas.Option.{slice_get_within}
use Rattle.std.proofs.lemmas.Bool.{cases_lt}
use Rattle.indexmap.proofs.IndexTableLemmas.Probe.{pigeonhole}
use Rattle.lin_frontier.specs.Nodes.{Spells, root, node}

one_some : {A : Type 0} {x y : A} → Some x ≡ Some y → x ≡ y
one_some e = cc

module _ {A : Type 0} (nodes : List (ℕ × A)) where
  pub spelled_root : (order : List A) → Spells nodes 0 order → order ≡ []
  spelled_root [] root = refl
  spelled_root (x ∷ xs) s = elim s [ ]

  pub spelled_node : (k : ℕ) (order : List A) → Spells nodes (suc k) order
      → (parent : ℕ) × (p : A) × (front : List A) × (slice_get nodes k ≡ Some (parent, p)) × Spells nodes parent front × (order ≡ front ++ p ∷ [])
  spelled_node k order (node {parent = parent} {order = front} {p = p} at rest) = (parent, p, front, at, rest, refl)

  pub one_spelled : (id : ℕ) (a b : List A) → Spells nodes id a → Spells nodes id b → a ≡ b
  one_spelled zero [] b root t = sym (spelled_root b t)
  one_spelled id a b (node {k} {parent} {order = front} {p = p} at rest) t =
      let s = spelled_node k b t in
      let e : (parent, p) ≡ (s.0, s.1) = one_some (sym at ∙ s.3) in
      let f = one_spelled parent front s.2 rest (subst (λ n. Spells nodes n s.2) (sym (ap (λ (x : ℕ × A). x.0) e)) s.4) in
      (λ i. f i ++ (e i).1 ∷ []) ∙ sym s.5

  -- the nodes on the way to the root, the first last
  nodes_of : (id : ℕ) (order : List A) → Spells nodes id order
      → (ks : List ℕ) × (length ks ≡ length order) × ((i : ℕ) → i < length ks → (o : List A) × Spells nodes (suc (get_or ks i 0)) o × (length o ≡ i + 1))
  nodes_of zero [] root = ([], refl, λ i inside. absurd (omega arith))
  nodes_of id order (node {k} {parent} {order = front} {p = p} at rest) =
      let r = nodes_of parent front rest in
      let many = length-append r.0 (k ∷ []) in
      let long = length-append front (p ∷ []) in (
        r.0 ++ k ∷ [],
        omega (arith, r.1),
        λ i inside. elim (cases_lt i (length r.0)) [
          | inl earlier ↦
              let o = r.2 i earlier in
              (o.0, subst (λ n. Spells nodes (suc n) o.0) (sym (get_or_append_left r.0 (k ∷ []) 0 i earlier)) o.1, o.2)
          | inr past ↦
              let here : i ≡ length r.0 = omega arith in
              (front ++ p ∷ [], subst (λ n. Spells nodes (suc n) (front ++ p ∷ [])) (sym (ap (λ j. get_or (r.0 ++ k ∷ []) j 0) here ∙ last r.0)) (node at rest), omega (arith, r.1))
        ],
      )
    where
      last : (xs : List ℕ) → get_or (xs ++ k ∷ []) (length xs) 0 ≡ k
      last [] = refl
      last (x ∷ xs) = last xs

  -- an order that is spelled is no longer than there are nodes
  pub spelled_length : (id : ℕ) (order : List A) → Spells nodes id order → length order ≤ length nodes
  spelled_length id order s =
      let r = nodes_of id order s in
      let least = pigeonhole (length r.0) (length nodes) (λ i. get_or r.0 i 0)
      (λ i inside. let o = r.2 i inside in let n = spelled_node (get_or r.0 i 0) o.0 o.1 in slice_get_within nodes (get_or r.0 i 0) (n.0, n.1) n.3)
      (λ i j one two same.
      let o = r.2 i one in
      let q = r.2 j two in
      let e = ap length (one_spelled (suc (get_or r.0 i 0)) o.0 q.0 o.1 (subst (λ n. Spells nodes (suc n) q.0) (sym same) q.1)) in
      omega (arith, o.2, q.2)) in
      omega (arith, r.1)

  -- a node in the middle of the way: what is left, and what was read, spell the whole
  pub IsReading : ℕ → ℕ → List A → Type 0
  IsReading id at read = (rest : List A) × Spells nodes at rest × Spells nodes id (rest ++ reverse read)

  pub reading_start : (id : ℕ) (read order : List A) → read ≡ [] → Spells nodes id order → IsReading id id read
  unfolding IsReading
  reading_start id read order none s = (order, s, subst (λ r. Spells nodes id (order ++ reverse r)) (sym none) (subst (Spells nodes id) (sym (append-nil order)) s))

  pub reading_inside : (id at : ℕ) (read : List A) → 0 < at → IsReading id at read → (at - 1 < length nodes) × (length read < length nodes)
  unfolding IsReading
  reading_inside id (suc k) read positive r =
      let n = spelled_node k r.0 r.1 in
      let long = spelled_length id (r.0 ++ reverse read) r.2 in
      let many = length-append r.0 (reverse read) in
      let some = ap length n.5 ∙ length-append n.2 (n.1 ∷ []) in
      (let inside = slice_get_within nodes k (n.0, n.1) n.3 in omega arith, omega (arith, length-reverse read))
  reading_inside id zero read positive r = absurd (omega arith)

  pub reading_step : (id at : ℕ) (read now : List A) (parent : ℕ) (p : A) → 0 < at → slice_get nodes (at - 1) ≡ Some (parent, p) → now ≡ read ++ p ∷ []
      → IsReading id at read → IsReading id parent now
  unfolding IsReading
  reading_step id zero read now parent p positive is pushed r = absurd (omega arith)
  reading_step id (suc k) read now parent p positive is pushed r =
      let n = spelled_node k r.0 r.1 in
      let same_place : suc k - 1 ≡ k = omega arith in
      let e : (n.0, n.1) ≡ (parent, p) = one_some (sym n.3 ∙ subst (λ j. slice_get nodes j ≡ Some (parent, p)) same_place is) in
      let same : n.1 ≡ p = ap (λ (x : ℕ × A). x.1) e in
      let whole : r.0 ++ reverse read ≡ n.2 ++ reverse now =
      ap (λ l. l ++ reverse read) (n.5 ∙ ap (λ q. n.2 ++ q ∷ []) same) ∙ append_assoc n.2 (p ∷ []) (reverse read) ∙ ap (λ x. n.2 ++ x) (sym (ap reverse pushed ∙ reverse-append read (p ∷ []))) in
      (n.2, subst (λ m. Spells nodes m n.2) (ap (λ (x : ℕ × A). x.0) e) n.4, subst (Spells nodes id) whole r.2)

  pub reading_end : (id at : ℕ) (read found order : List A) → at ≡ 0 → found ≡ reverse read → IsReading id at read → Spells nodes id order → found ≡ order
  unfolding IsReading
  reading_end id at read found order none is r s =
      let left = spelled_root r.0 (subst (λ k. Spells nodes k r.0) none r.1) in
      is ∙ ap (λ l. l ++ reverse read) (sym left) ∙ one_spelled id (r.0 ++ reverse read) order r.2 s

  -- what was read, once the root is reached, is the list from its end
  pub reversed : (id at : ℕ) (read order : List A) → at ≡ 0 → IsReading id at read → Spells nodes id order → read ≡ reverse order
  reversed id at read order none r s = sym (reverse-reverse read) ∙ ap reverse (reading_end id at read (reverse read) order none refl r s)
