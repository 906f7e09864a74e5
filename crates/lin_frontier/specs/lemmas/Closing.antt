-- A list of entries that is its own work list.
use Rattle.std.proofs.Common.{◌≡◌, ◌≢◌, ℕ, length-append, ◌+◌, ◌<◌, ◌≤◌, zero, suc, Bool, true, false, List, [], ◌∷◌, ◌++◌, length, Contains, All, AllPairs, Decides, inl, inr, refl, sym, ap, subst, ◌∙◌, append_assoc, arith, take, get_or, true≢false, Some, slice_get}
use Rattle.std.specs.List.{IsDistinct}
use Rattle.std.proofs.lemmas.List.{append-nil, get_or_append_left, get_or-take, length-take-le}
use Rattle.std.proofs.lemmas.List.Elements.{All-append, All-weaker, All-contains, All-take, Contains-get_or, Contains-append_left}
use Rattle.std.specs.Map.{keys_of}
use Rattle.std.specs.Cmp.{IsEquivalence}
use Rattle.std.proofs.lemmas.Map.Entries.{length-keys_of}
use Rattle.std.proofs.lemmas.Map.Made.{AllPairs-from_IsDistinct}
use Rattle.std.proofs.lemmas.Bool.{cases_lt}
use Rattle.lin_order.specs.declared.placed.Placed.{Placed}
use Rattle.lin_frontier.specs.Nodes.{Spells, root, node, IsGrown}
use Rattle.lin_frontier.specs.Walks.{Walk, here, more, IsNode, IsAbsorbed, IsTraced, IsBeyond}
use Rattle.lin_frontier.specs.lemmas.Absorbing.{get_more}

-- each entry so far is traced, and each step from one below `at` leads to one of them
pub record IsClosing {S : Type 0} (R : S → Placed → S → Type 0) (starts : List (S × ℕ)) (before now : List (ℕ × Placed)) (at : ℕ) (found : List (S × ℕ)) : Type 0 where
  pub grown : IsGrown before now
  pub begins : (added : List (S × ℕ)) × (found ≡ starts ++ added)
  pub traced : All (IsTraced R starts before now) found
  pub closed : (k : ℕ) (d t : S) (l : Placed) → k < at → k < length found → R (get_or (keys_of found) k d) l t → Contains (keys_of found) t

-- inside the list the default does not matter
pub any_default : {S : Type 0} (xs : List S) (i : ℕ) (d e : S) → i < length xs → get_or xs i d ≡ get_or xs i e
any_default [] i d e h = absurd (omega arith)
any_default (x ∷ xs) zero d e h = refl
any_default (x ∷ xs) (suc i) d e h = any_default xs i d e (omega arith)

-- what nodes spell they spell with more
pub spells_more : (nodes added : List (ℕ × Placed)) {id : ℕ} {ls : List Placed} → Spells nodes id ls → Spells (nodes ++ added) id ls
spells_more nodes added root = root
spells_more nodes added (node {k} {parent} {p = p} at rest) = node (get_more nodes added k (parent, p) at) (spells_more nodes added rest)

pub spells_grown : (nodes now : List (ℕ × Placed)) (id : ℕ) (ls : List Placed) → IsGrown nodes now → Spells nodes id ls → Spells now id ls
spells_grown nodes now id ls grown s = subst (λ n. Spells n id ls) (sym grown.1) (spells_more nodes grown.0 s)

pub keys_append : {K X : Type 0} (es fs : List (K × X)) → keys_of (es ++ fs) ≡ keys_of es ++ keys_of fs
keys_append [] fs = refl
keys_append (e ∷ es) fs = ap (λ l. e.0 ∷ l) (keys_append es fs)

pub key_in : {K X : Type 0} (es : List (K × X)) (e : K × X) → Contains es e → Contains (keys_of es) e.0
key_in es e there = by es there.0 there.1 there.2
  where
    by : (es : List (_ × _)) (k : ℕ) → k < length es → get_or es k e ≡ e → Contains (keys_of es) e.0
    by [] k inside is = absurd (omega arith)
    by (x ∷ xs) zero inside is = (0, omega arith, ap (λ (p : _ × _). p.0) is)
    by (x ∷ xs) (suc k) inside is = let rest = by xs k (omega arith) is in (suc rest.0, omega (arith, rest.1), rest.2)

module _ {S : Type 0} (R : S → Placed → S → Type 0) (starts : List (S × ℕ)) (before : List (ℕ × Placed)) where
  pub traced_start : All (IsTraced R starts before before) starts
  traced_start k d inside = record {
    from = get_or starts k d;
    order = [];
    begins = Contains-get_or starts k d inside;
    walk = here;
    spelled = λ base s. subst (Spells before (get_or starts k d).1) (sym (append-nil base)) s;
  }

  pub closing_start : IsClosing R starts before before 0 starts
  closing_start = record {
    grown = ([], sym (append-nil before));
    begins = ([], sym (append-nil starts));
    traced = traced_start;
    closed = λ k d t l below. absurd (omega arith);
  }

  -- one step more, with a node more
  traced_more : (now then' : List (ℕ × Placed)) (entry new : S × ℕ) (l : Placed) → IsGrown now then' → IsTraced R starts before now entry → R entry.0 l new.0 → IsNode then' new.1 entry.1 l
      → IsTraced R starts before then' new
  traced_more now then' entry new l grown t step is = record {
    from = t.from;
    order = t.order ++ l ∷ [];
    begins = t.begins;
    walk = more t.walk step;
    spelled = λ base s.
        let parent = spells_grown now then' entry.1 (base ++ t.order) grown (t.spelled base s) in
        let one = node is.2 parent in
        subst (λ id. Spells then' id (base ++ (t.order ++ l ∷ []))) (sym is.1) (subst (Spells then' (suc is.0)) (append_assoc base t.order (l ∷ [])) one);
  }

  traced_grown : (now then' : List (ℕ × Placed)) (entry : S × ℕ) → IsGrown now then' → IsTraced R starts before now entry → IsTraced R starts before then' entry
  traced_grown now then' entry grown t = record {
    from = t.from;
    order = t.order;
    begins = t.begins;
    walk = t.walk;
    spelled = λ base s. spells_grown now then' entry.1 (base ++ t.order) grown (t.spelled base s);
  }

  -- the outcomes at `at` are taken in
  pub closing_step : (at : ℕ) (found : List (S × ℕ)) (out : List (S × Placed)) (then' : List (S × ℕ)) (now after : List (ℕ × Placed)) (entry : S × ℕ) → slice_get found at ≡ Some entry
      → IsGrown now after → IsAbsorbed out entry.1 found then' after
      → All (λ p. R entry.0 p.1 p.0) out → ((t : S) (l : Placed) → R entry.0 l t → Contains out (t, l))
      → IsClosing R starts before now at found → IsClosing R starts before after (at + 1) then'
  closing_step at found out then' now after entry is grown absorbed sound complete c = record {
    grown = (c.grown.0 ++ grown.0, grown.1 ∙ ap (λ l. l ++ grown.0) c.grown.1 ∙ append_assoc before c.grown.0 grown.0);
    begins = (c.begins.0 ++ absorbed.added, absorbed.kept ∙ ap (λ l. l ++ absorbed.added) c.begins.1 ∙ append_assoc starts c.begins.0 absorbed.added);
    traced = subst (All (IsTraced R starts before after)) (sym absorbed.kept)
        (All-append (IsTraced R starts before after) found absorbed.added
        (All-weaker (IsTraced R starts before now) (IsTraced R starts before after) (λ e t. traced_grown now after e grown t) found c.traced)
        (All-weaker (λ (e : S × ℕ). (l : Placed) × Contains out (e.0, l) × IsNode after e.1 entry.1 l) (IsTraced R starts before after)
        (λ e h. traced_more now after entry e h.0 grown this (All-contains (λ (p : S × Placed). R entry.0 p.1 p.0) out (e.0, h.0) sound h.1) h.2) absorbed.added absorbed.from_out));
    closed = λ k d t l below within step.
        elim (cases_lt k at) [
          | inl earlier ↦
              let old = get_or_append_left (keys_of found) (keys_of absorbed.added) d k (omega (arith, place.0)) in
              let step' = subst (λ s. R s l t) (ap (λ es. get_or es k d) keys ∙ old) step in
              subst (λ es. Contains es t) (sym keys) (Contains-append_left (keys_of found) (keys_of absorbed.added) t (c.closed k d t l earlier (omega (arith, place.0, length-keys_of found)) step'))
          | inr now' ↦
              let same : k ≡ at = omega arith in
              let old = get_or_append_left (keys_of found) (keys_of absorbed.added) d at place.0 in
              let is' = ap (λ n. get_or (keys_of then') n d) same ∙ ap (λ es. get_or es at d) keys ∙ old ∙ any_default (keys_of found) at d entry.0 place.0 ∙ place.1 in
              absorbed.taken (t, l) (complete t l (subst (λ s. R s l t) is' step))
        ];
  }
    where
      key_at : (es : List (S × ℕ)) (i : ℕ) → slice_get es i ≡ Some entry → (i < length (keys_of es)) × (get_or (keys_of es) i entry.0 ≡ entry.0)
      key_at [] i h = cc
      key_at (e ∷ es) zero h =
          let same : e ≡ entry = cc in
          (omega arith, ap (λ (p : S × ℕ). p.0) same)
      key_at (e ∷ es) (suc i) h =
          let rest = key_at es i h in
          (omega (arith, rest.0), rest.1)

      place : (at < length (keys_of found)) × (get_or (keys_of found) at entry.0 ≡ entry.0)
      place = key_at found at is

      keys : keys_of then' ≡ keys_of found ++ keys_of absorbed.added
      keys = ap keys_of absorbed.kept ∙ keys_append found absorbed.added

      in_list : (es : List (S × ℕ)) (i : ℕ) → slice_get es i ≡ Some entry → Contains es entry
      in_list [] i h = cc
      in_list (e ∷ es) zero h = (0, omega arith, cc)
      in_list (e ∷ es) (suc i) h = let rest = in_list es i h in (suc rest.0, omega (arith, rest.1), rest.2)

      this : IsTraced R starts before now entry
      this = All-contains (IsTraced R starts before now) found entry c.traced (in_list found at is)

  keys_begin : (now : List (ℕ × Placed)) (at : ℕ) (found : List (S × ℕ)) → (c : IsClosing R starts before now at found) → keys_of found ≡ keys_of starts ++ keys_of c.begins.0
  keys_begin now at found c = ap keys_of c.begins.1 ∙ keys_append starts c.begins.0

  pub begins_in : (now : List (ℕ × Placed)) (at : ℕ) (found : List (S × ℕ)) → IsClosing R starts before now at found → (a : S) → Contains (keys_of starts) a → Contains (keys_of found) a
  begins_in now at found c a there = subst (λ es. Contains es a) (sym (keys_begin now at found c)) (Contains-append_left (keys_of starts) (keys_of c.begins.0) a there)

  -- once each entry is worked through, the entries are closed
  pub closing_end : (at : ℕ) (now : List (ℕ × Placed)) (found : List (S × ℕ)) → length found ≤ at → IsClosing R starts before now at found
      → (a b : S) (p : Placed) → Contains (keys_of found) a → R a p b → Contains (keys_of found) b
  closing_end at now found done c a b p there step =
      let many = length-keys_of found in
      let inside = there.1 in
      c.closed there.0 a b p (omega arith) (omega arith) (subst (λ x. R x p b) (sym there.2) step)

-- where a test decides sameness of keys, no two keys of a map are the same
module _ {S : Type 0} {eq : S → S → Bool} (laws : IsEquivalence eq) (same : (x y : S) → eq x y ≡ true → x ≡ y) where
  decides : (a b : S) → Decides (eq a b) (a ≡ b)
  decides a b = (same a b, λ e. ap (λ x. eq a x) (sym e) ∙ laws.refl a)

  pub keys_differ : (es : List (S × ℕ)) → IsDistinct eq (keys_of es) → AllPairs (λ a b. a ≢ b) (keys_of es)
  keys_differ es unique = AllPairs-from_IsDistinct decides (keys_of es) unique

  pub entries_differ : (es : List (S × ℕ)) → IsDistinct eq (keys_of es) → AllPairs (λ a b. a.0 ≢ b.0) es
  entries_differ es unique i j d below inside =
      let many = length-keys_of es in
      λ e. keys_differ es unique i j d.0 below (omega arith) (key_at es i d (omega arith) ∙ e ∙ sym (key_at es j d inside))
    where
      key_at : (es : List (S × ℕ)) (i : ℕ) (d : S × ℕ) → i < length es → get_or (keys_of es) i d.0 ≡ (get_or es i d).0
      key_at [] i d inside = absurd (omega arith)
      key_at (e ∷ es) zero d inside = refl
      key_at (e ∷ es) (suc i) d inside = key_at es i d (omega arith)

  pub pairs_take : {X : Type 0} (Q : X → X → Type 0) (n : ℕ) (xs : List X) → n ≤ length xs → AllPairs Q xs → AllPairs Q (take n xs)
  pairs_take Q n xs within all i j d below inside =
      let many = length-take-le n xs within in
      subst (λ x. Q x (get_or (take n xs) j d)) (sym (get_or-take n xs i d (omega arith))) (subst (λ y. Q (get_or xs i d) y) (sym (get_or-take n xs j d (omega arith))) (all i j d below (omega arith)))

  -- more than n different values, of all of which P holds, cut to n + 1
  pub first_keys : (P : S → Type 0) (n : ℕ) (es : List (S × ℕ)) → n < length es → IsDistinct eq (keys_of es) → All (λ e. P e.0) es
      → (length (take (n + 1) (keys_of es)) ≡ n + 1) × All P (take (n + 1) (keys_of es)) × AllPairs (λ a b. a ≢ b) (take (n + 1) (keys_of es))
  first_keys P n es many unique all =
      let long = length-keys_of es in (
        length-take-le (n + 1) (keys_of es) (omega arith),
        All-take P (n + 1) (keys_of es) (on_keys es all),
        pairs_take (λ a b. a ≢ b) (n + 1) (keys_of es) (omega arith) (keys_differ es unique),
      )
    where
      on_keys : (es : List (S × ℕ)) → All (λ e. P e.0) es → All P (keys_of es)
      on_keys [] all k d inside = absurd (omega arith)
      on_keys (e ∷ es) all zero d inside = all 0 e (omega arith)
      on_keys (e ∷ es) all (suc k) d inside = on_keys es (λ j x within. all (suc j) x (omega arith)) k d (omega arith)

  -- more than n different traced values
  pub beyond_from : (R : S → Placed → S → Type 0) (starts : List (S × ℕ)) (before now : List (ℕ × Placed)) (n : ℕ) (found : List (S × ℕ))
      → n < length found → IsDistinct eq (keys_of found) → All (IsTraced R starts before now) found → IsBeyond R starts n
  beyond_from R starts before now n found many unique all =
      let parts = first_keys (λ t. (a : S) × (order : List Placed) × Contains (keys_of starts) a × Walk R a order t) n found many unique
      (All-weaker (IsTraced R starts before now) (λ (e : S × ℕ). (a : S) × (order : List Placed) × Contains (keys_of starts) a × Walk R a order e.0)
      (λ e t. (t.from.0, t.order, key_in starts t.from t.begins, t.walk)) found all) in
      record { found = take (n + 1) (keys_of found); many = parts.0; reached = parts.1; distinct = parts.2 }

-- where a look-up finds nothing, the list has ended
pub ended : (a b : ℕ) → (a < b → false ≡ true) → b ≤ a
ended a b h = elim (cases_lt a b) [
  | inl below ↦ absurd (true≢false (sym (h below)))
  | inr past ↦ past
]

-- a place below the end of a list is below the end of a longer one
pub longer : {A : Type 0} (at : ℕ) (xs ys added : List A) → at < length xs → ys ≡ xs ++ added → at + 1 ≤ length ys
longer at xs ys added below e = let long = ap length e ∙ length-append xs added in omega arith

-- nodes that were only added can be cut off again
pub cut_back : {A : Type 0} (before now : List A) → IsGrown before now → take (length before) now ≡ before
cut_back {A} before now grown = ap (take (length before)) grown.1 ∙ by before
  where
    by : (xs : List A) → take (length xs) (xs ++ grown.0) ≡ xs
    by [] = refl
    by (x ∷ xs) = ap (λ l. x ∷ l) (by xs)
