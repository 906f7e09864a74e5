-- A list of members with nothing on offer that is its own work list: each is gone on from by taking offers and by placing open operations.
use Rattle.std.proofs.Common.{◌≡◌, ◌≢◌, ◌⊎◌, ℕ, zero, suc, ◌+◌, ◌<◌, ◌≤◌, Bool, true, false, true≢false, List, [], ◌∷◌, ◌++◌, length, length-append, Contains, All, AllPairs, get_or, take, map, inl, inr, refl, sym, ap, subst, ◌∙◌, append_assoc, arith, Option, Some, None}
use Rattle.std.proofs.lemmas.List.{append-nil, get_or-map, get_or-take, get_or_append_left, length-map, length-take-le}
use Rattle.std.proofs.lemmas.Bool.{cases_lt}
use Rattle.std.proofs.lemmas.List.Elements.{All-append, All-contains, All-weaker, Contains-append_left, Contains-get_or, Contains-push, Contains-push_cases}
use Rattle.std.proofs.lemmas.List.Quantifiers.{all_pairs_push}
use Rattle.lin_events.specs.declared.items.Item.{Item}
use Rattle.lin_events.specs.declared.calls.Call.{Call}
use Rattle.lin_events.specs.declared.calls.Name.{Name}
use Rattle.lin_events.specs.declared.calls.Reply.{Reply}
use Rattle.lin_events.specs.declared.events.Event.{Event}
use Rattle.lin_events.specs.declared.meter.Meter.{Meter}
use Rattle.lin_events.specs.Operations.{IsOpen}
use Rattle.lin_events.specs.WellFormed.{IsWellFormed}
use Rattle.lin_events.specs.WellFormedLaws.{WellFormedIsAlternating}
use Rattle.lin_objects.specs.Observing.{IsObserving}
use Rattle.lin_order.specs.declared.placed.Placed.{Placed}
use Rattle.lin_order.specs.Configurations.{IsAdded, IsConfiguration, IsOver}
use Rattle.lin_members.specs.declared.members.Path.{Path}
use Rattle.lin_frontier.specs.declared.pending.Open.{Open}
use Rattle.lin_members.specs.Compressed.{IsSpelled}
use Rattle.lin_frontier.specs.Frontiers.{IsPending}
use Rattle.lin_members.specs.Listed.{member_at, with_offers, config_of, AreDifferent, AreWorkedOff, Continues, IsHeld, IsTakenIn, IsExtended, IsTakenAt, IsPlacedAt, placing_tries}
use Rattle.lin_members.specs.Members.{Member}
use Rattle.lin_frontier.specs.Nodes.{IsGrown}
use Rattle.lin_frontier.specs.Placing.{IsAbsent, PlacesOne, insert_pair}
use Rattle.lin_members.specs.RoundLaws.{TrailEndsLaw, TrailPlacesLaw, TrailTakesLaw}
use Rattle.lin_members.specs.Rounds.{SpellsRounds, joined, begin_round, put, begins}
use Rattle.lin_members.specs.Searching.{CoversIn, DominatesIn}
use Rattle.lin_frontier.specs.Walks.{IsTriedAtMost}
use Rattle.lin_members.specs.lemmas.Aheads.{puts_offered}
use Rattle.lin_frontier.specs.lemmas.Closing.{any_default}
use Rattle.lin_frontier.specs.lemmas.Inserting.{first_or_rest, none_from, insert_added}
use Rattle.lin_members.specs.lemmas.Joining.{put_many}
use Rattle.lin_members.specs.lemmas.Exchanging.{open_call}
use Rattle.lin_configurations.specs.lemmas.Onward.{rounds_stay, spelled_rising, spelled_stays}
use Rattle.lin_lists.specs.lemmas.Filters.{from_map, in_map}
use Rattle.lin_members.specs.lemmas.Undominated.{above_itself}
use Rattle.lin_configurations.specs.lemmas.Visiting.{grown_grown, not_grown}

module _ {S : Type 0} (observes : Call → Bool) (pending : List Open) where
  -- a member with the configuration holds it
  pub holds_own : (n : Member S × Path) (c : S × List (ℕ × Reply)) → config_of n ≡ c → DominatesIn observes pending n.0 c.0 c.1 []
  holds_own n c is =
      let own : Member S = member_at (config_of n) [] in
      let by = above_itself observes pending own in
      subst (λ (d : S × List (ℕ × Reply)). DominatesIn observes pending n.0 d.0 d.1 []) is (record { same = refl; part = by.part; rest = by.rest; offered = λ i d inside. absurd (omega arith) })

  -- a member that covers the configuration holds it
  pub held_by : (members : List (Member S × Path)) (c : S × List (ℕ × Reply)) (n : Member S × Path) → Contains members n → CoversIn pending (config_of n) c → IsHeld observes pending members c
  held_by members c n there k = (n, there, record { same = k.same; part = k.part; rest = k.rest; offered = λ i d inside. absurd (omega arith) })

  pub held_more : (old added now : List (Member S × Path)) (c : S × List (ℕ × Reply)) → now ≡ old ++ added → IsHeld observes pending old c → IsHeld observes pending now c
  held_more old added now c is held = (held.0, subst (λ l. Contains l held.0) (sym is) (Contains-append_left old added held.0 held.1), held.2)

  module _ (c : S × List (ℕ × Reply)) (p : Placed) (spot : Option ℕ) (path : Path) where
    pub taken_in_not : (nodes : List (ℕ × (Placed × Option ℕ))) (old : List (Member S × Path)) → IsHeld observes pending old c → IsTakenIn observes pending c p spot path nodes old old
    taken_in_not nodes old held = record {
      added = [];
      grown = sym (append-nil old);
      new = λ i d inside. absurd (omega arith);
      different = λ all. all;
      held = held;
    }

    pub taken_in : (nodes : List (ℕ × (Placed × Option ℕ))) (old now : List (Member S × Path)) (n : Member S × Path) → (Contains (map config_of old) c → ⊥) → n.0 ≡ member_at c [] → Continues nodes path n.1 p spot
        → now ≡ old ++ n ∷ [] → IsTakenIn observes pending c p spot path nodes old now
    taken_in nodes old now n never is continues pushed = record {
      added = n ∷ [];
      grown = pushed;
      new = one;
      different = λ all. subst AreDifferent (sym pushed) (all_pairs_push (λ (k m : Member S × Path). config_of k ≢ config_of m) old n all
          (λ k d inside same. never (subst (Contains (map config_of old)) (same ∙ own) (in_map config_of old (get_or old k d) (Contains-get_or old k d inside)))));
      held = (n, subst (λ l. Contains l n) (sym pushed) (Contains-push old n), holds_own n c own);
    }
      where
        own : config_of n ≡ c
        own = ap (λ (k : Member S). (k.state, k.placed)) is

        one : All (λ (m : Member S × Path). (m.0 ≡ member_at c []) × Continues nodes path m.1 p spot) (n ∷ [])
        one zero d inside = (is, continues)
        one (suc i) d inside = absurd (omega arith)

pub tried_where : (places : Bool) (pending : List Open) (m n : Meter) → places ≡ true → IsTriedAtMost (length pending) m n → IsTriedAtMost (placing_tries places pending) m n
tried_where true pending m n is t = t
tried_where false pending m n is t = absurd (true≢false (sym is))

-- the first members of a list are members of it, of different configurations where all are
in_take : {A : Type 0} (n : ℕ) (xs : List A) (x : A) → Contains (take n xs) x → Contains xs x
in_take zero xs x there = absurd (let inside = there.1 in omega arith)
in_take (suc n) [] x there = there
in_take (suc n) (y ∷ ys) x there = elim (first_or_rest y (take n ys) x there) [
  | inl same ↦ (0, omega arith, same)
  | inr later ↦ let r = in_take n ys x later in (suc r.0, omega (arith, r.1), r.2)
]

different_take : {S : Type 0} (n : ℕ) (xs : List (Member S × Path)) → n ≤ length xs → AreDifferent xs → AreDifferent (take n xs)
different_take n xs short all i j d below inside =
    let many = length-take-le n xs short in
    subst (λ x. config_of x ≢ config_of (get_or (take n xs) j d)) (sym (get_or-take n xs i d (omega arith))) (subst (λ y. config_of (get_or xs i d) ≢ config_of y) (sym (get_or-take n xs j d (omega arith))) (all i j d below (omega arith)))

different_map : {S : Type 0} (xs : List (Member S × Path)) → AreDifferent xs → AllPairs (λ (c d : S × List (ℕ × Reply)). c ≢ d) (map config_of xs)
different_map [] all i j d below inside same = absurd (omega arith)
different_map (x ∷ xs) all i j d below inside same =
    let many = length-map (x ∷ xs) config_of in
    all i j x below (omega arith) (sym (get_or-map config_of (x ∷ xs) i x d (omega arith)) ∙ same ∙ get_or-map config_of (x ∷ xs) j x d (omega arith))

module _ {S : Type 0} (start : S) (step : S → Call → S → Reply → Type 0) (observes : Call → Bool) (pending : List Open) (offers : List (ℕ × (ℕ × Reply))) where
  pub extended_not : (first : List (ℕ × (Placed × Option ℕ))) (old : List (Member S × Path)) → IsExtended start step observes pending offers first first old old
  extended_not first old = record {
    nodes_grown = not_grown first;
    added = [];
    grown = sym (append-nil old);
    bare = λ i d inside. absurd (omega arith);
    different = λ all. all;
    spelled = λ functions h well_formed opened all. all;
  }

  pub extended_both : (first mid last : List (ℕ × (Placed × Option ℕ))) (old now then' : List (Member S × Path)) → IsExtended start step observes pending offers first mid old now
      → IsExtended start step observes pending offers mid last now then' → IsExtended start step observes pending offers first last old then'
  extended_both first mid last old now then' a b = record {
    nodes_grown = grown_grown first mid last a.nodes_grown b.nodes_grown;
    added = a.added ++ b.added;
    grown = b.grown ∙ ap (λ l. l ++ b.added) a.grown ∙ append_assoc old a.added b.added;
    bare = All-append (λ (n : Member S × Path). n.0.offers ≡ []) a.added b.added a.bare b.bare;
    different = λ all. b.different (a.different all);
    spelled = λ functions h well_formed opened all. b.spelled functions h well_formed opened (a.spelled functions h well_formed opened all);
  }

  pub extended_keeps : (first nodes : List (ℕ × (Placed × Option ℕ))) (old now : List (Member S × Path)) → IsExtended start step observes pending offers first nodes old now → (m : Member S × Path) → Contains old m → Contains now m
  extended_keeps first nodes old now e m there = subst (λ l. Contains l m) (sym e.grown) (Contains-append_left old e.added m there)

  pub extended_bare : (first nodes : List (ℕ × (Placed × Option ℕ))) (old now : List (Member S × Path)) → IsExtended start step observes pending offers first nodes old now
      → All (λ (n : Member S × Path). n.0.offers ≡ []) old → All (λ (n : Member S × Path). n.0.offers ≡ []) now
  extended_bare first nodes old now e all = subst (All (λ (n : Member S × Path). n.0.offers ≡ [])) (sym e.grown) (All-append (λ (n : Member S × Path). n.0.offers ≡ []) old e.added all e.bare)

  pub held_extended : (first nodes : List (ℕ × (Placed × Option ℕ))) (old now : List (Member S × Path)) → IsExtended start step observes pending offers first nodes old now
      → (c : S × List (ℕ × Reply)) → IsHeld observes pending old c → IsHeld observes pending now c
  held_extended first nodes old now e c held = held_more observes pending old e.added now c e.grown held

  module _ (c d : S × List (ℕ × Reply)) (p : Placed) (path : Path) (first nodes : List (ℕ × (Placed × Option ℕ))) (old now : List (Member S × Path)) (there : Contains old (member_at c [], path)) where
    abbrev m : Member S × Path
    m = (member_at c offers, path)

    -- what is taken in is spelled where what it came of is
    taken_in_extends : (spot : Option ℕ) → IsGrown first nodes
        → ((functions : Item → Name → Bool) (h : List Event) → IsWellFormed functions h → IsPending h pending → IsSpelled start step observes h first m
        → (next : Path) → Continues nodes path next p spot → IsSpelled start step observes h nodes (member_at d offers, next))
        → IsTakenIn observes pending d p spot path nodes old now → IsExtended start step observes pending offers first nodes old now
    taken_in_extends spot grown on t = record {
      nodes_grown = grown;
      added = t.added;
      grown = t.grown;
      bare = All-weaker (λ (n : Member S × Path). (n.0 ≡ member_at d []) × Continues nodes path n.1 p spot) (λ (n : Member S × Path). n.0.offers ≡ []) (λ n a. ap (λ (k : Member S). k.offers) a.0) t.added t.new;
      different = t.different;
      spelled = λ functions h well_formed opened all.
          subst (All (λ (n : Member S × Path). IsSpelled start step observes h nodes (with_offers offers n))) (sym t.grown)
          (All-append (λ (n : Member S × Path). IsSpelled start step observes h nodes (with_offers offers n)) old t.added
          (All-weaker (λ (n : Member S × Path). IsSpelled start step observes h first (with_offers offers n)) (λ (n : Member S × Path). IsSpelled start step observes h nodes (with_offers offers n))
          (λ n s. spelled_stays start step observes h first nodes (with_offers offers n) grown s) old all)
          (All-weaker (λ (n : Member S × Path). (n.0 ≡ member_at d []) × Continues nodes path n.1 p spot) (λ (n : Member S × Path). IsSpelled start step observes h nodes (with_offers offers n))
          (λ n a. subst (λ (k : Member S). IsSpelled start step observes h nodes (with_offers offers (k, n.1))) (sym a.0)
          (on functions h well_formed opened (All-contains (λ (k : Member S × Path). IsSpelled start step observes h first (with_offers offers k)) old (member_at c [], path) all there) n.1 a.1))
          t.added t.new));
    }

    -- an offer was taken
    pub taken_extends : WellFormedIsAlternating → TrailTakesLaw start step → IsObserving step observes → (o : Open) → Contains pending o → (x : ℕ × (ℕ × Reply)) → Contains offers x → o.process ≡ x.1.0 → IsAbsent x.1.0 c.1
        → p ≡ record { at = o.at; reply = x.1.1 } → d ≡ (c.0, insert_pair x.1.0 x.1.1 c.1) → IsGrown first nodes → IsTakenIn observes pending d p (Some x.0) path nodes old now
        → IsExtended start step observes pending offers first nodes old now
    taken_extends alternating law observing o o_there x offer same absent placed is grown t = taken_in_extends (Some x.0) grown on t
      where
        on : (functions : Item → Name → Bool) (h : List Event) → IsWellFormed functions h → IsPending h pending → IsSpelled start step observes h first m
            → (next : Path) → Continues nodes path next p (Some x.0) → IsSpelled start step observes h nodes (member_at d offers, next)
        on functions h well_formed opened s next continues =
            let opens = opened.sound o o_there in
            let open_x : IsOpen h p.at x.1.0 opens.0 o.call = subst (λ (k : Placed). IsOpen h k.at x.1.0 opens.0 o.call) (sym placed) (subst (λ q. IsOpen h o.at q opens.0 o.call) same opens.1) in
            let by = s.trail.offered x.0 x.1 offer in
            let reply : p.reply ≡ x.1.1 = ap (λ (k : Placed). k.reply) placed in
            let added = insert_added x.1.0 x.1.1 c.1 (spelled_rising start step observes h first m s) (none_from x.1.0 c.1 absent) in
            let whole : insert_pair x.1.0 x.1.1 c.1 ≡ d.1 = sym (ap (λ (k : S × List (ℕ × Reply)). k.1) is) in
            record {
              states = s.states;
              rounds = put x.0 p s.rounds;
              spelled = subst (λ id. SpellsRounds nodes id (put x.0 p s.rounds)) (sym continues.1.1) (puts_offered start step observes h s.states s.rounds (member_at c offers) s.trail x.0 x.1 (inl offer) nodes continues.1.0 path.node p continues.1.2 (rounds_stay first nodes path.node s.rounds grown s.spelled));
              last = ap suc continues.0 ∙ s.last ∙ sym (put_many x.0 p s.rounds);
              trail = law observes observing functions h well_formed s.states s.rounds (member_at c offers) (member_at d offers) s.trail p x.1.0 opens.0 o.call open_x
                  (ap observes (open_call functions h ((alternating functions h).0 well_formed) p.at by.0 x.1.0 opens.0 by.1.key o.call by.1.call open_x by.1.is_open) ∙ by.1.observer)
                  x.0 (inl (subst (λ r. Contains offers (x.0, (x.1.0, r))) (sym reply) offer)) (sym (ap (λ (k : S × List (ℕ × Reply)). k.0) is))
                  (subst (λ r. IsAdded x.1.0 r c.1 d.1) (sym reply) (subst (IsAdded x.1.0 x.1.1 c.1) whole added)) (λ y there. there);
            }

    -- an open operation was placed
    pub placed_extends : TrailPlacesLaw start step → (o : Open) → Contains pending o → PlacesOne step o c p d → IsGrown first nodes → IsTakenIn observes pending d p None path nodes old now
        → IsExtended start step observes pending offers first nodes old now
    placed_extends law o o_there one grown t = taken_in_extends None grown on t
      where
        on : (functions : Item → Name → Bool) (h : List Event) → IsWellFormed functions h → IsPending h pending → IsSpelled start step observes h first m
            → (next : Path) → Continues nodes path next p None → IsSpelled start step observes h nodes (member_at d offers, next)
        on functions h well_formed opened s next continues =
            let opens = opened.sound o o_there in
            record {
              states = s.states ++ d.0 ∷ [];
              rounds = begin_round p s.rounds;
              spelled = subst (λ id. SpellsRounds nodes id (begin_round p s.rounds)) (sym continues.node.1) (begins continues.node.2 (rounds_stay first nodes path.node s.rounds grown s.spelled));
              last = ap suc continues.round ∙ omega (arith, s.last, length-append s.rounds ((p ∷ []) ∷ []));
              trail = law observes functions h well_formed s.states s.rounds (member_at c offers) (member_at d offers) s.trail p (record {
                process = o.process;
                key = opens.0;
                call = o.call;
                is_open = subst (λ i. IsOpen h i o.process opens.0 o.call) (sym one.at) opens.1;
                steps = one.steps;
                added = subst (IsAdded o.process p.reply c.1) (sym one.placed) (insert_added o.process p.reply c.1 (spelled_rising start step observes h first m s) (none_from o.process c.1 one.absent));
              }) (λ round x there. inl there);
            }

  module _ (first nodes : List (ℕ × (Placed × Option ℕ))) (old now : List (Member S × Path)) (e : IsExtended start step observes pending offers first nodes old now) (c : S × List (ℕ × Reply)) where
    -- what was held is held still
    pub taken_still : (x : ℕ × (ℕ × Reply)) → IsTakenAt observes pending old c x → IsTakenAt observes pending now c x
    taken_still x t o there same absent = held_extended first nodes old now e (c.0, insert_pair x.1.0 x.1.1 c.1) (t o there same absent)

    pub placed_still : IsPlacedAt step observes pending old c → IsPlacedAt step observes pending now c
    placed_still t o p d there one = held_extended first nodes old now e d (t o p d there one)

  -- of what placing makes of the configuration, `rest` is still to be taken in
  pub record IsPlacingIn (c : S × List (ℕ × Reply)) (rest : List ((S × List (ℕ × Reply)) × Placed)) (first nodes : List (ℕ × (Placed × Option ℕ))) (old now : List (Member S × Path)) : Type 0 where
    pub extended : IsExtended start step observes pending offers first nodes old now
    pub rest_of : (d : S × List (ℕ × Reply)) (p : Placed) → Contains rest (d, p) → (o : Open) × Contains pending o × PlacesOne step o c p d
    pub taken : (o : Open) (p : Placed) (d : S × List (ℕ × Reply)) → Contains pending o → PlacesOne step o c p d → Contains rest (d, p) ⊎ IsHeld observes pending now d

  module _ (c : S × List (ℕ × Reply)) (first : List (ℕ × (Placed × Option ℕ))) (old : List (Member S × Path)) where
    pub placing_start : (rest : List ((S × List (ℕ × Reply)) × Placed)) → ((d : S × List (ℕ × Reply)) (p : Placed) → Contains rest (d, p) → (o : Open) × Contains pending o × PlacesOne step o c p d)
        → ((o : Open) (p : Placed) (d : S × List (ℕ × Reply)) → Contains pending o → PlacesOne step o c p d → Contains rest (d, p)) → IsPlacingIn c rest first first old old
    placing_start rest sound complete = record {
      extended = extended_not first old;
      rest_of = sound;
      taken = λ o p d there one. inl (complete o p d there one);
    }

    pub placing_next : TrailPlacesLaw start step → (path : Path) → Contains old (member_at c [], path) → (more rest : List ((S × List (ℕ × Reply)) × Placed)) (nodes after : List (ℕ × (Placed × Option ℕ))) (now then' : List (Member S × Path))
        → (x : (S × List (ℕ × Reply)) × Placed) → more ≡ rest ++ x ∷ [] → IsGrown nodes after → IsTakenIn observes pending x.0 x.1 None path after now then' → IsPlacingIn c more first nodes old now → IsPlacingIn c rest first after old then'
    placing_next law path there more rest nodes after now then' x popped grown t h = record {
      extended = extended_both first nodes after old now then' h.extended e;
      rest_of = λ d p within. h.rest_of d p (subst (λ l. Contains l (d, p)) (sym popped) (Contains-append_left rest (x ∷ []) (d, p) within));
      taken = λ o p d within one. elim (h.taken o p d within one) [
        | inl in_more ↦ elim (Contains-push_cases rest x (d, p) (subst (λ l. Contains l (d, p)) popped in_more)) [
          | inl in_rest ↦ inl in_rest
          | inr same ↦ inr (subst (λ (y : (S × List (ℕ × Reply)) × Placed). IsHeld observes pending then' y.0) same t.held)
        ]
        | inr held ↦ inr (held_extended nodes after now then' e d held)
      ];
    }
      where
        this : (o : Open) × Contains pending o × PlacesOne step o c x.1 x.0
        this = h.rest_of x.0 x.1 (subst (λ l. Contains l x) (sym popped) (Contains-push rest x))

        e : IsExtended start step observes pending offers nodes after now then'
        e = placed_extends c x.0 x.1 path nodes after now then' (extended_keeps first nodes old now h.extended (member_at c [], path) there) law this.0 this.1 this.2 grown t

    pub placing_end : (rest : List ((S × List (ℕ × Reply)) × Placed)) (nodes : List (ℕ × (Placed × Option ℕ))) (now : List (Member S × Path)) → length rest ≡ 0 → IsPlacingIn c rest first nodes old now
        → IsPlacedAt step observes pending now c
    placing_end rest nodes now none h o p d there one = elim (h.taken o p d there one) [
      | inl in_rest ↦ absurd (let inside = in_rest.1 in omega arith)
      | inr held ↦ held
    ]

  -- the member is worked off
  abbrev pub IsWorkedAt : Bool → List (Member S × Path) → S × List (ℕ × Reply) → Type 0
  IsWorkedAt places now c = All (IsTakenAt observes pending now c) offers × (places ≡ true → IsPlacedAt step observes pending now c)

  pub worked_still : (places : Bool) (first nodes : List (ℕ × (Placed × Option ℕ))) (old now : List (Member S × Path)) → IsExtended start step observes pending offers first nodes old now → (c : S × List (ℕ × Reply))
      → IsWorkedAt places old c → IsWorkedAt places now c
  worked_still places first nodes old now e c w =
      (All-weaker (IsTakenAt observes pending old c) (IsTakenAt observes pending now c) (λ x t. taken_still first nodes old now e c x t) offers w.0, λ is. placed_still first nodes old now e c (w.1 is))

  -- those below `at` are worked off
  pub record IsReaching (places : Bool) (first nodes : List (ℕ × (Placed × Option ℕ))) (at : ℕ) (old now : List (Member S × Path)) : Type 0 where
    pub bare : All (λ m. m.0.offers ≡ []) now
    pub extended : IsExtended start step observes pending offers first nodes old now
    pub each : (k : ℕ) (d : Member S × Path) → k < at → k < length now → IsWorkedAt places now (config_of (get_or now k d))

  module _ (places : Bool) (first : List (ℕ × (Placed × Option ℕ))) (old : List (Member S × Path)) where
    pub reaching_start : All (λ m. m.0.offers ≡ []) old → IsReaching places first first 0 old old
    reaching_start bare = record {
      bare = bare;
      extended = extended_not first old;
      each = λ k d below. absurd (omega arith);
    }

    -- a member of the list, which has nothing on offer
    pub reaching_there : (nodes : List (ℕ × (Placed × Option ℕ))) (at : ℕ) (now : List (Member S × Path)) (m : Member S × Path) → at < length now → m ≡ get_or now at m → IsReaching places first nodes at old now
        → Contains now (member_at (config_of m) [], m.1)
    reaching_there nodes at now m inside is h =
        let there : Contains now m = (at, inside, sym is) in
        let bare = All-contains (λ (k : Member S × Path). k.0.offers ≡ []) now m h.bare there in
        subst (λ (o : List (ℕ × (ℕ × Reply))). Contains now (member_at (config_of m) o, m.1)) bare there

    pub reaching_next : (nodes after : List (ℕ × (Placed × Option ℕ))) (at : ℕ) (now then' : List (Member S × Path)) (m : Member S × Path) (c : S × List (ℕ × Reply)) → at < length now → m ≡ get_or now at m → c ≡ config_of m
        → IsExtended start step observes pending offers nodes after now then' → All (IsTakenAt observes pending then' c) offers → (places ≡ true → IsPlacedAt step observes pending then' c)
        → IsReaching places first nodes at old now → IsReaching places first after (at + 1) old then'
    reaching_next nodes after at now then' m c inside is same e taken placed h = record {
      bare = extended_bare nodes after now then' e h.bare;
      extended = extended_both first nodes after old now then' h.extended e;
      each = λ k d below within. elim (cases_lt k at) [
        | inl earlier ↦ subst (λ (n : Member S × Path). IsWorkedAt places then' (config_of n)) (sym (before k d (omega (arith, inside))))
            (worked_still places nodes after now then' e (config_of (get_or now k d)) (h.each k d earlier (omega (arith, inside))))
        | inr past ↦
            let here : k ≡ at = omega arith in
            let found : get_or then' k d ≡ m = ap (λ j. get_or then' j d) here ∙ before at d inside ∙ any_default now at d m inside ∙ sym is in
            subst (λ (n : Member S × Path). IsWorkedAt places then' (config_of n)) (sym found) (subst (IsWorkedAt places then') same (taken, placed))
      ];
    }
      where
        before : (k : ℕ) (d : Member S × Path) → k < length now → get_or then' k d ≡ get_or now k d
        before k d within = ap (λ l. get_or l k d) e.grown ∙ get_or_append_left now e.added d k within

    pub reaching_end : (nodes : List (ℕ × (Placed × Option ℕ))) (at : ℕ) (now : List (Member S × Path)) → length now ≤ at → IsReaching places first nodes at old now → AreWorkedOff step observes pending offers places now
    reaching_end nodes at now past h m there =
        let inside = there.1 in
        subst (λ (n : Member S × Path). IsWorkedAt places now (config_of n)) there.2 (h.each there.0 m (omega arith) inside)

  -- more members than the budget, with rounds and of different configurations
  pub over_members : TrailEndsLaw start step → (h : List Event) (nodes : List (ℕ × (Placed × Option ℕ))) (members : List (Member S × Path)) (budget : ℕ) → budget < length members
      → All (λ m. IsSpelled start step observes h nodes (with_offers offers m)) members → AreDifferent members → IsOver start step h budget
  over_members law h nodes members budget many spelled different = record {
    found = map config_of (take (budget + 1) members);
    many = length-map (take (budget + 1) members) config_of ∙ length-take-le (budget + 1) members (omega (arith, many));
    configurations = λ i d inside.
        let firsts = take (budget + 1) members in
        let m = from_map config_of firsts (get_or (map config_of firsts) i d) (Contains-get_or (map config_of firsts) i d inside) in
        subst (IsConfiguration start step h) m.2 (real m.0 (in_take (budget + 1) members m.0 m.1));
    distinct = different_map (take (budget + 1) members) (different_take (budget + 1) members (omega (arith, many)) different);
  }
    where
      real : (m : Member S × Path) → Contains members m → IsConfiguration start step h (config_of m)
      real m there =
          let s = All-contains (λ (k : Member S × Path). IsSpelled start step observes h nodes (with_offers offers k)) members m spelled there in
          (joined s.rounds, law observes h s.states s.rounds (with_offers offers m).0 s.trail)
