-- Members that are put last, one after the other, each led to by rounds: what a member of a frontier shows.
use Rattle.std.proofs.Common.{◌≡◌, ◌⊎◌, ℕ, zero, suc, ◌+◌, ◌<◌, ◌≤◌, Bool, true, false, true≢false, not, ◌&&◌, List, [], ◌∷◌, ◌++◌, length, length-append, Contains, All, take, get_or, inl, inr, refl, sym, ap, subst, ◌∙◌, append_assoc, arith, Option, Some, None}
use Rattle.std.proofs.lemmas.List.{append-nil}
use Rattle.std.proofs.lemmas.List.Elements.{All-append, All-weaker, Contains-append_left, Contains-push, Contains-push_cases}
use Rattle.lin_events.specs.declared.items.Item.{Item}
use Rattle.lin_events.specs.declared.calls.Call.{Call}
use Rattle.lin_events.specs.declared.calls.Name.{Name}
use Rattle.lin_events.specs.declared.calls.Reply.{Reply}
use Rattle.lin_events.specs.declared.events.Event.{Event}
use Rattle.lin_events.specs.Operations.{IsOpen}
use Rattle.lin_events.specs.WellFormed.{IsWellFormed}
use Rattle.lin_events.specs.WellFormedLaws.{WellFormedIsAlternating}
use Rattle.lin_objects.specs.Observing.{IsObserving}
use Rattle.lin_order.specs.declared.placed.Placed.{Placed}
use Rattle.lin_order.specs.Configurations.{IsAdded}
use Rattle.lin_frontier.specs.declared.pending.Open.{Open}
use Rattle.lin_frontier.specs.Frontiers.{IsPending}
use Rattle.lin_frontier.specs.Nodes.{IsGrown}
use Rattle.lin_frontier.specs.Placing.{IsAbsent, PlacesOne, insert_pair}
use Rattle.lin_frontier.specs.lemmas.Inserting.{insert_added, none_from}
use Rattle.lin_frontier.specs.lemmas.Trying.{take_all, take_next}
use Rattle.lin_configurations.specs.lemmas.Onward.{rounds_stay, spelled_rising, spelled_stays}
use Rattle.lin_configurations.specs.lemmas.Visiting.{grown_grown, not_grown}
use Rattle.lin_lists.specs.lemmas.Filters.{from_map, in_map}
use Rattle.lin_members.specs.declared.members.Path.{Path}
use Rattle.lin_members.specs.Compressed.{IsSpelled}
use Rattle.lin_members.specs.Listed.{config_of, member_at, with_offers, Continues}
use Rattle.lin_members.specs.Members.{Member}
use Rattle.lin_members.specs.RoundLaws.{FewerLaw, TrailPlacesLaw, TrailTakesLaw}
use Rattle.lin_members.specs.Rounds.{SpellsRounds, begin_round, put, begins}
use Rattle.lin_members.specs.lemmas.Aheads.{puts_offered}
use Rattle.lin_members.specs.lemmas.Exchanging.{open_call}
use Rattle.lin_members.specs.lemmas.Joining.{put_many}
use Rattle.lin_possibilities.specs.inner.Telling.{AreAdded, ArePlaced, AreWatching, Has, IsTaken, IsTold}

-- what was there is there still
pub has_more : {S : Type 0} (old added now : List (Member S × Path)) (c : S × List (ℕ × Reply)) → now ≡ old ++ added → Has old c → Has now c
has_more old added now c is has =
    let n = from_map config_of old c has in
    subst (Has now) n.2 (in_map config_of now n.0 (subst (λ l. Contains l n.0) (sym is) (Contains-append_left old added n.0 n.1)))

-- and what was put last
pub has_last : {S : Type 0} (old now : List (Member S × Path)) (n : Member S × Path) → now ≡ old ++ n ∷ [] → Has now (config_of n)
has_last old now n is = in_map config_of now n (subst (λ l. Contains l n) (sym is) (Contains-push old n))

nowhere : {A : Type 0} (x : A) → Contains [] x → ⊥
nowhere x there = let inside = there.1 in omega arith

-- an element of two lists is one of the first or of the second
either : {A : Type 0} (xs ys : List A) (x : A) → Contains (xs ++ ys) x → Contains xs x ⊎ Contains ys x
either [] ys x there = inr there
either (y ∷ xs) ys x there = by there.0 there.1 there.2 (λ rest. either xs ys x rest)
  where
    by : (k : ℕ) → k < length (y ∷ (xs ++ ys)) → get_or (y ∷ (xs ++ ys)) k x ≡ x → (Contains (xs ++ ys) x → Contains xs x ⊎ Contains ys x) → Contains (y ∷ xs) x ⊎ Contains ys x
    by zero inside is rest = inl (0, omega arith, is)
    by (suc k) inside is rest = elim (rest (k, omega arith, is)) [
      | inl first ↦ inl (suc first.0, (let i = first.1 in omega arith), first.2)
      | inr second ↦ inr second
    ]

module _ {S : Type 0} (start : S) (step : S → Call → S → Reply → Type 0) (observes : Call → Bool) (pending : List Open) where
  -- rounds lead to the one member where they lead to the other
  abbrev pub Leads : List (ℕ × (Placed × Option ℕ)) → Member S × Path → List (ℕ × (Placed × Option ℕ)) → Member S × Path → Type 0
  Leads first m nodes n = (functions : Item → Name → Bool) (h : List Event) → IsWellFormed functions h → IsPending h pending → IsSpelled start step observes h first m → IsSpelled start step observes h nodes n

  pub leads_itself : (first nodes : List (ℕ × (Placed × Option ℕ))) (m : Member S × Path) → IsGrown first nodes → Leads first m nodes m
  leads_itself first nodes m grown functions h well opened s = spelled_stays start step observes h first nodes m grown s

  -- with nothing on offer
  pub leads_bare : FewerLaw start step → (nodes : List (ℕ × (Placed × Option ℕ))) (m n : Member S × Path) → n ≡ with_offers [] m → Leads nodes m nodes n
  leads_bare fewer nodes m n is functions h well opened s = subst (IsSpelled start step observes h nodes) (sym is) (record {
    states = s.states;
    rounds = s.rounds;
    spelled = s.spelled;
    last = s.last;
    trail = fewer observes h s.states s.rounds m.0 (with_offers [] m).0 refl refl (λ x there. absurd (nowhere x there)) s.trail;
  })

  -- with an open operation placed
  pub leads_placed : TrailPlacesLaw start step → (first nodes : List (ℕ × (Placed × Option ℕ))) (m n : Member S × Path) (o : Open) (p : Placed) (d : S × List (ℕ × Reply)) → Contains pending o → PlacesOne step o (config_of m) p d
      → IsGrown first nodes → n.0 ≡ member_at d [] → Continues nodes m.1 n.1 p None → Leads first m nodes n
  leads_placed law first nodes m n o p d there one grown is continues functions h well opened s =
      let opens = opened.sound o there in
      subst (λ (k : Member S). IsSpelled start step observes h nodes (k, n.1)) (sym is) (record {
        states = s.states ++ d.0 ∷ [];
        rounds = begin_round p s.rounds;
        spelled = subst (λ id. SpellsRounds nodes id (begin_round p s.rounds)) (sym continues.node.1) (begins continues.node.2 (rounds_stay first nodes m.1.node s.rounds grown s.spelled));
        last = ap suc continues.round ∙ omega (arith, s.last, length-append s.rounds ((p ∷ []) ∷ []));
        trail = law observes functions h well s.states s.rounds m.0 (member_at d []) s.trail p (record {
          process = o.process;
          key = opens.0;
          call = o.call;
          is_open = subst (λ i. IsOpen h i o.process opens.0 o.call) (sym one.at) opens.1;
          steps = one.steps;
          added = subst (IsAdded o.process p.reply m.0.placed) (sym one.placed) (insert_added o.process p.reply m.0.placed (spelled_rising start step observes h first m s) (none_from o.process m.0.placed one.absent));
        }) (λ round x offer. absurd (nowhere (round, x) offer));
      })

  -- with an offer taken
  pub leads_taken : WellFormedIsAlternating → TrailTakesLaw start step → IsObserving step observes → (first nodes : List (ℕ × (Placed × Option ℕ))) (m n : Member S × Path) (o : Open) (x : ℕ × (ℕ × Reply)) (p : Placed) (d : S × List (ℕ × Reply))
      → Contains pending o → Contains m.0.offers x → o.process ≡ x.1.0 → IsAbsent x.1.0 m.0.placed → p ≡ record { at = o.at; reply = x.1.1 } → d ≡ (m.0.state, insert_pair x.1.0 x.1.1 m.0.placed)
      → IsGrown first nodes → n.0 ≡ member_at d [] → Continues nodes m.1 n.1 p (Some x.0) → Leads first m nodes n
  leads_taken alternating law observing first nodes m n o x p d there offer same absent placed at grown is continues functions h well opened s =
      let opens = opened.sound o there in
      let open_x : IsOpen h p.at x.1.0 opens.0 o.call = subst (λ (k : Placed). IsOpen h k.at x.1.0 opens.0 o.call) (sym placed) (subst (λ q. IsOpen h o.at q opens.0 o.call) same opens.1) in
      let by = s.trail.offered x.0 x.1 offer in
      let reply : p.reply ≡ x.1.1 = ap (λ (k : Placed). k.reply) placed in
      let added = insert_added x.1.0 x.1.1 m.0.placed (spelled_rising start step observes h first m s) (none_from x.1.0 m.0.placed absent) in
      let whole : insert_pair x.1.0 x.1.1 m.0.placed ≡ d.1 = sym (ap (λ (k : S × List (ℕ × Reply)). k.1) at) in
      subst (λ (k : Member S). IsSpelled start step observes h nodes (k, n.1)) (sym is) (record {
        states = s.states;
        rounds = put x.0 p s.rounds;
        spelled = subst (λ id. SpellsRounds nodes id (put x.0 p s.rounds)) (sym continues.1.1) (puts_offered start step observes h s.states s.rounds m.0 s.trail x.0 x.1 (inl offer) nodes continues.1.0 m.1.node p continues.1.2 (rounds_stay first nodes m.1.node s.rounds grown s.spelled));
        last = ap suc continues.0 ∙ s.last ∙ sym (put_many x.0 p s.rounds);
        trail = law observes observing functions h well s.states s.rounds m.0 (member_at d []) s.trail p x.1.0 opens.0 o.call open_x
            (ap observes (open_call functions h ((alternating functions h).0 well) p.at by.0 x.1.0 opens.0 by.1.key o.call by.1.call open_x by.1.is_open) ∙ by.1.observer)
            x.0 (inl (subst (λ r. Contains m.0.offers (x.0, (x.1.0, r))) (sym reply) offer)) (sym (ap (λ (k : S × List (ℕ × Reply)). k.0) at))
            (subst (λ r. IsAdded x.1.0 r m.0.placed d.1) (sym reply) (subst (IsAdded x.1.0 x.1.1 m.0.placed) whole added)) (λ y none. absurd (nowhere y none));
      })

  module _ (m : Member S × Path) (first : List (ℕ × (Placed × Option ℕ))) (old : List (Member S × Path)) where
    abbrev pub Added : List (ℕ × (Placed × Option ℕ)) → List (Member S × Path) → Type 0
    Added nodes now = AreAdded start step observes pending m first nodes old now

    pub added_none : (nodes : List (ℕ × (Placed × Option ℕ))) → Added nodes old
    added_none nodes = record { added = []; grown = sym (append-nil old); spelled = λ functions h well opened s n there. absurd (nowhere n there) }

    -- and those that come from one that they lead to
    pub added_through : (k : Member S × Path) (mid nodes : List (ℕ × (Placed × Option ℕ))) (now then' : List (Member S × Path)) → Leads first m mid k → IsGrown mid nodes
        → AreAdded start step observes pending k mid nodes now then' → Added mid now → Added nodes then'
    added_through k mid nodes now then' leads grown b a = record {
      added = a.added ++ b.added;
      grown = b.grown ∙ ap (λ l. l ++ b.added) a.grown ∙ append_assoc old a.added b.added;
      spelled = λ functions h well opened s n there. elim (either a.added b.added n there) [
        | inl before ↦ spelled_stays start step observes h mid nodes n grown (a.spelled functions h well opened s n before)
        | inr new ↦ b.spelled functions h well opened (leads functions h well opened s) n new
      ];
    }

    pub added_both : (mid nodes : List (ℕ × (Placed × Option ℕ))) (now then' : List (Member S × Path)) → IsGrown first mid → IsGrown mid nodes
        → AreAdded start step observes pending m mid nodes now then' → Added mid now → Added nodes then'
    added_both mid nodes now then' before grown b a = added_through m mid nodes now then' (leads_itself first mid m before) grown b a

    -- one member more
    pub added_push : (mid nodes : List (ℕ × (Placed × Option ℕ))) (now then' : List (Member S × Path)) (n : Member S × Path) → IsGrown mid nodes → Leads first m nodes n → then' ≡ now ++ n ∷ [] → Added mid now → Added nodes then'
    added_push mid nodes now then' n grown leads pushed a = record {
      added = a.added ++ n ∷ [];
      grown = pushed ∙ ap (λ l. l ++ n ∷ []) a.grown ∙ append_assoc old a.added (n ∷ []);
      spelled = λ functions h well opened s k there. elim (Contains-push_cases a.added n k there) [
        | inl before ↦ spelled_stays start step observes h mid nodes k grown (a.spelled functions h well opened s k before)
        | inr same ↦ subst (IsSpelled start step observes h nodes) same (leads functions h well opened s)
      ];
    }

  -- of what placing makes of the member, `rest` is still to be put
  pub record IsPlacing (operations : List Open) (m : Member S × Path) (rest : List ((S × List (ℕ × Reply)) × Placed)) (first nodes : List (ℕ × (Placed × Option ℕ))) (old now : List (Member S × Path)) : Type 0 where
    pub nodes_grown : IsGrown first nodes
    pub added : AreAdded start step observes pending m first nodes old now
    pub rest_of : (d : S × List (ℕ × Reply)) (p : Placed) → Contains rest (d, p) → (o : Open) × Contains operations o × PlacesOne step o (config_of m) p d
    pub taken : (o : Open) (p : Placed) (d : S × List (ℕ × Reply)) → Contains operations o → PlacesOne step o (config_of m) p d → Contains rest (d, p) ⊎ Has now d

  module _ (operations : List Open) (m : Member S × Path) (first : List (ℕ × (Placed × Option ℕ))) (old : List (Member S × Path)) where
    pub placing_start : (c : S × List (ℕ × Reply)) (rest : List ((S × List (ℕ × Reply)) × Placed)) → c ≡ config_of m → ((d : S × List (ℕ × Reply)) (p : Placed) → Contains rest (d, p) → (o : Open) × Contains operations o × PlacesOne step o c p d)
        → ((o : Open) (p : Placed) (d : S × List (ℕ × Reply)) → Contains operations o → PlacesOne step o c p d → Contains rest (d, p)) → IsPlacing operations m rest first first old old
    placing_start c rest same sound complete = record {
      nodes_grown = not_grown first;
      added = added_none m first old first;
      rest_of = λ d p there. let s = sound d p there in (s.0, s.1, subst (λ k. PlacesOne step s.0 k p d) same s.2);
      taken = λ o p d there one. inl (complete o p d there (subst (λ k. PlacesOne step o k p d) (sym same) one));
    }

    pub placing_next : TrailPlacesLaw start step → ((o : Open) → Contains operations o → Contains pending o) → (more rest : List ((S × List (ℕ × Reply)) × Placed)) (nodes after : List (ℕ × (Placed × Option ℕ))) (now then' : List (Member S × Path))
        → (x : (S × List (ℕ × Reply)) × Placed) (n : Member S × Path) → more ≡ rest ++ x ∷ [] → IsGrown nodes after → n.0 ≡ member_at x.0 [] → Continues after m.1 n.1 x.1 None → then' ≡ now ++ n ∷ []
        → IsPlacing operations m more first nodes old now → IsPlacing operations m rest first after old then'
    placing_next law among more rest nodes after now then' x n popped grown is continues pushed h = record {
      nodes_grown = far;
      added = added_push m first old nodes after now then' n grown (leads_placed law first after m n this.0 x.1 x.0 (among this.0 this.1) this.2 far is continues) pushed h.added;
      rest_of = λ d p within. h.rest_of d p (subst (λ l. Contains l (d, p)) (sym popped) (Contains-append_left rest (x ∷ []) (d, p) within));
      taken = λ o p d within one. elim (h.taken o p d within one) [
        | inl in_more ↦ elim (Contains-push_cases rest x (d, p) (subst (λ l. Contains l (d, p)) popped in_more)) [
          | inl in_rest ↦ inl in_rest
          | inr same ↦ inr (subst (λ (y : (S × List (ℕ × Reply)) × Placed). Has then' y.0) same (subst (Has then') (ap (λ (k : Member S). (k.state, k.placed)) is) (has_last now then' n pushed)))
        ]
        | inr has ↦ inr (has_more now (n ∷ []) then' d pushed has)
      ];
    }
      where
        far : IsGrown first after
        far = grown_grown first nodes after h.nodes_grown grown

        this : (o : Open) × Contains operations o × PlacesOne step o (config_of m) x.1 x.0
        this = h.rest_of x.0 x.1 (subst (λ l. Contains l x) (sym popped) (Contains-push rest x))

    pub placing_end : (rest : List ((S × List (ℕ × Reply)) × Placed)) (nodes : List (ℕ × (Placed × Option ℕ))) (now : List (Member S × Path)) → length rest ≡ 0 → IsPlacing operations m rest first nodes old now → ArePlaced step operations (config_of m) now
    placing_end rest nodes now none h o p d there one = elim (h.taken o p d there one) [
      | inl in_rest ↦ absurd (let inside = in_rest.1 in omega arith)
      | inr has ↦ has
    ]

  -- the offers before place `at` were taken
  pub record IsTaking (m : Member S × Path) (at : ℕ) (first nodes : List (ℕ × (Placed × Option ℕ))) (old now : List (Member S × Path)) : Type 0 where
    pub nodes_grown : IsGrown first nodes
    pub added : AreAdded start step observes pending m first nodes old now
    pub taken : All (IsTaken pending m now) (take at m.0.offers)

  module _ (m : Member S × Path) (first : List (ℕ × (Placed × Option ℕ))) (old : List (Member S × Path)) where
    pub taking_start : IsTaking m 0 first first old old
    taking_start = record { nodes_grown = not_grown first; added = added_none m first old first; taken = λ i d inside. absurd (omega arith) }

    pub taking_next : (at : ℕ) (x : ℕ × (ℕ × Reply)) (nodes after : List (ℕ × (Placed × Option ℕ))) (now then' : List (Member S × Path)) → at < length m.0.offers → x ≡ get_or m.0.offers at x → IsGrown nodes after
        → AreAdded start step observes pending m nodes after now then' → IsTaken pending m then' x → IsTaking m at first nodes old now → IsTaking m (at + 1) first after old then'
    taking_next at x nodes after now then' inside is grown new one h = record {
      nodes_grown = grown_grown first nodes after h.nodes_grown grown;
      added = added_both m first old nodes after now then' h.nodes_grown grown new h.added;
      taken = subst (All (IsTaken pending m then')) (sym (take_next m.0.offers at x inside is))
          (All-append (IsTaken pending m then') (take at m.0.offers) (x ∷ []) (All-weaker (IsTaken pending m now) (IsTaken pending m then') (λ y t o there same absent. has_more now new.added then' _ new.grown (t o there same absent)) (take at m.0.offers) h.taken) alone);
    }
      where
        alone : All (IsTaken pending m then') (x ∷ [])
        alone zero d within = one
        alone (suc i) d within = absurd (omega arith)

    pub taking_end : (at : ℕ) (nodes : List (ℕ × (Placed × Option ℕ))) (now : List (Member S × Path)) → length m.0.offers ≤ at → IsTaking m at first nodes old now → All (IsTaken pending m now) m.0.offers
    taking_end at nodes now past h = subst (All (IsTaken pending m now)) (take_all at m.0.offers past) h.taken

  -- of the members that were made of this one, `rest` are still to be gone on from
  pub record IsGoingOn (observers : List Open) (m : Member S × Path) (made rest : List (Member S × Path)) (first nodes : List (ℕ × (Placed × Option ℕ))) (old now : List (Member S × Path)) : Type 0 where
    pub nodes_grown : IsGrown first nodes
    pub added : AreAdded start step observes pending m first nodes old now
    pub led : (n : Member S × Path) → Contains rest n → Leads first m nodes n
    pub taken : (c : S × List (ℕ × Reply)) → Has made c → Has rest c ⊎ ArePlaced step observers c now

  module _ (observers : List Open) (m : Member S × Path) (made : List (Member S × Path)) (first : List (ℕ × (Placed × Option ℕ))) (old : List (Member S × Path)) where
    pub going_start : (nodes : List (ℕ × (Placed × Option ℕ))) → IsGrown first nodes → AreAdded start step observes pending m first nodes [] made → IsGoingOn observers m made made first nodes old old
    going_start nodes grown all = record {
      nodes_grown = grown;
      added = added_none m first old nodes;
      led = λ n there functions h well opened s. all.spelled functions h well opened s n (subst (λ l. Contains l n) all.grown there);
      taken = λ c has. inl has;
    }

    pub going_next : (more rest now then' : List (Member S × Path)) (nodes after : List (ℕ × (Placed × Option ℕ))) (n : Member S × Path) → more ≡ rest ++ n ∷ [] → IsGrown nodes after → AreAdded start step observes pending n nodes after now then'
        → ArePlaced step observers (config_of n) then' → IsGoingOn observers m made more first nodes old now → IsGoingOn observers m made rest first after old then'
    going_next more rest now then' nodes after n popped grown new placed h = record {
      nodes_grown = grown_grown first nodes after h.nodes_grown grown;
      added = added_through m first old n nodes after now then' leads grown new h.added;
      led = λ k there functions g well opened s. spelled_stays start step observes g nodes after k grown (h.led k (subst (λ l. Contains l k) (sym popped) (Contains-append_left rest (n ∷ []) k there)) functions g well opened s);
      taken = λ c has. elim (h.taken c has) [
        | inl in_more ↦
            let k = from_map config_of more c in_more in
            elim (Contains-push_cases rest n k.0 (subst (λ l. Contains l k.0) popped k.1)) [
              | inl in_rest ↦ inl (subst (Has rest) k.2 (in_map config_of rest k.0 in_rest))
              | inr same ↦ inr (λ o p d there one. placed o p d there (subst (λ b. PlacesOne step o b p d) (sym (ap config_of same ∙ k.2)) one))
            ]
        | inr done ↦ inr (λ o p d there one. has_more now new.added then' d new.grown (done o p d there one))
      ];
    }
      where
        leads : Leads first m nodes n
        leads = h.led n (subst (λ l. Contains l n) (sym popped) (Contains-push rest n))

    pub going_end : (rest : List (Member S × Path)) (nodes : List (ℕ × (Placed × Option ℕ))) (now : List (Member S × Path)) → length rest ≡ 0 → IsGoingOn observers m made rest first nodes old now → (c : S × List (ℕ × Reply)) → Has made c
        → ArePlaced step observers c now
    going_end rest nodes now none h c has = elim (h.taken c has) [
      | inl in_rest ↦ absurd (let k = from_map config_of rest c in_rest in let inside = k.1.1 in omega arith)
      | inr done ↦ done
    ]

  -- what was told is told still
  pub told_more : (observers : List Open) (m : Member S × Path) (old added now : List (Member S × Path)) → now ≡ old ++ added → IsTold step pending observers m old → IsTold step pending observers m now
  told_more observers m old added now is t = record {
    own = further (config_of m) t.own;
    taken = λ x offer o there same absent. further _ (t.taken x offer o there same absent);
    placed = λ o p d there one. further d (t.placed o p d there one);
    behind = λ o p d there one w q e w_there two. further e (t.behind o p d there one w q e w_there two);
  }
    where
      further : (c : S × List (ℕ × Reply)) → Has old c → Has now c
      further c has = has_more old added now c is has

  -- of the members before place `at` all is told
  pub record IsTelling (observers : List Open) (members : List (Member S × Path)) (at : ℕ) (first nodes : List (ℕ × (Placed × Option ℕ))) (now : List (Member S × Path)) : Type 0 where
    pub nodes_grown : IsGrown first nodes
    pub spelled : (functions : Item → Name → Bool) (h : List Event) → IsWellFormed functions h → IsPending h pending → ((m : Member S × Path) → Contains members m → IsSpelled start step observes h first m)
        → (n : Member S × Path) → Contains now n → IsSpelled start step observes h nodes n
    pub told : (m : Member S × Path) → Contains (take at members) m → IsTold step pending observers m now

  module _ (observers : List Open) (members : List (Member S × Path)) (first : List (ℕ × (Placed × Option ℕ))) where
    pub telling_start : (now : List (Member S × Path)) → now ≡ [] → IsTelling observers members 0 first first now
    telling_start now empty = record {
      nodes_grown = not_grown first;
      spelled = λ functions h well opened each n there. absurd (nowhere n (subst (λ l. Contains l n) empty there));
      told = λ m there. absurd (nowhere m there);
    }

    pub telling_next : (at : ℕ) (m : Member S × Path) (nodes after : List (ℕ × (Placed × Option ℕ))) (now then' : List (Member S × Path)) → at < length members → m ≡ get_or members at m → IsGrown nodes after
        → AreAdded start step observes pending m nodes after now then' → IsTold step pending observers m then' → IsTelling observers members at first nodes now → IsTelling observers members (at + 1) first after then'
    telling_next at m nodes after now then' inside is grown new told h = record {
      nodes_grown = grown_grown first nodes after h.nodes_grown grown;
      spelled = λ functions g well opened each n there. elim (either now new.added n (subst (λ l. Contains l n) new.grown there)) [
        | inl before ↦ spelled_stays start step observes g nodes after n grown (h.spelled functions g well opened each n before)
        | inr late ↦ new.spelled functions g well opened (spelled_stays start step observes g first nodes m h.nodes_grown (each m (at, inside, sym is))) n late
      ];
      told = λ k there. elim (Contains-push_cases (take at members) m k (subst (λ l. Contains l k) (take_next members at m inside is) there)) [
        | inl before ↦ told_more observers k now new.added then' new.grown (h.told k before)
        | inr same ↦ subst (λ n. IsTold step pending observers n then') same told
      ];
    }

-- where the one holds and the other doesn't
not_both : (a b : Bool) → (a && not b) ≡ false → a ≡ true → b ≡ false → ⊥
not_both true false is holds fails = true≢false is
not_both true true is holds fails = true≢false fails
not_both false b is holds fails = true≢false (sym holds)

-- the operations that watch, of those before place `at`
module _ (observes : Call → Bool) (pending : List Open) where
  pub watching_start : (found : List Open) → found ≡ [] → AreWatching observes [] found
  watching_start found empty = record { among = λ o there. subst (λ l. Contains l o) empty there; all = λ o there observer alive. absurd (nowhere o there) }

  module _ (at : ℕ) (o : Open) (inside : at < length pending) (is : o ≡ get_or pending at o) where
    longer : take (at + 1) pending ≡ take at pending ++ o ∷ []
    longer = take_next pending at o inside is

    pub watching_put : (found now : List Open) → now ≡ found ++ o ∷ [] → AreWatching observes (take at pending) found → AreWatching observes (take (at + 1) pending) now
    watching_put found now pushed h = subst (λ l. AreWatching observes l now) (sym longer) (record {
      among = λ x there. elim (Contains-push_cases found o x (subst (λ l. Contains l x) pushed there)) [
        | inl old ↦ Contains-append_left (take at pending) (o ∷ []) x (h.among x old)
        | inr same ↦ subst (Contains (take at pending ++ o ∷ [])) same (Contains-push (take at pending) o)
      ];
      all = λ x there observer alive. subst (λ l. Contains l x) (sym pushed) (elim (Contains-push_cases (take at pending) o x there) [
        | inl old ↦ Contains-append_left found (o ∷ []) x (h.all x old observer alive)
        | inr same ↦ subst (Contains (found ++ o ∷ [])) same (Contains-push found o)
      ]);
    })

    pub watching_skip : (found : List Open) → (observes o.call && not o.crashed) ≡ false → AreWatching observes (take at pending) found → AreWatching observes (take (at + 1) pending) found
    watching_skip found none h = subst (λ l. AreWatching observes l found) (sym longer) (record {
      among = λ x there. Contains-append_left (take at pending) (o ∷ []) x (h.among x there);
      all = λ x there observer alive. elim (Contains-push_cases (take at pending) o x there) [
        | inl old ↦ h.all x old observer alive
        | inr same ↦ absurd (not_both (observes o.call) o.crashed none (ap (λ (y : Open). observes y.call) same ∙ observer) (ap (λ (y : Open). y.crashed) same ∙ alive))
      ];
    })

  pub watching_end : (at : ℕ) (found : List Open) → length pending ≤ at → AreWatching observes (take at pending) found → AreWatching observes pending found
  watching_end at found past h = subst (λ l. AreWatching observes l found) (take_all at pending past) h
