-- Members with nothing on offer, gathered from the choices of members one after the other, and what placing operations makes of them.
use Rattle.std.proofs.Common.{◌≡◌, ℕ, Bool, true, false, List, [], ◌∷◌, map, Contains, All, inl, inr, refl, sym, subst, arith, Option}
use Rattle.std.proofs.lemmas.List.Elements.{All-contains, All-weaker}
use Rattle.lin_events.specs.declared.items.Item.{Item}
use Rattle.lin_events.specs.declared.calls.Call.{Call}
use Rattle.lin_events.specs.declared.calls.Name.{Name}
use Rattle.lin_events.specs.declared.calls.Reply.{Reply}
use Rattle.lin_events.specs.declared.events.Event.{Event}
use Rattle.lin_events.specs.Alternation.{IsAlternating}
use Rattle.lin_events.specs.WellFormed.{IsWellFormed}
use Rattle.lin_events.specs.WellFormedLaws.{EndsAreUnique, WellFormedIsAlternating}
use Rattle.lin_objects.specs.Observing.{IsObserving}
use Rattle.lin_order.specs.declared.placed.Placed.{Placed}
use Rattle.lin_order.specs.Configurations.{IsPlacing, IsRising}
use Rattle.lin_members.specs.declared.members.Path.{Path}
use Rattle.lin_frontier.specs.declared.pending.Open.{Open}
use Rattle.lin_members.specs.Compressed.{IsCovering, IsSpelled}
use Rattle.lin_members.specs.Covers.{HasCrashed}
use Rattle.lin_frontier.specs.Frontiers.{IsPending}
use Rattle.lin_members.specs.Listed.{member_at, config_of, with_offers, AreDifferent, AreWorkedOff, IsExtended, IsHeld, IsListingOf, IsMerged}
use Rattle.lin_members.specs.MemberLaws.{ListingLaw}
use Rattle.lin_members.specs.Members.{Member, IsComplete, IsListed, LeadsToCover}
use Rattle.lin_frontier.specs.Nodes.{IsGrown}
use Rattle.lin_members.specs.RoundLaws.{FewerLaw}
use Rattle.lin_members.specs.lemmas.Awaiting.{open_pending, placing_pending}
use Rattle.lin_configurations.proofs.Choices.{choices_lead}
use Rattle.lin_members.specs.lemmas.Dominating.{complete_within, covers_on, passes_itself}
use Rattle.lin_members.specs.lemmas.Choosing.{all_from}
use Rattle.lin_members.specs.lemmas.Exchanging.{covered_by}
use Rattle.lin_configurations.proofs.Expanding.{extended_bare, extended_keeps}
use Rattle.lin_configurations.specs.lemmas.Visiting.{grown_grown, not_grown}
use Rattle.lin_configurations.proofs.Merging.{alone_bare, alone_spelled}
use Rattle.lin_frontier.specs.lemmas.Inserting.{absent_from, insert_is}
use Rattle.lin_configurations.specs.lemmas.Onward.{spelled_rising, spelled_stays}
use Rattle.lin_lists.specs.lemmas.Filters.{from_map, in_map}
use Rattle.lin_members.specs.lemmas.Pruned.{dominates_to}
use Rattle.lin_members.specs.lemmas.Ways.{covers_from}

module _ {S : Type 0} (start : S) (step : S → Call → S → Reply → Type 0) (observes : Call → Bool) (pending : List Open) where
  spelled_bare : FewerLaw start step → (h : List Event) (nodes : List (ℕ × (Placed × Option ℕ))) (offers : List (ℕ × (ℕ × Reply))) (n : Member S × Path) → IsSpelled start step observes h nodes (with_offers offers n) → IsSpelled start step observes h nodes (with_offers [] n)
  spelled_bare fewer h nodes offers n s = record {
    states = s.states;
    rounds = s.rounds;
    spelled = s.spelled;
    last = s.last;
    trail = fewer observes h s.states s.rounds (with_offers offers n).0 (with_offers [] n).0 refl refl (λ x there. absurd (let inside = there.1 in omega arith)) s.trail;
  }

  -- members of which each choice of each member is held are complete where those are
  pub gathered_complete : EndsAreUnique → (functions : Item → Name → Bool) (h : List Event) → IsAlternating functions h → IsPending h pending → (first : List (ℕ × (Placed × Option ℕ))) (members all : List (Member S × Path))
      → ((m : Member S × Path) → Contains members m → IsSpelled start step observes h first m)
      → ((m : Member S × Path) → Contains members m → (found : List (Member S × Path)) × Contains found (with_offers [] m) × AreWorkedOff step observes pending m.0.offers false found
      × ((n : Member S × Path) → Contains found n → (nodes : List (ℕ × (Placed × Option ℕ))) × IsSpelled start step observes h nodes (with_offers m.0.offers n)) × ((n : Member S × Path) → Contains found n → IsHeld observes pending all (config_of n)))
      → ((n : Member S × Path) → Contains all n → (nodes : List (ℕ × (Placed × Option ℕ))) × IsSpelled start step observes h nodes (with_offers [] n))
      → IsComplete start step observes h (map (λ m. m.0) members) → IsComplete start step observes h (map (λ m. m.0) all)
  gathered_complete unique functions h alternates opened first members all spelled chosen all_spelled complete c config =
      let found = complete c config in
      let d : S × List (ℕ × Reply) = (c.0, found.placed) in
      let m = from_map (λ (k : Member S × Path). k.0) members found.member found.among in
      let s = spelled m.0 m.1 in
      let f = chosen m.0 m.1 in
      let k = choices_lead step observes functions h pending opened unique alternates m.0.0.offers f.0 f.2 (λ n there. let by = f.3 n there in spelled_rising start step observes h by.0 (with_offers m.0.0.offers n) by.1)
      (λ x there. let by = s.trail.offered x.0 x.1 there in let o = open_pending h pending opened by.0 x.1.0 by.1.key by.1.call by.1.is_open in (o.0, o.1, o.3))
      (with_offers [] m.0) f.1 d found.exchanged.rising (subst (λ (n : Member S). LeadsToCover step observes h n d) (sym m.2) found.leads) in
      let held = f.4 k.0 k.1 in
      let n = held.0 in
      let by = all_spelled n held.1 in
      let over = dominates_to functions h pending opened unique alternates observes n.0 k.0.0.state k.0.0.placed [] (spelled_rising start step observes h by.0 (with_offers [] n) by.1) held.2 in
      covered_by step observes h (map (λ m. m.0) members) (map (λ m. m.0) all) c found
      (n.0, in_map (λ (k : Member S × Path). k.0) all n held.1, covers_on step observes h h (passes_itself observes h) (member_at (config_of k.0) []) n.0 over d found.exchanged.rising k.2)

  -- members with nothing on offer that are closed under placing cover all configurations themselves, where those among them are complete
  pub closed_listing : ListingLaw start step → IsObserving step observes → EndsAreUnique → WellFormedIsAlternating → (functions : Item → Name → Bool) (h : List Event) → IsWellFormed functions h → IsPending h pending
      → (nodes : List (ℕ × (Placed × Option ℕ))) (all out : List (Member S × Path)) → ((n : Member S × Path) → Contains all n → Contains out n) → AreWorkedOff step observes pending [] true out
      → All (λ n. n.0.offers ≡ []) out → ((n : Member S × Path) → Contains out n → IsSpelled start step observes h nodes n)
      → IsComplete start step observes h (map (λ m. m.0) all) → IsListingOf start step observes h out nodes
  closed_listing law observing unique alternating functions h well_formed opened nodes all out kept worked bare spelled complete = record {
    listing = law observes observing functions h well_formed (map (λ m. m.0) out)
        (λ m there. let k = from_map (λ (k : Member S × Path). k.0) out m there in subst (λ (n : Member S). IsRising n.placed) k.2 (spelled_rising start step observes h nodes k.0 (spelled k.0 k.1)))
        (λ m x there offer.
        let k = from_map (λ (k : Member S × Path). k.0) out m there in
        let none = subst (λ (n : Member S). n.offers ≡ []) k.2 (All-contains (λ (n : Member S × Path). n.0.offers ≡ []) out k.0 bare k.1) in
        let within = subst (λ l. Contains l (offer.0, x)) none offer.1 in
        let inside = within.1 in
        omega arith)
        (λ m p d there placing.
        let k = from_map (λ (k : Member S × Path). k.0) out m there in
        closed k.0 k.1 p d (subst (λ (n : Member S). IsPlacing step h (n.state, n.placed) p d) (sym k.2) placing))
        (complete_within start step observes h (map (λ m. m.0) all) (map (λ m. m.0) out)
        (λ m there. let k = from_map (λ (k : Member S × Path). k.0) all m there in subst (Contains (map (λ m. m.0) out)) k.2 (in_map (λ (k : Member S × Path). k.0) out k.0 (kept k.0 k.1))) complete);
    spelled = spelled;
  }
    where
      closed : (m : Member S × Path) → Contains out m → (p : Placed) (d : S × List (ℕ × Reply)) → IsPlacing step h (config_of m) p d → IsListed h (map (λ m. m.0) out) d
      closed m there p d placing =
          let o = placing_pending h pending opened step (config_of m) d p placing in
          let held = (worked m there).1 refl o.0 p d o.1 (record {
            absent = absent_from o.0.process m.0.placed o.4.absent;
            at = sym o.2;
            steps = o.3;
            placed = insert_is o.0.process p.reply m.0.placed d.1 o.4;
          }) in
          let n = held.0 in
          let e = dominates_to functions h pending opened unique ((alternating functions h).0 well_formed) observes n.0 d.0 d.1 [] (spelled_rising start step observes h nodes n (spelled n held.1)) held.2 in
          (n.0, in_map (λ (k : Member S × Path). k.0) out n held.1, covers_from (HasCrashed h) (config_of n) d e.same e.part e.rest)

  -- the choices of the member are held
  abbrev pub AreChosen : List (ℕ × (Placed × Option ℕ)) → List (Member S × Path) → Member S × Path → Type 0
  AreChosen first all m = (found : List (Member S × Path)) × Contains found (with_offers [] m) × AreWorkedOff step observes pending m.0.offers false found
      × ((functions : Item → Name → Bool) (h : List Event) → IsWellFormed functions h → IsPending h pending → IsSpelled start step observes h first m
      → (n : Member S × Path) → Contains found n → (nodes : List (ℕ × (Placed × Option ℕ))) × IsSpelled start step observes h nodes (with_offers m.0.offers n))
      × ((n : Member S × Path) → Contains found n → IsHeld observes pending all (config_of n))

  -- those of the first members are
  pub record IsGathering (first nodes : List (ℕ × (Placed × Option ℕ))) (members firsts all : List (Member S × Path)) : Type 0 where
    pub nodes_grown : IsGrown first nodes
    pub bare : All (λ m. m.0.offers ≡ []) all
    pub different : AreDifferent all
    pub spelled : (functions : Item → Name → Bool) (h : List Event) → IsWellFormed functions h → IsPending h pending → ((m : Member S × Path) → Contains members m → IsSpelled start step observes h first m)
        → All (λ n. IsSpelled start step observes h nodes (with_offers [] n)) all
    pub chosen : All (AreChosen first all) firsts

  pub gathering_start : (first : List (ℕ × (Placed × Option ℕ))) (members firsts all : List (Member S × Path)) → firsts ≡ [] → all ≡ [] → IsGathering first first members firsts all
  gathering_start first members firsts all none empty = subst (λ (l : List (Member S × Path)). IsGathering first first members l all) (sym none) (subst (IsGathering first first members []) (sym empty) (record {
    nodes_grown = not_grown first;
    bare = λ i d inside. absurd (omega arith);
    different = λ i j d below inside. absurd (omega arith);
    spelled = λ functions h well_formed opened each i d inside. absurd (omega arith);
    chosen = λ i d inside. absurd (omega arith);
  }))

  module _ (first mid after : List (ℕ × (Placed × Option ℕ))) (members firsts all then' found : List (Member S × Path)) (m : Member S × Path) (m_there : Contains members m)
      (e : IsExtended start step observes pending m.0.offers mid after (with_offers [] m ∷ []) found) (w : AreWorkedOff step observes pending m.0.offers false found) (g : IsMerged observes pending found all then')
      (h : IsGathering first mid members firsts all) where
    ways : (functions : Item → Name → Bool) (h' : List Event) → IsWellFormed functions h' → IsPending h' pending → IsSpelled start step observes h' first m → All (λ n. IsSpelled start step observes h' after (with_offers m.0.offers n)) found
    ways functions h' well_formed opened s = e.spelled functions h' well_formed opened (alone_spelled start step observes h' mid m (with_offers [] m ∷ []) refl (spelled_stays start step observes h' first mid m h.nodes_grown s))

    still : (k : Member S × Path) → AreChosen first all k → AreChosen first then' k
    still k a = (a.0, a.1, a.2, a.3, λ n there. let held = a.4 n there in (held.0, g.kept held.0 held.1, held.2))

    this : AreChosen first then' m
    this = (
      found,
      extended_keeps start step observes pending m.0.offers mid after (with_offers [] m ∷ []) found e (with_offers [] m) (0, omega arith, refl),
      w,
      λ functions h' well_formed opened s n there. (after, All-contains (λ (n : Member S × Path). IsSpelled start step observes h' after (with_offers m.0.offers n)) found n (ways functions h' well_formed opened s) there),
      g.held,
    )

    pub chosen_next : All (AreChosen first then') firsts × AreChosen first then' m
    chosen_next = (All-weaker (AreChosen first all) (AreChosen first then') still firsts h.chosen, this)

    pub gathering_next : FewerLaw start step → (firsts' : List (Member S × Path)) → All (AreChosen first then') firsts' → IsGathering first after members firsts' then'
    gathering_next fewer firsts' chosen = record {
      nodes_grown = grown_grown first mid after h.nodes_grown e.nodes_grown;
      bare = all_from (λ (n : Member S × Path). n.0.offers ≡ []) then' (λ n there. elim (g.from n there) [
        | inl old ↦ All-contains (λ (n : Member S × Path). n.0.offers ≡ []) all n h.bare old
        | inr new ↦ All-contains (λ (n : Member S × Path). n.0.offers ≡ []) found n (extended_bare start step observes pending m.0.offers mid after (with_offers [] m ∷ []) found e (alone_bare m)) new
      ]);
      different = g.different h.different;
      spelled = λ functions h' well_formed opened each. all_from (λ (n : Member S × Path). IsSpelled start step observes h' after (with_offers [] n)) then' (λ n there. elim (g.from n there) [
        | inl old ↦ spelled_stays start step observes h' mid after (with_offers [] n) e.nodes_grown
            (All-contains (λ (n : Member S × Path). IsSpelled start step observes h' mid (with_offers [] n)) all n (h.spelled functions h' well_formed opened each) old)
        | inr new ↦ spelled_bare fewer h' after m.0.offers n
            (All-contains (λ (n : Member S × Path). IsSpelled start step observes h' after (with_offers m.0.offers n)) found n (ways functions h' well_formed opened (each m m_there)) new)
      ]);
      chosen = chosen;
    }

  -- all that was gathered, closed under placing
  pub gathered_listing : ListingLaw start step → IsObserving step observes → EndsAreUnique → WellFormedIsAlternating → (first nodes after : List (ℕ × (Placed × Option ℕ))) (members all out : List (Member S × Path))
      → IsGathering first nodes members members all → IsExtended start step observes pending [] nodes after all out → AreWorkedOff step observes pending [] true out → (functions : Item → Name → Bool) (h : List Event)
      → IsWellFormed functions h → IsPending h pending → IsCovering start step observes false h members first → IsListingOf start step observes h out after
  gathered_listing law observing unique alternating first nodes after members all out g e w functions h well_formed opened covering =
      let s = g.spelled functions h well_formed opened covering.spelled in
      let bare = extended_bare start step observes pending [] nodes after all out e g.bare in
      let last = e.spelled functions h well_formed opened s in
      closed_listing law observing unique alternating functions h well_formed opened after all out (λ n there. extended_keeps start step observes pending [] nodes after all out e n there) w bare
      (λ n there. subst (λ (o : List (ℕ × (ℕ × Reply))). IsSpelled start step observes h after (member_at (config_of n) o, n.1)) (sym (All-contains (λ (k : Member S × Path). k.0.offers ≡ []) out n bare there))
      (All-contains (λ (k : Member S × Path). IsSpelled start step observes h after (with_offers [] k)) out n last there))
      (gathered_complete unique functions h ((alternating functions h).0 well_formed) opened first members all covering.spelled
      (λ m there. let a = All-contains (AreChosen first all) members m g.chosen there in (a.0, a.1, a.2, a.3 functions h well_formed opened (covering.spelled m there), a.4))
      (λ n there. (nodes, All-contains (λ (k : Member S × Path). IsSpelled start step observes h nodes (with_offers [] k)) all n s there)) covering.complete)
