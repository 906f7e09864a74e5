-- One more event, and pruning: members that lead to all configurations, each with its rounds.
use Rattle.std.proofs.Common.{◌≡◌, ◌≢◌, ℕ, Bool, true, false, true≢false, List, [], ◌∷◌, ◌++◌, length, ◌<◌, Contains, map, get_or, take, inl, inr, refl, sym, ap, subst, ◌∙◌, arith, Option}
use Rattle.std.proofs.lemmas.List.{append-nil}
use Rattle.std.proofs.lemmas.List.Elements.{All-contains}
use Rattle.std.proofs.lemmas.Option.{slice_get_within}
use Rattle.lin_events.specs.declared.items.Item.{Item}
use Rattle.lin_events.specs.declared.calls.Call.{Call}
use Rattle.lin_events.specs.declared.calls.Name.{Name}
use Rattle.lin_events.specs.declared.calls.Reply.{Reply}
use Rattle.lin_events.specs.declared.events.Body.{Body}
use Rattle.lin_events.specs.declared.events.Body.TheVariants.{Invoke, Ok, Fail, Info}
use Rattle.lin_events.specs.declared.events.Event.{Event}
use Rattle.lin_events.specs.Alternation.{IsAlternating}
use Rattle.lin_events.specs.WellFormed.{IsWellFormed, Completes}
use Rattle.lin_events.specs.WellFormedLaws.{EndsAreUnique, WellFormedIsAlternating}
use Rattle.lin_events.specs.lemmas.OneMore.{alternates_before, completes}
use Rattle.lin_order.specs.declared.placed.Placed.{Placed}
use Rattle.lin_order.specs.ConfigurationLaws.{with_event, LegalOrdersEnd}
use Rattle.lin_order.specs.Linearizable.{IsLinearizableBy}
use Rattle.lin_order.specs.Configurations.{IsConfiguration, IsRising}
use Rattle.lin_members.specs.declared.members.Path.{Path}
use Rattle.lin_frontier.specs.declared.pending.Open.{Open}
use Rattle.lin_members.specs.Compressed.{IsSpelled, IsCovering, IsCompressed, CompressedSpellLegalOrders}
use Rattle.lin_frontier.specs.Frontiers.{IsPending, IsNextEvent}
use Rattle.lin_members.specs.MemberLaws.{first_member, IsDominatedAt, StartCompleteLaw, DroppingLaw, ThinningLaw, InvocationKeepsLaw, InfoKeepsLaw, FailKeepsLaw, ObserverSearchLaw, UpdateSearchLaw}
use Rattle.lin_members.specs.Members.{Member, IsOnOffer, Dominates}
use Rattle.lin_frontier.specs.Nodes.{IsGrown}
use Rattle.lin_members.specs.Overwritten.{AllowsOverwritten, IsAbove, IsCompleteFor}
use Rattle.lin_members.specs.OverwrittenLaws.{AboveLaw, AheadLaw, AllowsBeginsLaw, AllowsOnLaw, AllowsPutLaw, CompleteAloneLaw, FailWithLaw, InfoWithLaw, InvocationWithLaw, NoneOverwrittenLaw, ObserverWithLaw, UpdateWithLaw}
use Rattle.lin_frontier.specs.Placing.{IsAbsent}
use Rattle.lin_members.specs.RoundLaws.{ExactLaw, TrailStartLaw, FewerLaw, TrailPlacesLaw, TrailInvocationLaw, TrailInfoLaw, TrailFailLaw, TrailOkLaw, TrailObserverLaw, TrailReturnLaw}
use Rattle.lin_members.specs.Rounds.{IsTrailOf, root}
use Rattle.lin_members.specs.Searching.{CompletesOpen, IsAboveIn, IsNextOf, IsPruned, IsReached, IsReturnOf}
use Rattle.lin_members.specs.Settling.{AreFewer, IsThinned}
use Rattle.lin_compressed_frontier.proofs.Alone.{allows_none}
use Rattle.lin_compressed_frontier.proofs.Answering.{returned_complete}
use Rattle.lin_members.specs.lemmas.Awaiting.{open_pending}
use Rattle.lin_frontier.specs.lemmas.Closing.{cut_back}
use Rattle.lin_members.specs.lemmas.InRounds.{one_rounds}
use Rattle.lin_frontier.specs.lemmas.Inserting.{first_or_rest}
use Rattle.lin_configurations.specs.lemmas.Onward.{invoked, informed, failed, rounds_stay, spelled_rising, spelled_stays}
use Rattle.lin_lists.specs.lemmas.Filters.{from_map, in_map}
use Rattle.lin_members.specs.lemmas.Putting.{trail_ends}
use Rattle.lin_members.specs.lemmas.Pruned.{dominates_to, dominates_from, watching_to}
use Rattle.lin_members.specs.lemmas.Crashes.{passes_fail}
use Rattle.lin_compressed_frontier.proofs.Settled.{alike_dominates}
use Rattle.lin_compressed_frontier.proofs.Returned.{returned_spelled, free_reached}
use Rattle.lin_objects.specs.Observing.{IsObserving}

-- what holds of members and of rounds
pub record Laws {S : Type 0} (start : S) (step : S → Call → S → Reply → Type 0) : Type 0 where
  pub alternating : WellFormedIsAlternating
  pub unique : EndsAreUnique
  pub dropping : DroppingLaw start step
  pub invocation : InvocationKeepsLaw start step
  pub info : InfoKeepsLaw start step
  pub fail : FailKeepsLaw start step
  pub observer : ObserverSearchLaw start step
  pub update : UpdateSearchLaw start step
  pub fewer : FewerLaw start step
  pub places : TrailPlacesLaw start step
  pub trail_invocation : TrailInvocationLaw start step
  pub trail_info : TrailInfoLaw start step
  pub trail_fail : TrailFailLaw start step
  pub trail_ok : TrailOkLaw start step
  pub trail_observer : TrailObserverLaw start step
  pub trail_return : TrailReturnLaw start step
  pub above : AboveLaw start step
  pub none : NoneOverwrittenLaw start step
  pub alone : CompleteAloneLaw start step
  pub invocation_with : InvocationWithLaw start step
  pub info_with : InfoWithLaw start step
  pub fail_with : FailWithLaw start step
  pub update_with : UpdateWithLaw start step
  pub observer_with : ObserverWithLaw start step
  pub goes_ahead : AheadLaw start step
  pub allows_on : AllowsOnLaw S
  pub allows_put : AllowsPutLaw S
  pub allows_begins : AllowsBeginsLaw S

module _ {S : Type 0} (start : S) (step : S → Call → S → Reply → Type 0) (observes : Call → Bool) (laws : Laws start step) (functions : Item → Name → Bool) (h : List Event) (before : List Open) (at : ℕ) (event : Event)
    (next : IsNextEvent functions h before at event) (pending : List Open) (opened : IsPending (with_event h event) pending) where
  alternates : IsAlternating functions (with_event h event)
  alternates = (laws.alternating functions (with_event h event)).0 next.well_formed

  earlier : IsAlternating functions h
  earlier = alternates_before h event functions alternates

  earlier_well_formed : IsWellFormed functions h
  earlier_well_formed = (laws.alternating functions h).1 earlier

  -- an ok completes an operation that was open
  pub completes_open : CompletesOpen event before
  completes_open name reply body none =
      let e = completes h event functions alternates name (subst (λ b. Completes b name) (sym body) refl) in
      let o = open_pending h before next.opened e.0 event.process e.1 e.2 e.3 in
      All-contains (λ (p : Open). p.process ≢ event.process) before o.0 none o.1 o.3

  -- what an event makes that is no ok
  pub next_covering_with : (overwriting : Bool) → IsObserving step observes → ((name : Name) (reply : Reply) → event.body ≡ Ok name reply → ⊥) → (nodes : List (ℕ × (Placed × Option ℕ))) (members out : List (Member S × Path))
      → IsNextOf step observes event.process event.body before pending nodes members out → IsCovering start step observes overwriting h members nodes → IsCovering start step observes overwriting (with_event h event) out nodes
  next_covering_with overwriting observing no_ok nodes members out made c = by event.body refl made
    where
      by : (b : Body) → event.body ≡ b → IsNextOf step observes event.process b before pending nodes members out → IsCovering start step observes overwriting (with_event h event) out nodes
      by (Invoke call) body m =
          invoked start step observes overwriting functions h event next.well_formed laws.unique alternates pending opened nodes members out call body observing laws.invocation laws.invocation_with laws.dropping laws.above laws.trail_invocation
          laws.fewer laws.allows_on m c
      by (Info name) body m =
          informed start step observes overwriting functions h event next.well_formed laws.unique alternates pending opened nodes members out name body laws.info laws.info_with laws.trail_info laws.fewer laws.allows_on m c
      by (Fail name) body m =
          failed start step observes overwriting functions h event next.well_formed laws.unique alternates pending opened nodes members out name body
          (λ w. let k = watching_to functions (with_event h event) pending opened laws.unique alternates observes event.process w in
          (passes_fail h event functions alternates observes name body).shut k.at event.process k.key k.call refl k.is_open)
          laws.fail laws.fail_with laws.trail_fail laws.fewer laws.allows_on m c
      by (Ok name reply) body m = absurd (no_ok name reply body)

  -- where updates are not overwritten, of any event
  pub next_covering : IsObserving step observes → (nodes : List (ℕ × (Placed × Option ℕ))) (members out : List (Member S × Path)) → IsNextOf step observes event.process event.body before pending nodes members out
      → IsCovering start step observes false h members nodes → IsCovering start step observes false (with_event h event) out nodes
  next_covering observing nodes members out made c = by event.body refl made
    where
      rising : (m : Member S × Path) → Contains members m → IsRising m.0.placed
      rising m there = spelled_rising start step observes h nodes m (c.spelled m there)

      returned : (name : Name) (reply : Reply) → event.body ≡ Ok name reply → (o : Open) → Contains before o → o.process ≡ event.process → IsReturnOf step observes o reply pending nodes members out
          → IsCovering start step observes false (with_event h event) out nodes
      returned name reply body o there of r = record {
        complete = returned_complete observes functions h event name reply body laws.unique alternates pending opened step before next.opened earlier o there of start next.well_formed laws.observer laws.update nodes members out r rising
            reached_rising found_rising c.complete;
        spelled = returned_spelled observes functions h event name reply body laws.unique alternates pending opened start step nodes before next.opened next.well_formed o there of earlier_well_formed observing laws.places
            laws.trail_observer laws.trail_return laws.trail_ok members out r c.spelled;
        overwritten = λ is. absurd (true≢false (sym is));
      }
        where
          begun : (m : Member S × Path) → Contains r.starts m → IsSpelled start step observes h nodes m × IsAbsent event.process m.0.placed
          begun m within =
              let s = r.begun.sound m within in
              subst (λ k. IsSpelled start step observes h nodes k × IsAbsent event.process k.0.placed) (sym s.3) (c.spelled s.0 s.1, subst (λ q. IsAbsent q s.0.0.placed) of s.2)

          reached_rising : (m : Member S × Path) → IsReached step observes pending nodes r.starts m → IsRising m.0.placed
          reached_rising m way =
              spelled_rising start step observes h nodes m
              (free_reached observes functions h event name reply body laws.unique alternates pending opened start step nodes earlier_well_formed laws.places r.starts begun m way).0

          found_rising : (n : Member S × Path) → Contains r.found n → IsRising n.0.placed
          found_rising n within =
              let s = r.searched.sound n within in
              let rising_there = reached_rising s.0 s.1 in
              elim s.2 [
                | inl a ↦ subst IsRising (sym (ap (λ (k : Member S). k.placed) a.same)) rising_there
                | inr u ↦ subst IsRising (sym u.placed) rising_there
              ]

      by : (b : Body) → event.body ≡ b → IsNextOf step observes event.process b before pending nodes members out → IsCovering start step observes false (with_event h event) out nodes
      by (Ok name reply) body m = returned name reply body m.0 m.1 m.2 m.3
      by (Invoke call) body m = next_covering_with false observing (λ name reply is. cc) nodes members out made c
      by (Info name) body m = next_covering_with false observing (λ name reply is. cc) nodes members out made c
      by (Fail name) body m = next_covering_with false observing (λ name reply is. cc) nodes members out made c

module _ {S : Type 0} (start : S) (step : S → Call → S → Reply → Type 0) (observes : Call → Bool) (alternating : WellFormedIsAlternating) (unique : EndsAreUnique) (dropping : DroppingLaw start step) (above : AboveLaw start step)
    (functions : Item → Name → Bool) (h : List Event) (well_formed : IsWellFormed functions h) (pending : List Open) (opened : IsPending h pending) where
  -- without those that others are above
  pub pruned_compressed : (overwriting : Bool) (nodes : List (ℕ × (Placed × Option ℕ))) (members kept : List (Member S × Path)) → IsPruned observes pending members kept → IsCovering start step observes overwriting h members nodes
      → IsCompressed start step observes overwriting h kept nodes
  pruned_compressed overwriting nodes members kept p c = record {
    covering = record {
      complete = by overwriting c.complete;
      spelled = λ m there. c.spelled m (p.from m there);
      overwritten = λ is m there. c.overwritten is m (p.from m there);
    };
    apart = λ i j d below inside.
        let a = p.apart i j d below inside in (
          λ is. a.0 (above_from (get_or kept i d) (get_or kept j d) is),
          λ is. a.1 (above_from (get_or kept j d) (get_or kept i d) is),
        );
  }
    where
      above_from : (m n : Member S × Path) → IsAbove observes h m n → IsAboveIn observes pending m n
      above_from m n is = (dominates_from functions h pending opened unique ((alternating functions h).0 well_formed) observes m.0 n.0 is.0, is.1)

      covered : (m : Member S × Path) → Contains members m → (n : Member S × Path) × Contains kept n × IsAbove observes h n m
      covered m there =
          let k = p.covered m there in (
            k.0,
            k.1,
            (
              dominates_to functions h pending opened unique ((alternating functions h).0 well_formed) observes k.0.0 m.0.state m.0.placed m.0.offers
                  (spelled_rising start step observes h nodes k.0 (c.spelled k.0 (p.from k.0 k.1))) k.2.0,
              k.2.1,
            ),
          )

      by : (overwriting : Bool) → IsCompleteFor start step observes overwriting h members → IsCompleteFor start step observes overwriting h kept
      by false complete = dropping observes h (map (λ m. m.0) members) (map (λ m. m.0) kept) (λ n there.
          let m = from_map (λ (x : Member S × Path). x.0) members n there in
          let k = covered m.0 m.1 in
          (k.0.0, in_map (λ (x : Member S × Path). x.0) kept k.0 k.1, subst (Dominates observes h k.0.0) m.2 k.2.0)) complete
      by true complete = above observes h members kept covered complete

  -- and without those that others dominate once crashed operations that have the same call are exchanged
  pub thinned_compressed : ThinningLaw start step → (nodes : List (ℕ × (Placed × Option ℕ))) (members out : List (Member S × Path)) → IsThinned observes pending members out
      → IsCovering start step observes false h members nodes → IsCompressed start step observes false h out nodes
  thinned_compressed thinning nodes members out thinned c = elim thinned [
    | inl pruned ↦ pruned_compressed false nodes members out pruned c
    | inr two ↦
        let first = two.0 in
        let fewer = two.1 in
        let one = (pruned_compressed false nodes members first two.2 c).covering in
        pruned_compressed false nodes fewer out two.4 (record {
          complete = thinning observes functions h well_formed (map (λ m. m.0) first) (map (λ m. m.0) fewer) (alike first fewer two.3 one.spelled) one.complete;
          spelled = λ m there. one.spelled m (two.3.from m there);
          overwritten = λ is m there. one.overwritten is m (two.3.from m there);
        })
  ]
    where
      alike : (first fewer : List (Member S × Path)) → AreFewer observes pending first fewer → ((m : Member S × Path) → Contains first m → IsSpelled start step observes h nodes m)
          → (m : Member S) → Contains (map (λ k. k.0) first) m → IsDominatedAt observes h (map (λ k. k.0) fewer) m.state m.placed (IsOnOffer m)
      alike first fewer f spelled m there =
          let k = from_map (λ (x : Member S × Path). x.0) first m there in
          let n = f.covered k.0 k.1 in
          subst (λ (x : Member S). IsDominatedAt observes h (map (λ y. y.0) fewer) x.state x.placed (IsOnOffer x)) k.2
          (alike_dominates functions h pending opened unique ((alternating functions h).0 well_formed) observes n.0.0 k.0.0 (spelled_rising start step observes h nodes n.0 (spelled n.0 (f.from n.0 n.1)))
          (spelled_rising start step observes h nodes k.0 (spelled k.0 k.1)) n.2 (map (λ y. y.0) fewer) (in_map (λ (x : Member S × Path). x.0) fewer n.0 n.1))

-- nodes are only added
pub covering_stays : {S : Type 0} (start : S) (step : S → Call → S → Reply → Type 0) (observes : Call → Bool) (overwriting : Bool) (h : List Event) (nodes now : List (ℕ × (Placed × Option ℕ))) (members : List (Member S × Path)) → IsGrown nodes now
    → IsCovering start step observes overwriting h members nodes → IsCovering start step observes overwriting h members now
covering_stays start step observes overwriting h nodes now members grown c = record {
  complete = c.complete;
  spelled = λ m there. spelled_stays start step observes h nodes now m grown (c.spelled m there);
  overwritten = λ is m there rounds spelled.
      let s = c.spelled m there in
      subst (AllowsOverwritten observes h m) (one_rounds now m.1.node s.rounds rounds (rounds_stay nodes now m.1.node s.rounds grown s.spelled) spelled) (c.overwritten is m there s.rounds s.spelled);
}

pub compressed_stays : {S : Type 0} (start : S) (step : S → Call → S → Reply → Type 0) (observes : Call → Bool) (overwriting : Bool) (h : List Event) (nodes now : List (ℕ × (Placed × Option ℕ))) (members : List (Member S × Path)) → IsGrown nodes now
    → IsCompressed start step observes overwriting h members nodes → IsCompressed start step observes overwriting h members now
compressed_stays start step observes overwriting h nodes now members grown c = record { covering = covering_stays start step observes overwriting h nodes now members grown c.covering; apart = c.apart }

-- where no member is left, no legal order exists
pub none_left : {S : Type 0} (start : S) (step : S → Call → S → Reply → Type 0) (observes : Call → Bool) (overwriting : Bool) (functions : Item → Name → Bool) (h : List Event) (nodes : List (ℕ × (Placed × Option ℕ)))
    (members : List (Member S × Path)) → ExactLaw start step → LegalOrdersEnd start step → IsWellFormed functions h → length members ≡ 0 → IsCompressed start step observes overwriting h members nodes → IsLinearizableBy start step h → ⊥
none_left {S} start step observes overwriting functions h nodes members exact ends well_formed none c legal =
    let configuration = ends functions h legal.0 well_formed legal.1 in
    let some = by overwriting c.covering.complete (configuration.0, (legal.0, configuration.1)) in
    let inside = some.1.1 in
    omega arith
  where
    spelled : (m : Member S) → Contains (map (λ k. k.0) members) m → (states : List S) × (rounds : List (List Placed)) × IsTrailOf start step observes h states rounds m
    spelled m there =
        let k = from_map (λ (x : Member S × Path). x.0) members m there in
        let s = c.covering.spelled k.0 k.1 in
        subst (λ (n : Member S). (states : List S) × (rounds : List (List Placed)) × IsTrailOf start step observes h states rounds n) k.2 (s.states, s.rounds, s.trail)

    by : (overwriting : Bool) → IsCompleteFor start step observes overwriting h members → (d : S × List (ℕ × Reply)) × IsConfiguration start step h d → (m : Member S × Path) × Contains members m
    by false complete some =
        let n = (exact observes h (map (λ m. m.0) members) complete spelled).0 some in
        let m = from_map (λ (x : Member S × Path). x.0) members n.0 n.1 in
        (m.0, m.1)
    by true complete some = let found = complete some.0 some.1 in (found.member, found.among)

-- nodes of which those that were added were cut off again
pub cut_same : {A : Type 0} (nodes now cut : List A) (n : ℕ) → cut ≡ take n now → n ≡ length nodes → IsGrown nodes now → cut ≡ nodes
cut_same nodes now cut n is many grown = is ∙ ap (λ k. take k now) many ∙ cut_back nodes now grown

pub cut_grown : {A : Type 0} (nodes now cut : List A) (n : ℕ) → cut ≡ take n now → n ≡ length nodes → IsGrown nodes now → IsGrown nodes cut
cut_grown nodes now cut n is many grown = ([], cut_same nodes now cut n is many grown ∙ sym (append-nil nodes))

-- the start, with the path that all others go on from
abbrev pub start_of : {S : Type 0} → S → Member S × Path
start_of start = (first_member start, record { node = 0; round = 0; until = 0 })

-- the start alone
pub first_compressed : {S : Type 0} (start : S) (step : S → Call → S → Reply → Type 0) (observes : Call → Bool) (overwriting : Bool) (nodes : List (ℕ × (Placed × Option ℕ))) (members none : List (Member S × Path)) (m : Member S × Path) (state : S)
    → members ≡ none ++ m ∷ [] → none ≡ [] → m ≡ start_of state → state ≡ start → StartCompleteLaw start step → CompleteAloneLaw start step → TrailStartLaw start step
    → IsCompressed start step observes overwriting [] members nodes
first_compressed {S} start step observes overwriting nodes members none m state pushed empty is same complete alone trail =
    subst (λ l. IsCompressed start step observes overwriting [] l nodes) (sym (pushed ∙ ap (λ l. l ++ m ∷ []) empty ∙ ap (λ k. k ∷ []) (is ∙ ap start_of same))) (record {
      covering = record {
        complete = by overwriting;
        spelled = spelled;
        overwritten = λ on k there rounds spells. elim (first_or_rest (start_of start) [] k there) [
          | inl first ↦ allows_none observes [] k rounds (ap (λ (n : Member S × Path). n.1.until) (sym first))
          | inr rest ↦ absurd (let inside = rest.1 in omega arith)
        ];
      };
      apart = λ i j d below inside. absurd (omega arith);
    })
  where
    by : (overwriting : Bool) → IsCompleteFor start step observes overwriting [] (start_of start ∷ [])
    by false = complete observes
    by true = alone observes [] (start_of start ∷ []) (complete observes)

    spelled : (k : Member S × Path) → Contains (start_of start ∷ []) k → IsSpelled start step observes [] nodes k
    spelled k there = elim (first_or_rest (start_of start) [] k there) [
      | inl first ↦ subst (IsSpelled start step observes [] nodes) first (record { states = start ∷ []; rounds = [] ∷ []; spelled = root; last = refl; trail = trail observes })
      | inr rest ↦ absurd (let inside = rest.1 in omega arith)
    ]

-- the rounds of a member are a legal order
pub compressed_legal : {S : Type 0} (start : S) (step : S → Call → S → Reply → Type 0) (observes : Call → Bool) (overwriting : Bool) → CompressedSpellLegalOrders start step observes overwriting
compressed_legal start step observes overwriting h members nodes c m there =
    let s = c.covering.spelled m there in
    let e = trail_ends start step observes h s.states s.rounds (m.0.state, m.0.placed) s.trail.trail in
    (s.rounds, s.spelled, record { order_of = e.order_of; legal = (m.0.state, e.runs) })

-- an event that completes an operation isn't the first
pub ok_not_first : WellFormedIsAlternating → (functions : Item → Name → Bool) (h : List Event) (before : List Open) (at : ℕ) (event : Event) (name : Name) (reply : Reply) → event.body ≡ Ok name reply
    → IsNextEvent functions h before at event → 0 < at
ok_not_first alternating functions h before at event name reply body next =
    let e = completes h event functions ((alternating functions (with_event h event)).0 next.well_formed) name (subst (λ b. Completes b name) (sym body) refl) in
    let inside = slice_get_within h e.0 (record { process = event.process; key = e.1; body = Invoke e.2 }) e.3.begins in
    omega (arith, next.place, inside)

-- what comes before a well-formed event is well-formed
pub well_formed_before : WellFormedIsAlternating → (functions : Item → Name → Bool) (h : List Event) (event : Event) → IsWellFormed functions (with_event h event) → IsWellFormed functions h
well_formed_before alternating functions h event next = (alternating functions h).1 (alternates_before h event functions ((alternating functions (with_event h event)).0 next))
