-- After an ok, by members that a search visits: the laws.
use Rattle.std.proofs.Common.{◌≡◌, ◌≢◌, ℕ, Bool, true, List, [], Contains, ◌⊎◌, inl, inr, refl, sym, ap, subst, ◌∙◌, arith, true≢false}
use Rattle.lin_events.specs.declared.items.Item.{Item}
use Rattle.lin_events.specs.declared.calls.Name.{Name}
use Rattle.lin_events.specs.declared.calls.Call.{Call}
use Rattle.lin_events.specs.declared.calls.Reply.{Reply}
use Rattle.lin_events.specs.declared.events.Body.{Body}
use Rattle.lin_events.specs.declared.events.Body.TheVariants.{Invoke, Ok, Fail, Info}
use Rattle.lin_events.specs.declared.events.Event.{Event}
use Rattle.lin_events.specs.Alternation.{IsAlternating}
use Rattle.lin_events.specs.Operations.{IsOpen}
use Rattle.lin_events.specs.WellFormed.{Completes}
use Rattle.lin_events.specs.WellFormedLaws.{EndsAreUnique, WellFormedIsAlternating}
use Rattle.lin_events.specs.lemmas.OneMore.{alternates_before}
use Rattle.lin_order.specs.Configurations.{IsAdded, IsRising}
use Rattle.lin_order.specs.ConfigurationLaws.{with_event, AtStart, OkLaw}
use Rattle.lin_members.specs.Covers.{HasCrashed}
use Rattle.lin_members.specs.Members.{Member, IsOnOffer, IsWatching, IsGiven, IsOffered, IsUpdate, WayOf, here, more, LeadsToCover, DominatesAt, Dominates}
use Rattle.lin_members.specs.Exchanges.{Exchange, IsExchanged}
use Rattle.lin_members.specs.MemberLaws.{first_member, IsAheadOfAll, IsDominatedAt, IsSearched, StartCompleteLaw, SuccessorLaw, SkippedLaw, ObserverSearchLaw, OffersGoLaw, UpdateSearchLaw}
use Rattle.lin_members.specs.lemmas.Choosing.{can_add}
use Rattle.lin_members.specs.lemmas.Leading.{leads_to_itself}
use Rattle.lin_members.specs.lemmas.Ways.{covers_from, way_kept, way_start}
use Rattle.lin_members.proofs.TakenFirst.{dominates_leads, taken_first}
use Rattle.lin_members.specs.lemmas.Crashes.{crashes_now, never_crashed, ok_no_info, passes_fail, passes_ok}
use Rattle.lin_members.specs.lemmas.Exchanging.{both, exchange_all, exchanged_both, exchanged_itself, exchanged_update, fixed, fixed_from, no_exchange, only_itself}
use Rattle.lin_members.specs.lemmas.Returning.{ok_observer, ok_update}
use Rattle.lin_members.proofs.Searching.{after_update, backs_itself, backs_ok, held_stops, not_watching, own_part, own_rest, own_update, own_wider, through, watching}
use Rattle.lin_members.specs.lemmas.Taking.{IsStopped}

pub start_complete_law : {S : Type 0} (start : S) (step : S → Call → S → Reply → Type 0) → AtStart start step → StartCompleteLaw start step
start_complete_law {S} start step law observes c config = record {
  exchange = no_exchange [];
  placed = c.1;
  exchanged = exchanged_itself [] c.1 config.1.placed.rising;
  member = first_member start;
  among = (0, omega arith, refl);
  leads = subst (LeadsToCover step observes [] (first_member start)) (sym (law.1 c config)) (
    (start, []),
    record {
      placed = [];
      way = here;
      before = λ i j d below within. absurd (omega arith);
      rising = λ i j d below within. absurd (omega arith);
      part = λ x there. there;
      each = λ x there. inl there;
    },
    covers_from (HasCrashed []) (start, []) (start, []) refl (λ x there. there) (λ x there. inl there),
  );
}

module _ {S : Type 0} (start : S) (step : S → Call → S → Reply → Type 0) (observes : Call → Bool) (unique : EndsAreUnique) (functions : Item → Name → Bool) (h : List Event) (event : Event)
    (name : Name) (reply : Reply) (body : event.body ≡ Ok name reply) (alternates : IsAlternating functions (with_event h event)) (members visited others : List (Member S))
    (starts : (m : Member S) → Contains members m → ((other : Reply) → Contains m.placed (event.process, other) → ⊥) → (n : Member S) × Contains visited n × Dominates observes h n m) where
  -- what stands at the point of a way, but for what is on offer to the process
  abbrev Others : (m : Member S) (c : S × List (ℕ × Reply)) (way : WayOf step observes h m c) → ℕ × Reply → Type 0
  Others m c way x = (x.0 ≢ event.process) × IsOffered step observes h (IsOnOffer m) (m.state, m.placed) c way x

  -- a visited member dominates the point
  abbrev Visits : (m : Member S) (c : S × List (ℕ × Reply)) (way : WayOf step observes h m c) → Type 0
  Visits m c way = IsDominatedAt observes h visited c.0 c.1 (Others m c way)

  pub earlier : IsAlternating functions h
  earlier = alternates_before h event functions alternates

  pub stays : (e : Exchange h) → e.to event.process ≡ event.process
  stays e = fixed e event.process (λ c. never_crashed h event functions alternates unique name (subst (λ b. Completes b name) (sym body) refl) (λ other. ok_no_info body other) c)

  -- the first point
  first_visit : (m : Member S) → IsRising m.placed → (n : Member S) → Contains visited n → Dominates observes h n m → Visits m (m.state, m.placed) here
  first_visit m rising n there d = record {
    exchange = no_exchange h;
    others = m.placed;
    exchanged = exchanged_itself h m.placed rising;
    member = n;
    among = there;
    dominates = record { sorted = d.sorted; same = d.same; part = d.part; rest = d.rest; offered = λ x watches none is. d.offered x watches none is.1 };
  }

  -- and the next one, where what is visited is searched
  module _ (m : Member S) (c d : S × List (ℕ × Reply)) (way : WayOf step observes h m d) (u : IsUpdate step observes h d c) (visit : Visits m d way) where
    abbrev offers_then : ℕ × Reply → Type 0
    offers_then x = IsOffered step observes h (IsOnOffer m) (m.state, m.placed) d way x

    -- the update, exchanged
    pub u' : (more_of : List (ℕ × Reply)) × IsExchanged visit.exchange c.1 more_of × (v : IsUpdate step observes h (d.0, visit.others) (c.0, more_of)) × (v.1.process ≡ visit.exchange.to u.1.process) × (v.0.reply ≡ u.0.reply)
    u' = exchanged_update visit.exchange functions earlier step observes d c visit.others visit.exchanged u

    pub own_end : List (ℕ × Reply)
    own_end = (own_wider step observes h event.process visit.member (d.0, visit.others) (c.0, u'.0) offers_then visit.dominates u'.2).0

    pub own : IsUpdate step observes h (visit.member.state, visit.member.placed) (c.0, own_end)
    unfolding own_end
    own = own_update step observes h event.process visit.member (d.0, visit.others) (c.0, u'.0) offers_then visit.dominates u'.2

    next_visit : IsDominatedAt observes h visited c.0 own_end (λ x. (x.0 ≢ event.process) × (IsOnOffer visit.member x ⊎ IsGiven step h visit.member.state x)) → Visits m c (more way u)
    unfolding own_end
    next_visit next =
        let whole = exchange_all next.exchange u'.0 u'.1.rising in
        record {
          exchange = both functions earlier visit.exchange next.exchange;
          others = whole.0;
          exchanged = exchanged_both functions earlier visit.exchange next.exchange c.1 u'.0 whole.0 u'.1 whole.1;
          member = next.member;
          among = next.among;
          dominates = after_update step observes h event.process visit.member (d.0, visit.others) (c.0, u'.0) offers_then visit.dominates u'.2 next.exchange next.others whole.0
              next.exchanged whole.1 next.member next.dominates;
        }

  module _ (observer : (at : ℕ) (key : Item) (call : Call) → IsOpen h at event.process key call → observes call ≡ true)
      (each : (m : Member S) → Contains visited m → ((n : Member S) × Contains others n × Dominates observes (with_event h event) n m)
      ⊎ ((IsOnOffer m (event.process, reply) → ⊥) × (IsGiven step h m.state (event.process, reply) → ⊥) × IsSearched step observes h event.process visited m)) where
    hold : (m : Member S) (c : S × List (ℕ × Reply)) (way : WayOf step observes h m c) (visit : Visits m c way)
        → (k : Member S) × Contains others k × Dominates observes (with_event h event) k visit.member → IsStopped step observes h (with_event h event) others m c way
    hold m c way visit held = held_stops step observes h (with_event h event) others m c way (
      visit.exchange,
      visit.others,
      held.0,
      visit.exchanged,
      held.1,
      through step observes h (with_event h event) (backs_ok step observes functions h event name reply body alternates) visit.member held.0 c.0 visit.others
          (Others m c way) (IsOnOffer visit.member) (IsOffered step observes h (IsOnOffer m) (m.state, m.placed) c way) visit.dominates held.2
          (λ x watches is. ((not_watching step observes functions h event name reply body alternates x.0 watches, is), λ offer. offer)),
    )

    -- the state of a visited member gives what the state of the point gives
    given_too : (s : S) (n : Member S) → n.state ≡ s → IsGiven step h s (event.process, reply) → IsGiven step h n.state (event.process, reply)
    given_too s n same given =
        record { at = given.at; key = given.key; call = given.call; next = given.next; is_open = given.is_open; steps = subst (λ t. step t given.call given.next reply) (sym same) given.steps }

    along : (m : Member S) → Contains members m → ((other : Reply) → Contains m.placed (event.process, other) → ⊥) → (c : S × List (ℕ × Reply)) (way : WayOf step observes h m c) → IsRising c.1
        → IsStopped step observes h (with_event h event) others m c way
        ⊎ ((visit : Visits m c way) × (IsOffered step observes h (IsOnOffer m) (m.state, m.placed) c way (event.process, reply) → IsOnOffer visit.member (event.process, reply)))
    unfolding first_visit own u'
    along m there absent c here rising =
        let first = starts m there absent in
        inr (
          first_visit m rising first.0 first.1 first.2,
          λ is. first.2.offered (event.process, reply) (watching step observes functions h event name reply body alternates unique observer) (λ other inside. absent other (first.2.part (event.process, other) inside)) is,
        )
    along m there absent c (more {c = d} way u) rising = elim (along m there absent d way u.1.added.before) [
      | inl stopped ↦ inl (inl stopped)
      | inr seen ↦ elim (each seen.0.member seen.0.among) [
        | inl held ↦ inl (inl (hold m d way seen.0 held))
        | inr searched ↦
            let visit = seen.0 in
            let v = (u' m c d way u visit).2 in
            let next = searched.2 (c.0, own_end m c d way u visit) (own m c d way u visit)
            (λ same. true≢false (sym (observer v.0.at v.1.key v.1.call (subst (λ q. IsOpen h v.0.at q v.1.key v.1.call) same v.1.is_open)) ∙ v.2)) in
            inr (
              next_visit m c d way u visit next,
              λ is. absurd (elim is [
                | inl before ↦ searched.0 (seen.1 before)
                | inr given ↦ searched.1 (given_too d.0 visit.member visit.dominates.same given)
              ]),
            )
      ]
    ]

    pub stops : (m : Member S) → Contains members m → ((other : Reply) → Contains m.placed (event.process, other) → ⊥) → (c : S × List (ℕ × Reply)) (way : WayOf step observes h m c) → IsRising c.1
        → IsOffered step observes h (IsOnOffer m) (m.state, m.placed) c way (event.process, reply) ⊎ IsGiven step h c.0 (event.process, reply)
        → IsStopped step observes h (with_event h event) others m c way
    stops m there absent c way rising ready = elim (along m there absent c way rising) [
      | inl stopped ↦ stopped
      | inr seen ↦ elim (each seen.0.member seen.0.among) [
        | inl held ↦ hold m c way seen.0 held
        | inr searched ↦ absurd (elim ready [
          | inl offered ↦ searched.0 (seen.1 offered)
          | inr given ↦ searched.1 (given_too c.0 seen.0.member seen.0.dominates.same given)
        ])
      ]
    ]

  -- the operation goes ahead of all others at the member
  abbrev Ahead : Member S → Type 0
  Ahead m = IsAheadOfAll step observes h (with_event h event) event.process reply m.state

  module _ (searched : (m : Member S) → Contains visited m → IsSearched step observes h event.process visited m ⊎ Ahead m) where
    -- what holds the visited member's placing holds the point's placing
    pub emit : (y : Member S) (c d : S × List (ℕ × Reply)) (offers : ℕ × Reply → Type 0) → DominatesAt observes h y c.0 c.1 (λ x. (x.0 ≢ event.process) × offers x) → (n : Member S)
        → DominatesAt observes (with_event h event) n d.0 y.placed (λ x. IsOnOffer y x ⊎ IsGiven step h y.state x)
        → DominatesAt observes (with_event h event) n d.0 c.1 (λ x. offers x ⊎ IsGiven step h c.0 x)
    emit y c d offers first n second =
        let backs = backs_ok step observes functions h event name reply body alternates in
        record {
          sorted = second.sorted;
          same = second.same;
          part = λ x there. first.part x (second.part x there);
          rest = λ x there. elim (first.rest x there) [
            | inl kept ↦ second.rest x kept
            | inr crashed ↦ inr (backs.crashes x.0 crashed)
          ];
          offered = λ x watches absent there. second.offered x watches absent (elim there [
            | inl earlier ↦ inl (first.offered x (backs.watches x.0 watches)
                (λ other is. elim (second.rest (x.0, other) is) [ inl kept ↦ absent other kept | inr crashed ↦ watches.alive crashed ])
                (not_watching step observes functions h event name reply body alternates x.0 watches, earlier))
            | inr given ↦ inr (record { at = given.at; key = given.key; call = given.call; next = given.next; is_open = given.is_open; steps = subst (λ s. step s given.call given.next x.1) (sym first.same) given.steps })
          ]);
        }

    -- from a visited member at which the operation goes ahead a way comes to the point, with no more placed but what crashed
    pub record IsLeft (c : S × List (ℕ × Reply)) : Type 0 where
      pub exchange : Exchange h
      pub moved : List (ℕ × Reply)
      pub exchanged : IsExchanged exchange c.1 moved
      pub member : Member S
      pub among : Contains visited member
      pub ahead : Ahead member
      pub placed : List (ℕ × Reply)
      pub way : WayOf step observes h member (c.0, placed)
      pub dominates : DominatesAt observes h (record { state = c.0; placed = placed; offers = [] }) c.0 moved (λ x. (x.0 ≢ event.process) × ⊥)

    -- the beginning of such a way
    left_there : (m : Member S) (c : S × List (ℕ × Reply)) (way : WayOf step observes h m c) (visit : Visits m c way) → Ahead visit.member → IsLeft c
    left_there m c way visit ahead = record {
      exchange = visit.exchange;
      moved = visit.others;
      exchanged = visit.exchanged;
      member = visit.member;
      among = visit.among;
      ahead = ahead;
      placed = visit.member.placed;
      way = subst (λ s. WayOf step observes h visit.member (s, visit.member.placed)) visit.dominates.same here;
      dominates = record { sorted = visit.dominates.sorted; same = refl; part = visit.dominates.part; rest = visit.dominates.rest; offered = λ x watches absent is. absurd is.1 };
    }

    -- one more update
    module _ (d c : S × List (ℕ × Reply)) (u : IsUpdate step observes h d c) (left : IsLeft d) where
      stop : Member S
      stop = record { state = d.0; placed = left.placed; offers = [] }

      left_u : (more_of : List (ℕ × Reply)) × IsExchanged left.exchange c.1 more_of × (v : IsUpdate step observes h (d.0, left.moved) (c.0, more_of)) × (v.1.process ≡ left.exchange.to u.1.process) × (v.0.reply ≡ u.0.reply)
      left_u = exchanged_update left.exchange functions earlier step observes d c left.moved left.exchanged u

      left_wider : (placed : List (ℕ × Reply)) × IsAdded left_u.2.1.process left_u.2.0.reply left.placed placed
      unfolding stop
      left_wider = own_wider step observes h event.process stop (d.0, left.moved) (c.0, left_u.0) (λ x. ⊥) left.dominates left_u.2

      left_own : IsUpdate step observes h (d.0, left.placed) (c.0, left_wider.0)
      unfolding stop left_wider
      left_own = own_update step observes h event.process stop (d.0, left.moved) (c.0, left_u.0) (λ x. ⊥) left.dominates left_u.2

      left_more : IsLeft c
      unfolding stop left_wider
      left_more = record {
        exchange = left.exchange;
        moved = left_u.0;
        exchanged = left_u.1;
        member = left.member;
        among = left.among;
        ahead = left.ahead;
        placed = left_wider.0;
        way = more left.way left_own;
        dominates = record {
          sorted = left_wider.1.rising;
          same = refl;
          part = own_part step observes h event.process stop (d.0, left.moved) (c.0, left_u.0) (λ x. ⊥) left.dominates left_u.2;
          rest = own_rest step observes h event.process stop (d.0, left.moved) (c.0, left_u.0) (λ x. ⊥) left.dominates left_u.2;
          offered = λ x watches absent is. absurd is.1;
        };
      }

    pub reaches : (m : Member S) → Contains members m → ((other : Reply) → Contains m.placed (event.process, other) → ⊥) → (c : S × List (ℕ × Reply)) (way : WayOf step observes h m c) → IsRising c.1
        → ((other : Reply) → Contains c.1 (event.process, other) → ⊥) → Visits m c way ⊎ IsLeft c
    unfolding own u'
    reaches m there absent c here rising never = let first = starts m there absent in inl (first_visit m rising first.0 first.1 first.2)
    reaches m there absent c (more {c = d} way u) rising never = elim (reaches m there absent d way u.1.added.before (λ other is. never other (u.1.added.kept (event.process, other) is))) [
      | inl visit ↦ elim (searched visit.member visit.among) [
        | inl all ↦ inl (next_visit m c d way u visit (all (c.0, own_end m c d way u visit) (own m c d way u visit)
            (λ same. never u.0.reply
            (subst (λ q. Contains c.1 (q, u.0.reply)) (only_itself visit.exchange event.process (stays visit.exchange) u.1.process (sym (u' m c d way u visit).3 ∙ same)) u.1.added.has))))
        | inr ahead ↦ inr (left_more d c u (left_there m d way visit ahead))
      ]
      | inr left ↦ inr (left_more d c u left)
    ]

module _ {S : Type 0} (start : S) (step : S → Call → S → Reply → Type 0) (unique : EndsAreUnique) (alternating : WellFormedIsAlternating) (law : OkLaw start step) where
  pub observer_search_law : ObserverSearchLaw start step
  observer_search_law observes functions h event name reply body well_formed observer members visited others taken starts each complete =
      let alternates = (alternating functions (with_event h event)).0 well_formed in
      ok_observer start step observes unique functions h event name reply body alternates (law functions h event name reply body well_formed) members others taken complete observer
      (λ m there absent c way rising ready. stops start step observes unique functions h event name reply body alternates members visited others starts observer each m there absent c way rising ready.1)

  pub update_search_law : UpdateSearchLaw start step
  unfolding own u'
  update_search_law observes functions h event name reply body well_formed update members visited others taken starts searched emitted complete =
      let alternates = (alternating functions (with_event h event)).0 well_formed in
      ok_update start step observes unique functions h event name reply body alternates (law functions h event name reply body well_formed) members others taken complete update
      (λ m there c d way u same_process same_reply.
      let none : (other : Reply) → Contains c.1 (event.process, other) → ⊥ = λ other is. u.1.added.absent other (subst (λ q. Contains c.1 (q, other)) (sym same_process) is) in
      elim (reaches start step observes unique functions h event name reply body alternates members visited others starts searched m there
      (λ other is. none other (way_kept step observes h (m.state, m.placed) c way (event.process, other) is)) c way u.1.added.before none) [
        | inl visit ↦
            let v = u' start step observes unique functions h event name reply body alternates members visited others starts m d c way u visit in
            let held = emitted visit.member visit.among (d.0, own_end start step observes unique functions h event name reply body alternates members visited others starts m d c way u visit)
            (own start step observes unique functions h event name reply body alternates members visited others starts m d c way u visit)
            (v.3 ∙ ap visit.exchange.to same_process ∙ stays start step observes unique functions h event name reply body alternates members visited others starts visit.exchange) (v.4 ∙ same_reply) in (
              visit.exchange,
              visit.others,
              held.0,
              visit.exchanged,
              (held.0, held.1, leads_to_itself step observes (with_event h event) held.0 held.2.sorted),
              emit start step observes unique functions h event name reply body alternates members visited others starts searched visit.member (c.0, visit.others) d
                  (IsOffered step observes h (IsOnOffer m) (m.state, m.placed) c way) visit.dominates held.0 held.2,
            )
        | inr left ↦
            let passes = passes_ok h event functions alternates observes name reply body in
            let is_open = subst (λ q. IsOpen h u.0.at q u.1.key u.1.call) same_process u.1.is_open in
            let absent : (other : Reply) → Contains left.placed (event.process, other) → ⊥ =
            (λ other is. none other (subst (λ q. Contains c.1 (q, other))
            (fixed_from left.exchange event.process (λ c. never_crashed h event functions alternates unique name (subst (λ b. Completes b name) (sym body) refl) (λ other. ok_no_info body other) c))
            (left.exchanged.rest (event.process, other) (left.dominates.part (event.process, other) is)))) in
            let begun = way_start step observes h (left.member.state, left.member.placed) (c.0, left.placed) left.way left.dominates.sorted in
            let t = taken_first step observes h (with_event h event) event.process reply u.1.call passes.opens (left.member.state, left.member.placed) (c.0, left.placed) begun
            (left.ahead.1 u.0.at u.1.key u.1.call is_open) left.way d.0 (subst (step c.0 u.1.call d.0) same_reply u.1.steps) absent in
            let wider = can_add event.process reply left.member.placed begun
            (λ other is. absent other (way_kept step observes h (left.member.state, left.member.placed) (c.0, left.placed) left.way (event.process, other) is)) in
            let n = emitted left.member left.among (t.first, wider.0) (
              record { at = u.0.at; reply = reply },
              record { process = event.process; key = u.1.key; call = u.1.call; is_open = is_open; steps = t.steps; added = wider.1 },
              u.2,
            ) refl refl in (
              left.exchange,
              left.moved,
              record { state = d.0; placed = t.placed; offers = [] },
              left.exchanged,
              (
                n.0,
                n.1,
                dominates_leads step observes (with_event h event) n.0 t.first left.member.placed (λ x. IsOnOffer left.member x ⊎ IsGiven step h left.member.state x) n.2 (d.0, t.placed) t.way,
              ),
              record {
                sorted = t.rising;
                same = refl;
                part = λ x is. left.dominates.part x (t.part x is);
                rest = λ x is. elim (left.dominates.rest x is) [
                  | inl kept ↦ inl (t.rest x kept)
                  | inr crashed ↦ inr (passes.crashes x.0 crashed)
                ];
                offered = λ x watches free is. absurd (true≢false (sym watches.observer ∙ left.ahead.0 watches.at x.0 watches.key watches.call watches.is_open));
              },
            )
      ])

pub successor_law : {S : Type 0} (step : S → Call → S → Reply → Type 0) → SuccessorLaw step
successor_law step observes h process m n d u same added kept = record {
  sorted = added.rising;
  same = same;
  part = λ x there. elim (added.was x there) [
    | inl old ↦ u.1.added.kept x old
    | inr new ↦ subst (Contains d.1) new u.1.added.has
  ];
  rest = λ x there. elim (u.1.added.was x there) [
    | inl old ↦ inl (added.kept x old)
    | inr new ↦ inl (subst (Contains n.placed) new added.has)
  ];
  offered = λ x watches absent there. kept x there.0 watches absent there.1;
}

pub skipped_law : {S : Type 0} (step : S → Call → S → Reply → Type 0) → SkippedLaw step
skipped_law step observes h process k m n d first second =
    through step observes h h (backs_itself observes h) n k d.0 d.1 (λ x. (x.0 ≢ process) × (IsOnOffer m x ⊎ IsGiven step h m.state x)) (λ x. (x.0 ≢ process) × IsOnOffer n x)
    (λ x. (x.0 ≢ process) × (IsOnOffer m x ⊎ IsGiven step h m.state x)) first second (λ x watches is. (is, λ offer. (is.0, offer)))

-- after a completion no operation of its process watches
none_watches : (observes : Call → Bool) (functions : Item → Name → Bool) (h : List Event) (event : Event) (name : Name) → IsAlternating functions (with_event h event) → Completes event.body name
    → IsWatching observes (with_event h event) event.process → ⊥
none_watches observes functions h event name alternates is w = by event.body refl is
  where
    by : (body : Body) → event.body ≡ body → Completes body name → ⊥
    by (Invoke call) e never = never
    by (Ok named reply) e done = (passes_ok h event functions alternates observes named reply e).shut w.at event.process w.key w.call refl w.is_open
    by (Fail named) e done = (passes_fail h event functions alternates observes named e).shut w.at event.process w.key w.call refl w.is_open
    by (Info named) e done = w.alive (crashes_now h event functions alternates named e)

pub offers_go_law : (S : Type 0) → WellFormedIsAlternating → OffersGoLaw S
offers_go_law S alternating observes functions h event name is well_formed m n dominates = record {
  sorted = dominates.sorted;
  same = dominates.same;
  part = dominates.part;
  rest = dominates.rest;
  offered = λ x watches absent there. dominates.offered x watches absent (
    λ same. none_watches observes functions h event name ((alternating functions (with_event h event)).0 well_formed) is (subst (IsWatching observes (with_event h event)) same watches),
    there,
  );
}
