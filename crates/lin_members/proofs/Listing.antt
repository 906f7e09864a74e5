-- Members that have nothing on offer and are closed under placing: they cover each configuration themselves.
use Rattle.std.proofs.Common.{◌≡◌, ℕ, ◌<◌, Bool, true, List, [], ◌∷◌, Contains, ◌⊎◌, inl, inr, refl, sym, ap, subst, ◌∙◌, arith, true≢false}
use Rattle.std.proofs.lemmas.List.Elements.{Contains-append_right}
use Rattle.lin_events.specs.declared.items.Item.{Item}
use Rattle.lin_events.specs.declared.calls.Call.{Call}
use Rattle.lin_events.specs.declared.calls.Name.{Name}
use Rattle.lin_events.specs.declared.calls.Reply.{Reply}
use Rattle.lin_events.specs.declared.events.Event.{Event}
use Rattle.lin_events.specs.Alternation.{IsAlternating}
use Rattle.lin_events.specs.WellFormed.{Completes}
use Rattle.lin_events.specs.WellFormedLaws.{EndsAreUnique, WellFormedIsAlternating}
use Rattle.lin_objects.specs.Observing.{IsObserving}
use Rattle.lin_order.specs.declared.placed.Placed.{Placed}
use Rattle.lin_order.specs.ConfigurationLaws.{with_event, OkLaw}
use Rattle.lin_order.specs.Configurations.{IsAdded, IsPlacing, IsRising}
use Rattle.lin_members.specs.Covers.{Covers, HasCrashed}
use Rattle.lin_members.specs.Members.{Member, IsOnOffer, IsWatching, IsGiven, here, more, IsReady, WayOf, Leads, IsListed}
use Rattle.lin_members.specs.MemberLaws.{ListedLaw, ListingLaw, ListingOkLaw}
use Rattle.lin_frontier.specs.Placing.{without}
use Rattle.lin_members.specs.lemmas.Crashes.{crash_kept, never_crashed, ok_no_info, passes_ok}
use Rattle.lin_members.specs.lemmas.Exchanging.{exchange_on, exchanged_on, exchanged_without, fixed, open_call}
use Rattle.lin_members.specs.lemmas.Choosing.{Chosen, can_add, choose, nothing_in, stands}
use Rattle.lin_frontier.specs.lemmas.Inserting.{first_or_rest, rising_once, taken_out}
use Rattle.lin_members.specs.lemmas.Ways.{covers_from, covers_rest, covers_within}

-- what covers a cover covers
through : {S : Type 0} (h : List Event) (b c d : S × List (ℕ × Reply)) → Covers (HasCrashed h) b c → Covers (HasCrashed h) c d → Covers (HasCrashed h) b d
through h b c d first second = covers_from (HasCrashed h) b d (first.state ∙ second.state)
    (λ x there. covers_within (HasCrashed h) c d second x (covers_within (HasCrashed h) b c first x there))
    (λ x there. elim (covers_rest (HasCrashed h) c d second x there) [
      | inl kept ↦ covers_rest (HasCrashed h) b c first x kept
      | inr crashed ↦ inr crashed
    ])

module _ {S : Type 0} (step : S → Call → S → Reply → Type 0) (observes : Call → Bool) (observing : IsObserving step observes) (functions : Item → Name → Bool) (h : List Event) (alternates : IsAlternating functions h)
    (members : List (Member S)) (sorted : (m : Member S) → Contains members m → IsRising m.placed) (none_offered : (m : Member S) (x : ℕ × Reply) → Contains members m → IsOnOffer m x → ⊥)
    (closed : (m : Member S) (p : Placed) (d : S × List (ℕ × Reply)) → Contains members m → IsPlacing step h (m.state, m.placed) p d → IsListed h members d) where
  -- placing stays among what is covered
  listed_place : (c d : S × List (ℕ × Reply)) (p : Placed) → IsListed h members c → IsPlacing step h c p d → IsListed h members d
  listed_place c d p is placing =
      let m = is.0 in
      let own : S × List (ℕ × Reply) = (m.state, m.placed) in
      let wider = can_add placing.process p.reply m.placed (sorted m is.1) (λ other there. placing.added.absent other (covers_within (HasCrashed h) own c is.2 (placing.process, other) there)) in
      let next = closed m p (d.0, wider.0) is.1 (record {
        process = placing.process;
        key = placing.key;
        call = placing.call;
        is_open = placing.is_open;
        steps = subst (λ s. step s placing.call d.0 p.reply) (sym is.2.state) placing.steps;
        added = wider.1;
      }) in
      let now : S × List (ℕ × Reply) = (next.0.state, next.0.placed) in (
        next.0,
        next.1,
        covers_from (HasCrashed h) now d next.2.state
            (λ x there. elim (wider.1.was x (covers_within (HasCrashed h) now (d.0, wider.0) next.2 x there)) [
              | inl old ↦ placing.added.kept x (covers_within (HasCrashed h) own c is.2 x old)
              | inr new ↦ subst (Contains d.1) new placing.added.has
            ])
            (λ x there. elim (placing.added.was x there) [
              | inl old ↦ elim (covers_rest (HasCrashed h) own c is.2 x old) [
                | inl kept ↦ covers_rest (HasCrashed h) now (d.0, wider.0) next.2 x (wider.1.kept x kept)
                | inr crashed ↦ inr crashed
              ]
              | inr new ↦ covers_rest (HasCrashed h) now (d.0, wider.0) next.2 x (subst (Contains wider.0) new wider.1.has)
            ]),
      )

  listed_same : (s : S) (w q : List (ℕ × Reply)) → ((x : ℕ × Reply) → Contains w x → Contains q x) → ((x : ℕ × Reply) → Contains q x → Contains w x) → IsListed h members (s, w) → IsListed h members (s, q)
  listed_same s w q to_q to_w is = (is.0, is.1, through h (is.0.state, is.0.placed) (s, w) (s, q) is.2 (covers_from (HasCrashed h) (s, w) (s, q) refl to_q (λ x there. inl (to_w x there))))

  -- some of what the state gives to observers has been placed
  record Filled (s : S) (w q xs : List (ℕ × Reply)) : Type 0 where
    wider : List (ℕ × Reply)
    listed : IsListed h members (s, wider)
    rising : IsRising wider
    kept : (x : ℕ × Reply) → Contains w x → Contains wider x
    part : (x : ℕ × Reply) → Contains wider x → Contains q x
    has : (x : ℕ × Reply) → Contains xs x → Contains wider x

  fill : (s : S) (w q : List (ℕ × Reply)) → IsListed h members (s, w) → IsRising w → IsRising q → ((x : ℕ × Reply) → Contains w x → Contains q x)
      → (xs : List (ℕ × Reply)) → ((x : ℕ × Reply) → Contains xs x → Contains q x) → ((x : ℕ × Reply) → Contains xs x → Contains w x ⊎ (IsWatching observes h x.0 × IsGiven step h s x)) → Filled s w q xs
  fill s w q is w_rising rising part [] within each = record { wider = w; listed = is; rising = w_rising; kept = λ x there. there; part = part; has = λ x there. absurd (nothing_in x there) }
  fill s w q is w_rising rising part (x ∷ xs) within each =
      by (fill s w q is w_rising rising part xs (λ y there. within y (Contains-append_right (x ∷ []) xs y there)) (λ y there. each y (Contains-append_right (x ∷ []) xs y there)))
    where
      first : Contains (x ∷ xs) x
      first = (0, omega arith, refl)

      by : Filled s w q xs → Filled s w q (x ∷ xs)
      by f = elim (stands x.0 f.wider) [
        | inl some ↦ record {
          wider = f.wider;
          listed = f.listed;
          rising = f.rising;
          kept = f.kept;
          part = f.part;
          has = λ y there. elim (first_or_rest x xs y there) [
            | inl same ↦ subst (Contains f.wider) same (subst (λ r. Contains f.wider (x.0, r)) (rising_once q x.0 some.0 x.1 rising (f.part (x.0, some.0) some.1) (within x first)) some.1)
            | inr later ↦ f.has y later
          ];
        }
        | inr none ↦ elim (each x first) [
          | inl old ↦ absurd (none x.1 (f.kept x old))
          | inr ready ↦
              let given = ready.1 in
              let observer : observes given.call ≡ true =
              ap observes (open_call functions h alternates given.at ready.0.at x.0 given.key ready.0.key given.call ready.0.call given.is_open ready.0.is_open) ∙ ready.0.observer in
              let wider = can_add x.0 x.1 f.wider f.rising none in
              record {
                wider = wider.0;
                listed = listed_place (s, f.wider) (s, wider.0) (record { at = given.at; reply = x.1 }) f.listed (record {
                  process = x.0;
                  key = given.key;
                  call = given.call;
                  is_open = given.is_open;
                  steps = subst (λ t. step s given.call t x.1) (sym (observing s given.next given.call x.1 observer given.steps)) given.steps;
                  added = wider.1;
                });
                rising = wider.1.rising;
                kept = λ y there. wider.1.kept y (f.kept y there);
                part = λ y there. elim (wider.1.was y there) [
                  | inl old ↦ f.part y old
                  | inr new ↦ subst (Contains q) new (within x first)
                ];
                has = λ y there. elim (first_or_rest x xs y there) [
                  | inl same ↦ subst (Contains wider.0) same wider.1.has
                  | inr later ↦ wider.1.kept y (f.has y later)
                ];
              }
        ]
      ]

  filled : (s : S) (w q : List (ℕ × Reply)) → IsListed h members (s, w) → IsRising w → IsRising q → ((x : ℕ × Reply) → Contains w x → Contains q x)
      → ((x : ℕ × Reply) → Contains q x → Contains w x ⊎ (IsWatching observes h x.0 × IsGiven step h s x)) → IsListed h members (s, q)
  filled s w q is w_rising rising part each =
      let f = fill s w q is w_rising rising part q (λ x there. there) each in
      listed_same s f.wider q f.part f.has f.listed

  -- what a member leads to is covered
  reached : (m : Member S) → Contains members m → (c : S × List (ℕ × Reply)) (way : WayOf step observes h m c) (q : List (ℕ × Reply)) → IsRising q → ((x : ℕ × Reply) → Contains c.1 x → Contains q x)
      → ((x : ℕ × Reply) → Contains q x → Contains c.1 x ⊎ IsReady step observes h (IsOnOffer m) (m.state, m.placed) c way x) → IsListed h members (c.0, q)
  reached m there c here q rising part each =
      filled m.state m.placed q (m, there, covers_from (HasCrashed h) (m.state, m.placed) (m.state, m.placed) refl (λ x is. is) (λ x is. inl is)) (sorted m there) rising part (λ x is. elim (each x is) [
        | inl old ↦ inl old
        | inr ready ↦ elim ready.1 [
          | inl offered ↦ absurd (none_offered m x there offered)
          | inr given ↦ inr (ready.0, given)
        ]
      ])
  reached m there c (more {c = d} way u) q rising part each =
      let before = reached m there d way k.chosen (k.pairs rising)
      (λ x is. elim (k.rest x (part x (u.1.added.kept x is))) [ inl kept ↦ kept | inr out ↦ absurd (out.0 is) ])
      k.holds in
      let wider = can_add u.1.process u.0.reply k.chosen (k.pairs rising) (λ other is. elim (k.holds (u.1.process, other) is) [
        | inl old ↦ u.1.added.absent other old
        | inr ready ↦ true≢false (sym ready.0.observer ∙ (ap observes (open_call functions h alternates ready.0.at u.0.at u.1.process ready.0.key u.1.key ready.0.call u.1.call ready.0.is_open u.1.is_open) ∙ u.2))
      ]) in
      let now = listed_place (d.0, k.chosen) (c.0, wider.0) u.0 before (record { process = u.1.process; key = u.1.key; call = u.1.call; is_open = u.1.is_open; steps = u.1.steps; added = wider.1 }) in
      filled c.0 wider.0 q now wider.1.rising rising
      (λ x is. elim (wider.1.was x is) [ inl old ↦ k.within x old | inr new ↦ part x (subst (Contains c.1) new u.1.added.has) ])
      (λ x is. elim (k.rest x is) [
        | inl kept ↦ inl (wider.1.kept x kept)
        | inr out ↦ elim out.1 [
          | inl new ↦ inl (subst (Contains wider.0) new wider.1.has)
          | inr given ↦ inr given
        ]
      ])
    where
      k : Chosen (λ (x : ℕ × Reply) (y : ℕ × Reply). x.0 < y.0) (λ x. Contains d.1 x ⊎ IsReady step observes h (IsOnOffer m) (m.state, m.placed) d way x)
          (λ x. (Contains d.1 x → ⊥) × (((u.1.process, u.0.reply) ≡ x) ⊎ (IsWatching observes h x.0 × IsGiven step h c.0 x))) q
      k = choose _ _ _ q (λ x is. elim (stands x.0 d.1) [
        | inl some ↦ inl (inl (subst (λ r. Contains d.1 (x.0, r)) (rising_once q x.0 some.0 x.1 rising (part (x.0, some.0) (u.1.added.kept (x.0, some.0) some.1)) is) some.1))
        | inr none ↦ elim (each x is) [
          | inl now ↦ elim (u.1.added.was x now) [
            | inl old ↦ inl (inl old)
            | inr new ↦ inr (none x.1, inl new)
          ]
          | inr ready ↦ elim ready.1 [
            | inl offered ↦ elim offered [
              | inl earlier ↦ inl (inr (ready.0, inl earlier))
              | inr given ↦ inl (inr (ready.0, inr given))
            ]
            | inr given ↦ inr (none x.1, inr (ready.0, given))
          ]
        ]
      ])

pub listing_law : {S : Type 0} (start : S) (step : S → Call → S → Reply → Type 0) → WellFormedIsAlternating → ListingLaw start step
listing_law start step alternating observes observing functions h well_formed members sorted none_offered closed complete c config =
    let found = complete c config in
    let b = found.leads.0 in
    let leads = found.leads.1 in
    let is = reached step observes observing functions h ((alternating functions h).0 well_formed) members sorted none_offered closed found.member found.among (b.0, leads.placed) leads.way b.1 leads.rising leads.part leads.each in
    (found.exchange, found.placed, found.exchanged, (is.0, is.1, through h (is.0.state, is.0.placed) b (c.0, found.placed) is.2 found.leads.2))

pub listed_law : {S : Type 0} (start : S) (step : S → Call → S → Reply → Type 0) → ListedLaw start step
listed_law start step observes h members sorted listing c config =
    let found = listing c config in
    let is = found.3 in
    let m = is.0 in
    let own : Leads step observes h m (m.state, m.placed) =
    record { placed = m.placed; way = here; before = sorted m is.1; rising = sorted m is.1; part = λ x there. there; each = λ x there. inl there } in
    record { exchange = found.0; placed = found.1; exchanged = found.2; member = m; among = is.1; leads = ((m.state, m.placed), own, is.2) }

module _ {S : Type 0} (start : S) (step : S → Call → S → Reply → Type 0) (unique : EndsAreUnique) (alternating : WellFormedIsAlternating) (law : OkLaw start step) where
  pub listing_ok_law : ListingOkLaw start step
  listing_ok_law functions h event name reply body well_formed members others sorted taken listing c config =
      let alternates = (alternating functions (with_event h event)).0 well_formed in
      let alive : HasCrashed h event.process → ⊥ = never_crashed h event functions alternates unique name (subst (λ b. Completes b name) (sym body) refl) (λ other. ok_no_info body other) in
      let passes = passes_ok h event functions alternates (λ call. true) name reply body in
      let ended : (q : ℕ) → q ≡ event.process → HasCrashed h q → ⊥ = λ q same crashed. alive (subst (HasCrashed h) same crashed) in
      let from = (law functions h event name reply body well_formed).was config.0 c config.1 in
      let found = listing (c.0, from.0) (config.0, from.1) in
      let e = found.0 in
      let less = exchanged_without e event.process reply c.1 from.0 found.1 (fixed e event.process alive) found.2 from.2 in (
        exchange_on (λ call. true) h (with_event h event) (λ q. q ≡ event.process) passes ended e,
        without event.process found.1,
        exchanged_on (λ call. true) h (with_event h event) (λ q. q ≡ event.process) passes ended e c.1 (without event.process found.1) less.0,
        returned alive (c.0, without event.process found.1) found.1 less.1 found.3,
      )
    where
      returned : (HasCrashed h event.process → ⊥) → (d : S × List (ℕ × Reply)) (wider : List (ℕ × Reply)) → IsAdded event.process reply d.1 wider → IsListed h members (d.0, wider) → IsListed (with_event h event) others d
      returned alive d wider added is = elim (covers_rest (HasCrashed h) (is.0.state, is.0.placed) (d.0, wider) is.2 (event.process, reply) added.has) [
        | inl there ↦
            let m = is.0 in
            let own : S × List (ℕ × Reply) = (m.state, m.placed) in
            let out = taken_out event.process reply m.placed (sorted m is.1) there in
            let left : S × List (ℕ × Reply) = (m.state, without event.process m.placed) in
            let next = taken m (without event.process m.placed) is.1 out in (
              next.0,
              next.1,
              through (with_event h event) (next.0.state, next.0.placed) left d next.2 (covers_from (HasCrashed (with_event h event)) left d is.2.state
                  (λ x inside. elim (added.was x (covers_within (HasCrashed h) own (d.0, wider) is.2 x (out.kept x inside))) [
                    | inl stays ↦ stays
                    | inr same ↦ absurd (out.absent reply (subst (Contains (without event.process m.placed)) (sym same) inside))
                  ])
                  (λ x inside. elim (covers_rest (HasCrashed h) own (d.0, wider) is.2 x (added.kept x inside)) [
                    | inl kept ↦ elim (out.was x kept) [
                      | inl stays ↦ inl stays
                      | inr same ↦ absurd (added.absent reply (subst (Contains d.1) (sym same) inside))
                    ]
                    | inr crashed ↦ inr (crash_kept h event x.0 crashed)
                  ])),
            )
        | inr crashed ↦ absurd (alive crashed)
      ]
