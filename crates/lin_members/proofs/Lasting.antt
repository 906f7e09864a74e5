-- Placing, and the events that keep all members: invocation, info, fail.
use Rattle.std.proofs.Common.{◌≡◌, ℕ, Bool, true, false, List, Contains, inl, inr, refl, sym, ap, subst}
use Rattle.std.proofs.lemmas.Bool.{cases_Bool}
use Rattle.lin_events.specs.declared.items.Item.{Item}
use Rattle.lin_events.specs.declared.calls.Call.{Call}
use Rattle.lin_events.specs.declared.calls.Name.{Name}
use Rattle.lin_events.specs.declared.calls.Reply.{Reply}
use Rattle.lin_events.specs.declared.events.Event.{Event}
use Rattle.lin_events.specs.Alternation.{IsAlternating}
use Rattle.lin_events.specs.WellFormed.{Completes}
use Rattle.lin_events.specs.WellFormedLaws.{EndsAreUnique, WellFormedIsAlternating}
use Rattle.lin_objects.specs.Observing.{IsObserving}
use Rattle.lin_order.specs.declared.placed.Placed.{Placed}
use Rattle.lin_order.specs.Configurations.{IsAdded, IsPlacing, IsPlacedOn, none, more as further}
use Rattle.lin_order.specs.ConfigurationLaws.{with_event, FailLaw, InfoLaw, InvocationLaw}
use Rattle.lin_members.specs.Covers.{HasCrashed}
use Rattle.lin_members.specs.Members.{Meets, Member, IsOnOffer, IsReady, IsWatching, more, LeadsToCover}
use Rattle.lin_members.specs.MemberLaws.{LeadsOnLaw, PlaceLaw, InvocationKeepsLaw, InfoKeepsLaw, FailKeepsLaw}
use Rattle.lin_members.specs.lemmas.Choosing.{can_add}
use Rattle.lin_members.specs.lemmas.Ways.{way_kept, way_start, from_covers, to_covers}
use Rattle.lin_members.specs.lemmas.Following.{Passes, Follows, follow, meets_over}
use Rattle.lin_members.specs.lemmas.Dominating.{dominates_itself, covers_on, covers_sorted}
use Rattle.lin_members.specs.lemmas.Crashes.{crash_before, crash_or, fail_no_info, invoke_no_info, never_crashed, passes_invoke, passes_info, passes_fail}
use Rattle.lin_members.specs.lemmas.Exchanging.{exchange_on, exchanged_on, exchanged_placed_on, fixed_from}

module _ {S : Type 0} (step : S → Call → S → Reply → Type 0) (observes : Call → Bool) (observing : IsObserving step observes) (functions : Item → Name → Bool)
    (h : List Event) (alternates : IsAlternating functions h) where
  place_observer : (b : S × List (ℕ × Reply)) (offers : ℕ × Reply → Type 0) (c d : S × List (ℕ × Reply)) (p : Placed) → Meets step observes h b offers c.0 c.1 → (u : IsPlacing step h c p d)
      → observes u.call ≡ true → Meets step observes h b offers d.0 d.1
  place_observer b offers c d p is u yes' = subst (λ s. Meets step observes h b offers s d.1) (observing c.0 d.0 u.call p.reply yes' u.steps) (record {
    placed = is.placed;
    way = is.way;
    before = is.before;
    rising = u.added.rising;
    part = λ x there. u.added.kept x (is.part x there);
    each = λ x there. elim (u.added.was x there) [
      | inl old ↦ is.each x old
      | inr new ↦ inr (elim (crash_or functions h alternates u.process) [
        | inl crashed ↦ inr (subst (HasCrashed h) (ap (λ (y : ℕ × Reply). y.0) new) crashed)
        | inr alive ↦ inl (subst (IsReady step observes h offers b (c.0, is.placed) is.way) new (
          record { at = p.at; key = u.key; call = u.call; is_open = u.is_open; observer = yes'; alive = alive },
          inr (record { at = p.at; key = u.key; call = u.call; next = d.0; is_open = u.is_open; steps = u.steps }),
        ))
      ])
    ];
  })

  place_update : (b : S × List (ℕ × Reply)) (offers : ℕ × Reply → Type 0) (c d : S × List (ℕ × Reply)) (p : Placed) → Meets step observes h b offers c.0 c.1 → (u : IsPlacing step h c p d)
      → observes u.call ≡ false → Meets step observes h b offers d.0 d.1
  place_update b offers c d p is u none_observes = record {
    placed = wider.0;
    way = more is.way (p, record { process = u.process; key = u.key; call = u.call; is_open = u.is_open; steps = u.steps; added = wider.1 }, none_observes);
    before = wider.1.rising;
    rising = u.added.rising;
    part = λ x there. elim (wider.1.was x there) [
      | inl old ↦ u.added.kept x (is.part x old)
      | inr new ↦ subst (Contains d.1) new u.added.has
    ];
    each = λ x there. elim (u.added.was x there) [
      | inl old ↦ elim (is.each x old) [
        | inl placed ↦ inl (wider.1.kept x placed)
        | inr other ↦ elim other [
          | inl ready ↦ inr (inl (ready.0, inl ready.1))
          | inr crashed ↦ inr (inr crashed)
        ]
      ]
      | inr new ↦ inl (subst (Contains wider.0) new wider.1.has)
    ];
  }
    where
      wider : (placed : List (ℕ × Reply)) × IsAdded u.process p.reply is.placed placed
      wider = can_add u.process p.reply is.placed is.before (λ other there. u.added.absent other (is.part (u.process, other) there))

  -- placing an open operation, from any beginning
  pub place_meets : (b : S × List (ℕ × Reply)) (offers : ℕ × Reply → Type 0) (c d : S × List (ℕ × Reply)) (p : Placed) → Meets step observes h b offers c.0 c.1 → IsPlacing step h c p d → Meets step observes h b offers d.0 d.1
  place_meets b offers c d p is u = elim (cases_Bool (observes u.call)) [
    | inl yes' ↦ place_observer b offers c d p is u yes'
    | inr none_observes ↦ place_update b offers c d p is u none_observes
  ]

  pub placed_on_meets : (b : S × List (ℕ × Reply)) (offers : ℕ × Reply → Type 0) (c : S × List (ℕ × Reply)) {order : List Placed} (d : S × List (ℕ × Reply)) → Meets step observes h b offers c.0 c.1
      → IsPlacedOn step h c order d → Meets step observes h b offers d.0 d.1
  placed_on_meets b offers c d is none = is
  placed_on_meets b offers c d is (further {d = e} {p = p} way placing) = place_meets b offers e d p (placed_on_meets b offers c e is way) placing

  pub place_covers : (m : Member S) (c d : S × List (ℕ × Reply)) (p : Placed) → LeadsToCover step observes h m c → IsPlacing step h c p d → LeadsToCover step observes h m d
  place_covers m c d p is u = to_covers step observes h m d (place_meets (m.state, m.placed) (IsOnOffer m) c d p (from_covers step observes h m c u.added.before is) u)

  pub placed_on_covers : (m : Member S) (b : S × List (ℕ × Reply)) {order : List Placed} (c : S × List (ℕ × Reply)) → LeadsToCover step observes h m b → IsPlacedOn step h b order c → LeadsToCover step observes h m c
  placed_on_covers m b c is none = is
  placed_on_covers m b c is (further {d = d} {p = p} way placing) = place_covers m d c p (placed_on_covers m b d is way) placing

pub leads_on_law : {S : Type 0} (step : S → Call → S → Reply → Type 0) → LeadsOnLaw step
leads_on_law {S} step observes h event call body m c is = record {
  placed = f.placed;
  way = f.way';
  before = f.sorted;
  rising = is.rising;
  part = λ x there. is.part x (f.part x there);
  each = λ x there. elim (is.each x there) [
    | inl old ↦ elim (f.rest x old) [ inl kept ↦ inl kept | inr never ↦ absurd never ]
    | inr ready ↦ inr (elim (passes.watches x.0 (λ never. never) ready.0) [
      | inl watching ↦ (
        watching,
        elim ready.1 [
          | inl offered ↦ inl (f.offered x watching offered)
          | inr now ↦ inr (record { at = now.at; key = now.key; call = now.call; next = now.next; is_open = passes.opens now.at x.0 now.key now.call (λ never. never) now.is_open; steps = now.steps })
        ],
      )
      | inr crashed ↦ absurd (elim (crash_before h event x.0 crashed) [
        | inl old ↦ ready.0.alive old
        | inr new ↦ invoke_no_info body new.1 new.2
      ])
    ])
  ];
}
  where
    passes : Passes observes h (with_event h event) (λ q. ⊥)
    passes = passes_invoke h event observes call body

    f : Follows step observes h (with_event h event) (m.state, m.placed) (m.state, m.placed) (IsOnOffer m) (IsOnOffer m) (λ x. ⊥) (λ x. IsWatching observes (with_event h event) x.0) (c.0, is.placed) is.way
    f = follow step observes h (with_event h event) m.state m.placed m.placed (IsOnOffer m) (IsOnOffer m) _ _
        (way_start step observes h (m.state, m.placed) (c.0, is.placed) is.way is.before)
        (λ x there. there) (λ x there. inl there) (λ x watching there. there) (λ x watching at key call' is_open. passes.opens at x.0 key call' (λ never. never) is_open)
        (c.0, is.placed) is.way (λ at p key call' reply is_open no' absent there. passes.opens at p key call' (λ never. never) is_open)

pub place_law : {S : Type 0} (step : S → Call → S → Reply → Type 0) → WellFormedIsAlternating → PlaceLaw step
place_law step alternating observes observing functions h well_formed m c d p is placing =
    place_covers step observes observing functions h ((alternating functions h).0 well_formed) m c d p is placing

module _ {S : Type 0} (start : S) (step : S → Call → S → Reply → Type 0) (alternating : WellFormedIsAlternating) where
  pub invocation_keeps_law : InvocationLaw start step → InvocationKeepsLaw start step
  invocation_keeps_law law observes observing functions h event call body well_formed members complete c config =
      let alternates = (alternating functions (with_event h event)).0 well_formed in
      let from = (law functions h event call body well_formed).reached c config in
      let passes = passes_invoke h event observes call body in
      let found = complete from.0 from.2 in
      let m = found.member in
      let b : S × List (ℕ × Reply) = (from.0.0, found.placed) in
      let e = exchange_on observes h (with_event h event) (λ q. ⊥) passes (λ q over crashed. over) found.exchange in
      let on = exchanged_placed_on e functions alternates step from.0 found.placed
      (exchanged_on observes h (with_event h event) (λ q. ⊥) passes (λ q over crashed. over) found.exchange from.0.1 found.placed found.exchanged) c from.3 in
      record {
        exchange = e;
        placed = on.0;
        exchanged = on.1;
        member = m;
        among = found.among;
        leads = placed_on_covers step observes observing functions (with_event h event) alternates m b (c.0, on.0)
            (covers_on step observes h (with_event h event) passes m m (dominates_itself observes (with_event h event) m (covers_sorted step observes h m b found.leads)) b found.exchanged.rising found.leads)
            on.3;
      }

  pub info_keeps_law : InfoLaw start step → InfoKeepsLaw start step
  info_keeps_law law observes functions h event name body well_formed members others dominated complete c config =
      let alternates = (alternating functions (with_event h event)).0 well_formed in
      let found = complete c (config.0, (law functions h event name body well_formed config.0 c).0 config.1) in
      let by = dominated found.member found.among in
      let passes = passes_info h event functions alternates observes name body in
      record {
        exchange = exchange_on observes h (with_event h event) (λ q. ⊥) passes (λ q over crashed. over) found.exchange;
        placed = found.placed;
        exchanged = exchanged_on observes h (with_event h event) (λ q. ⊥) passes (λ q over crashed. over) found.exchange c.1 found.placed found.exchanged;
        member = by.0;
        among = by.1;
        leads = covers_on step observes h (with_event h event) passes found.member by.0 by.2 (c.0, found.placed) found.exchanged.rising found.leads;
      }

  pub fail_keeps_law : EndsAreUnique → FailLaw start step → FailKeepsLaw start step
  fail_keeps_law unique law observes functions h event name body well_formed members others dominated complete c config =
      let alternates = (alternating functions (with_event h event)).0 well_formed in
      let before = (law functions h event name body well_formed config.0 c).0 config.1 in
      let found = complete c (config.0, before.0) in
      let m = found.member in
      let e = found.exchange in
      let passes = passes_fail h event functions alternates observes name body in
      let alive : HasCrashed h event.process → ⊥ = never_crashed h event functions alternates unique name (subst (λ b. Completes b name) (sym body) refl) (λ other. fail_no_info body other) in
      let ended : (q : ℕ) → q ≡ event.process → HasCrashed h q → ⊥ = λ q same crashed. alive (subst (HasCrashed h) same crashed) in
      let none_of : (reply : Reply) → Contains found.placed (event.process, reply) → ⊥ =
      λ reply there. before.1 reply (subst (λ q. Contains c.1 (q, reply)) (fixed_from e event.process alive) (found.exchanged.rest (event.process, reply) there)) in
      let meets = from_covers step observes h m (c.0, found.placed) found.exchanged.rising found.leads in
      let absent : (reply : Reply) → Contains m.placed (event.process, reply) → ⊥ =
      λ reply there. none_of reply (meets.part (event.process, reply) (way_kept step observes h (m.state, m.placed) (c.0, meets.placed) meets.way (event.process, reply) there)) in
      let by = dominated m found.among absent in
      record {
        exchange = exchange_on observes h (with_event h event) (λ q. q ≡ event.process) passes ended e;
        placed = found.placed;
        exchanged = exchanged_on observes h (with_event h event) (λ q. q ≡ event.process) passes ended e c.1 found.placed found.exchanged;
        member = by.0;
        among = by.1;
        leads = to_covers step observes (with_event h event) by.0 (c.0, found.placed) (meets_over step observes h (with_event h event) (λ q. q ≡ event.process) passes m.state m.placed m.placed (IsOnOffer m) by.0
            (λ x there. there) (λ x there same. absent x.1 (subst (λ q. Contains m.placed (q, x.1)) same there)) (λ x there. inl there) by.2
            c.0 found.placed found.placed found.exchanged.rising (λ x there. there) (λ x there same. none_of x.1 (subst (λ q. Contains found.placed (q, x.1)) same there)) (λ x there. inl there)
            meets (λ at p key call reply is_open never first there same. none_of reply (subst (λ q. Contains found.placed (q, reply)) same (meets.part (p, reply) there))));
      }
