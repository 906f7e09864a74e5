-- After an ok: which members lead to all configurations.
use Rattle.std.proofs.Common.{◌≡◌, ℕ, Bool, true, false, List, Contains, inl, inr, refl, sym, subst, ◌∙◌, true≢false}
use Rattle.lin_events.specs.declared.items.Item.{Item}
use Rattle.lin_events.specs.declared.calls.Name.{Name}
use Rattle.lin_events.specs.declared.calls.Call.{Call}
use Rattle.lin_events.specs.declared.calls.Reply.{Reply}
use Rattle.lin_events.specs.declared.events.Event.{Event}
use Rattle.lin_events.specs.declared.events.Body.TheVariants.{Ok}
use Rattle.lin_events.specs.Alternation.{IsAlternating}
use Rattle.lin_events.specs.Operations.{IsOpen}
use Rattle.lin_events.specs.WellFormed.{Completes}
use Rattle.lin_events.specs.WellFormedLaws.{EndsAreUnique}
use Rattle.lin_events.specs.lemmas.OneMore.{alternates_before}
use Rattle.lin_order.specs.Configurations.{IsAdded, IsRising}
use Rattle.lin_order.specs.ConfigurationLaws.{with_event, AfterOk}
use Rattle.lin_members.specs.Covers.{HasCrashed}
use Rattle.lin_members.specs.Exchanges.{Exchange, IsExchanged}
use Rattle.lin_members.specs.Members.{Meets, Member, IsUpdate, IsOffered, IsOnOffer, IsReady, WayOf, more, LeadsToCover, LeadsToMember, IsComplete, IsCovered, DominatesAt}
use Rattle.lin_members.specs.MemberLaws.{IsTaken}
use Rattle.lin_members.specs.lemmas.Choosing.{stands}
use Rattle.lin_members.specs.lemmas.Leading.{meets_from}
use Rattle.lin_members.specs.lemmas.Ways.{way_was, from_covers, to_covers}
use Rattle.lin_frontier.specs.Placing.{without}
use Rattle.lin_members.specs.lemmas.Crashes.{never_crashed, ok_no_info, passes_ok}
use Rattle.lin_members.specs.lemmas.Exchanging.{both, exchange_on, exchanged_added, exchanged_both, exchanged_meets, exchanged_on, exchanged_without, fixed, fixed_from}
use Rattle.lin_members.specs.lemmas.Taking.{IsHeld, IsStopped, at_stop, at_placing, on_from, placed_it, held_placed, rest_of}

module _ {S : Type 0} (start : S) (step : S → Call → S → Reply → Type 0) (observes : Call → Bool) (unique : EndsAreUnique) (functions : Item → Name → Bool) (h : List Event) (event : Event)
    (name : Name) (reply : Reply) (body : event.body ≡ Ok name reply) (alternates : IsAlternating functions (with_event h event)) where
  pub not_crashed : HasCrashed h event.process → ⊥
  not_crashed c = never_crashed h event functions alternates unique name (subst (λ b. Completes b name) (sym body) refl) (λ other. ok_no_info body other) c

  pub earlier : IsAlternating functions h
  earlier = alternates_before h event functions alternates

  pub ended : (q : ℕ) → q ≡ event.process → HasCrashed h q → ⊥
  ended q same crashed = not_crashed (subst (HasCrashed h) same crashed)

  -- an exchange, after the event
  abbrev pub then' : Exchange h → Exchange (with_event h event)
  then' e = exchange_on observes h (with_event h event) (λ q. q ≡ event.process) (passes_ok h event functions alternates observes name reply body) ended e

  -- what was exchanged, and more exchanged, is so without the pair of the process
  pub exchanged_then : (first next : Exchange h) (placed wider middle others : List (ℕ × Reply)) → IsExchanged first wider middle → IsExchanged next middle others → IsAdded event.process reply placed wider
      → IsExchanged (then' (both functions earlier first next)) placed (without event.process others) × IsAdded event.process reply (without event.process others) others
  exchanged_then first next placed wider middle others is more_of added =
      let own = exchanged_without (both functions earlier first next) event.process reply placed wider others (fixed (both functions earlier first next) event.process not_crashed)
      (exchanged_both functions earlier first next wider middle others is more_of) added in (
        exchanged_on observes h (with_event h event) (λ q. q ≡ event.process) (passes_ok h event functions alternates observes name reply body) ended (both functions earlier first next) placed
            (without event.process others) own.0,
        own.1,
      )

  module _ (after : AfterOk start step h event reply) (members others : List (Member S))
      (taken : (m : Member S) → Contains members m → IsTaken observes (with_event h event) event.process reply others m) (complete : IsComplete start step observes h members) where
    module _ {c : S × List (ℕ × Reply)} {wider : List (ℕ × Reply)} (found : IsCovered step observes h members (c.0, wider)) (was : IsAdded event.process reply c.1 wider) where
      -- without the pair of the process
      pub own : IsExchanged found.exchange c.1 (without event.process found.placed) × IsAdded event.process reply (without event.process found.placed) found.placed
      own = exchanged_without found.exchange event.process reply c.1 wider found.placed (fixed found.exchange event.process not_crashed) found.exchanged was

      pub there_too : (n : Member S) × Contains others n × LeadsToCover step observes (with_event h event) n (c.0, without event.process found.placed) → IsCovered step observes (with_event h event) others c
      there_too n = record {
        exchange = then' found.exchange;
        placed = without event.process found.placed;
        exchanged = exchanged_on observes h (with_event h event) (λ q. q ≡ event.process) (passes_ok h event functions alternates observes name reply body) ended found.exchange c.1 (without event.process found.placed) own.0;
        member = n.0;
        among = n.1;
        leads = n.2;
      }

      -- where more was exchanged
      there_after : (e : Exchange h) (others' : List (ℕ × Reply)) → IsExchanged e found.placed others' → (n : Member S) × Contains others n × LeadsToCover step observes (with_event h event) n (c.0, without event.process others')
          → IsCovered step observes (with_event h event) others c
      there_after e others' is n = record {
        exchange = then' (both functions earlier found.exchange e);
        placed = without event.process others';
        exchanged = (exchanged_then found.exchange e c.1 wider found.placed others' found.exchanged is was).0;
        member = n.0;
        among = n.1;
        leads = n.2;
      }

    -- of members that didn't place the operation: on each way to where it may have the reply, some stop
    pub ok_observer : ((at : ℕ) (key : Item) (call : Call) → IsOpen h at event.process key call → observes call ≡ true)
        → ((m : Member S) → Contains members m → ((other : Reply) → Contains m.placed (event.process, other) → ⊥) → (c : S × List (ℕ × Reply)) (way : WayOf step observes h m c) → IsRising c.1
        → IsReady step observes h (IsOnOffer m) (m.state, m.placed) c way (event.process, reply) → IsStopped step observes h (with_event h event) others m c way)
        → IsComplete start step observes (with_event h event) others
    ok_observer observer stopped c config =
        let from = after.was config.0 c config.1 in
        let found = complete (c.0, from.0) (config.0, from.1) in
        by found from.2
      where
        by : {wider : List (ℕ × Reply)} → (found : IsCovered step observes h members (c.0, wider)) → IsAdded event.process reply c.1 wider → IsCovered step observes (with_event h event) others c
        by {wider} found was = elim (stands event.process m.placed) [
          | inl some ↦ there_too found was (placed_it step observes functions h event name reply body alternates others m (taken m found.among) d placed added is some.0 some.1)
          | inr absent ↦ elim (is.each (event.process, reply) added.has) [
            | inl last ↦ elim (way_was step observes h (m.state, m.placed) (c.0, is.placed) is.way (event.process, reply) last) [
              | inl first ↦ absurd (absent reply first)
              | inr u ↦ absurd (true≢false (sym (observer u.0 u.1 u.2 u.3) ∙ u.4))
            ]
            | inr other ↦ elim other [
              | inl ready ↦
                  let split = at_stop step observes h (with_event h event) others m (c.0, is.placed) is.way (stopped m found.among absent (c.0, is.placed) is.way is.before ready) in
                  let n = split.has in
                  let last = exchanged_meets n.0 functions earlier step observes (IsOffered step observes h (IsOnOffer m) (m.state, m.placed) split.mid split.first) split.mid n.1 n.3 c.0 placed
                  (rest_of step observes h (m.state, m.placed) (IsOnOffer m) c.0 placed is (IsHeld step observes h (with_event h event) others m) split) in
                  let next = exchanged_without n.0 event.process reply d.1 placed last.0 (fixed n.0 event.process not_crashed) last.1 added in
                  there_after found was n.0 last.0 last.1 (
                    n.2,
                    n.4,
                    on_from step observes functions h event name reply body alternates others split.mid.0 n.1 n.1
                        (IsOffered step observes h (IsOnOffer m) (m.state, m.placed) split.mid split.first) n.2 (λ x is_in. is_in)
                        (λ r is_in. elim (way_was step observes h (m.state, m.placed) split.mid split.first (event.process, r)
                        (subst (λ q. Contains split.mid.1 (q, r)) (fixed_from n.0 event.process not_crashed) (n.3.rest (event.process, r) is_in))) [
                          | inl first ↦ absent r first
                          | inr u ↦ true≢false (sym (observer u.0 u.1 u.2 u.3) ∙ u.4)
                        ])
                        (λ x is_in. inl is_in) n.5 (c.0, without event.process last.0) last.0 next.1 last.2
                        (λ at key call is_open never first. true≢false (sym (observer at key call is_open) ∙ never)),
                  )
              | inr crashed ↦ absurd (not_crashed crashed)
            ]
          ]
        ]
          where
            m : Member S
            m = found.member

            placed : List (ℕ × Reply)
            placed = found.placed

            d : S × List (ℕ × Reply)
            d = (c.0, without event.process placed)

            added : IsAdded event.process reply d.1 placed
            added = (own found was).1

            is : Meets step observes h (m.state, m.placed) (IsOnOffer m) c.0 placed
            is = from_covers step observes h m (c.0, placed) found.exchanged.rising found.leads

    -- one of the others leads to the member
    abbrev pub IsLedToBy : Member S → Type 0
    IsLedToBy n = (k : Member S) × Contains others k × LeadsToMember step observes (with_event h event) k n

    -- of members that didn't place the operation: what each way comes to by placing it with this reply, without it
    pub ok_update : ((at : ℕ) (key : Item) (call : Call) → IsOpen h at event.process key call → observes call ≡ false)
        → ((m : Member S) → Contains members m → (c d : S × List (ℕ × Reply)) (way : WayOf step observes h m c) (u : IsUpdate step observes h c d) → u.1.process ≡ event.process → u.0.reply ≡ reply
        → (e : Exchange h) × (placed : List (ℕ × Reply)) × (n : Member S) × IsExchanged e c.1 placed × IsLedToBy n
        × DominatesAt observes (with_event h event) n d.0 placed (IsOffered step observes h (IsOnOffer m) (m.state, m.placed) d (more way u)))
        → IsComplete start step observes (with_event h event) others
    ok_update update reached c config =
        let from = after.was config.0 c config.1 in
        let found = complete (c.0, from.0) (config.0, from.1) in
        by found from.2
      where
        -- the operation was placed last on the way, with this reply, and others hold it without
        IsPlacedLast : (m : Member S) → (d : S × List (ℕ × Reply)) → WayOf step observes h m d → Type 0
        IsPlacedLast m d way = (e : Exchange h) × (wider : List (ℕ × Reply)) × (kept : List (ℕ × Reply)) × (n : Member S) × IsExchanged e d.1 wider × IsAdded event.process reply kept wider × IsLedToBy n
            × DominatesAt observes (with_event h event) n d.0 kept (IsOffered step observes h (IsOnOffer m) (m.state, m.placed) d way)

        by : {wider : List (ℕ × Reply)} → (found : IsCovered step observes h members (c.0, wider)) → IsAdded event.process reply c.1 wider → IsCovered step observes (with_event h event) others c
        by {wider} found was = elim (stands event.process m.placed) [
          | inl some ↦ there_too found was (placed_it step observes functions h event name reply body alternates others m (taken m found.among) d placed added is some.0 some.1)
          | inr absent ↦ elim (is.each (event.process, reply) added.has) [
            | inl last ↦
                let split = at_placing step observes h (IsOnOffer m) event.process reply (m.state, m.placed) (IsPlacedLast m)
                (λ b d' way u same_process same_reply.
                let n = reached m found.among b d' way u same_process same_reply in
                let own_pair : IsAdded event.process reply b.1 d'.1 =
                subst (λ r. IsAdded event.process r b.1 d'.1) same_reply (subst (λ p. IsAdded p u.0.reply b.1 d'.1) same_process u.1.added) in
                let k = exchanged_added n.0 event.process reply b.1 d'.1 n.1 n.3 own_pair in
                (n.0, k.0, n.1, n.2, k.1, subst (λ q. IsAdded q reply n.1 k.0) (fixed n.0 event.process not_crashed) k.2, n.4, n.5))
                absent (c.0, is.placed) is.way last in
                let n = split.has in
                let last' = exchanged_meets n.0 functions earlier step observes (IsOffered step observes h (IsOnOffer m) (m.state, m.placed) split.mid split.first) split.mid n.1 n.4 c.0 placed
                (rest_of step observes h (m.state, m.placed) (IsOnOffer m) c.0 placed is (IsPlacedLast m) split) in
                let next = exchanged_without n.0 event.process reply d.1 placed last'.0 (fixed n.0 event.process not_crashed) last'.1 added in
                let leads = held_placed step observes functions h event name reply body alternates others split.mid.0 n.1 n.2
                (IsOffered step observes h (IsOnOffer m) (m.state, m.placed) split.mid split.first) n.3 n.5 n.7 (c.0, without event.process last'.0) last'.0 next.1 last'.2 in
                there_after found was n.0 last'.0 last'.1 (
                  n.6.0,
                  n.6.1,
                  to_covers step observes (with_event h event) n.6.0 (c.0, without event.process last'.0)
                      (meets_from step observes (with_event h event) n.6.0 n.3 n.6.2 c.0 (without event.process last'.0)
                      (from_covers step observes (with_event h event) n.3 (c.0, without event.process last'.0) next.1.before leads)),
                )
            | inr other ↦ elim other [
              | inl ready ↦ absurd (true≢false (sym ready.0.observer ∙ update ready.0.at ready.0.key ready.0.call ready.0.is_open))
              | inr crashed ↦ absurd (not_crashed crashed)
            ]
          ]
        ]
          where
            m : Member S
            m = found.member

            placed : List (ℕ × Reply)
            placed = found.placed

            d : S × List (ℕ × Reply)
            d = (c.0, without event.process placed)

            added : IsAdded event.process reply d.1 placed
            added = (own found was).1

            is : Meets step observes h (m.state, m.placed) (IsOnOffer m) c.0 placed
            is = from_covers step observes h m (c.0, placed) found.exchanged.rising found.leads
