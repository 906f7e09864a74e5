-- An invocation, and an info where there is one member: the members are the same.
use Rattle.std.proofs.Common.{ℕ, ◌≤◌, Bool, true, false, List, length, map, get_or, Contains, Option, ◌≡◌, ◌⊎◌, inl, inr, refl, subst, arith}
use Rattle.lin_events.specs.declared.items.Item.{Item}
use Rattle.lin_events.specs.declared.calls.Call.{Call}
use Rattle.lin_events.specs.declared.calls.Name.{Name}
use Rattle.lin_events.specs.declared.calls.Reply.{Reply}
use Rattle.lin_events.specs.declared.events.Body.TheVariants.{Info, Invoke}
use Rattle.lin_events.specs.declared.events.Event.{Event}
use Rattle.lin_events.specs.Alternation.{IsAlternating}
use Rattle.lin_events.specs.WellFormed.{IsWellFormed}
use Rattle.lin_objects.specs.Observing.{IsObserving}
use Rattle.lin_order.specs.declared.placed.Placed.{Placed}
use Rattle.lin_order.specs.ConfigurationLaws.{with_event}
use Rattle.lin_order.specs.Configurations.{IsRising}
use Rattle.lin_members.specs.declared.members.Path.{Path}
use Rattle.lin_members.specs.Compressed.{IsCompressed}
use Rattle.lin_members.specs.MemberLaws.{InfoKeepsLaw, InvocationKeepsLaw}
use Rattle.lin_members.specs.Members.{Member, Dominates}
use Rattle.lin_members.specs.Overwritten.{IsAbove, IsCompleteFor}
use Rattle.lin_members.specs.OverwrittenLaws.{AllowsOnLaw, InfoWithLaw, InvocationWithLaw}
use Rattle.lin_members.specs.RoundLaws.{TrailInfoLaw, TrailInvocationLaw}
use Rattle.lin_lists.specs.lemmas.Filters.{from_map}
use Rattle.lin_configurations.specs.lemmas.Onward.{spelled_rising}
use Rattle.lin_members.specs.lemmas.Crashes.{crash_before, invoke_no_info, passes_invoke}
use Rattle.lin_members.specs.lemmas.Dominating.{dominates_itself}

module _ {S : Type 0} (start : S) (step : S → Call → S → Reply → Type 0) (observes : Call → Bool) (overwriting : Bool) (functions : Item → Name → Bool) (h : List Event) (event : Event) (call : Call)
    (body : event.body ≡ Invoke call) (well_formed : IsWellFormed functions (with_event h event)) (alternates : IsAlternating functions (with_event h event)) where
  -- what dominates then dominated before: nobody waits for a reply that was on offer before but then
  dominated_before : (m n : Member S) → Dominates observes (with_event h event) m n → Dominates observes h m n
  dominated_before m n d = record {
    sorted = d.sorted;
    same = d.same;
    part = d.part;
    rest = λ x there. elim (d.rest x there) [
      | inl placed ↦ inl placed
      | inr crashed ↦ elim (crash_before h event x.0 crashed) [
        | inl old ↦ inr old
        | inr info ↦ absurd (invoke_no_info body info.1 info.2)
      ]
    ];
    offered = λ x watching absent there. elim ((passes_invoke h event observes call body).watches x.0 (λ none. none) watching) [
      | inl still ↦ d.offered x still absent there
      | inr crashed ↦ absurd (elim (crash_before h event x.0 crashed) [
        | inl old ↦ watching.alive old
        | inr info ↦ invoke_no_info body info.1 info.2
      ])
    ];
  }

  above_before : (m n : Member S × Path) → IsAbove observes (with_event h event) m n → IsAbove observes h m n
  above_before m n above = (dominated_before m.0 n.0 above.0, above.1)

  pub invoked_compressed : IsObserving step observes → InvocationKeepsLaw start step → InvocationWithLaw start step → TrailInvocationLaw start step → AllowsOnLaw S → (nodes : List (ℕ × (Placed × Option ℕ))) (members : List (Member S × Path))
      → IsCompressed start step observes overwriting h members nodes → IsCompressed start step observes overwriting (with_event h event) members nodes
  invoked_compressed observing keeps keeps_with trail on nodes members c = record {
    covering = record {
      complete = by overwriting c.covering.complete;
      spelled = λ m there. let s = c.covering.spelled m there in record {
        states = s.states;
        rounds = s.rounds;
        spelled = s.spelled;
        last = s.last;
        trail = trail observes functions h event call body well_formed s.states s.rounds m.0 s.trail;
      };
      overwritten = λ is m there rounds spelled. on observes h event m m rounds refl (λ x within. within) (c.covering.overwritten is m there rounds spelled);
    };
    apart = λ i j d below inside.
        let a = c.apart i j d below inside in (
          λ above. a.0 (above_before (get_or members i d) (get_or members j d) above),
          λ above. a.1 (above_before (get_or members j d) (get_or members i d) above),
        );
  }
    where
      by : (overwriting : Bool) → IsCompleteFor start step observes overwriting h members → IsCompleteFor start step observes overwriting (with_event h event) members
      by false complete = keeps observes observing functions h event call body well_formed (map (λ m. m.0) members) complete
      by true complete = keeps_with observes observing functions h event call body well_formed members complete

-- one member is above no other, so it may stay as it is though its offers to the process no longer count
module _ {S : Type 0} (start : S) (step : S → Call → S → Reply → Type 0) (observes : Call → Bool) (overwriting : Bool) (functions : Item → Name → Bool) (h : List Event) (event : Event) (name : Name)
    (body : event.body ≡ Info name) (well_formed : IsWellFormed functions (with_event h event)) where
  pub informed_compressed : InfoKeepsLaw start step → InfoWithLaw start step → TrailInfoLaw start step → AllowsOnLaw S → (nodes : List (ℕ × (Placed × Option ℕ))) (members : List (Member S × Path)) → length members ≤ 1
      → IsCompressed start step observes overwriting h members nodes → IsCompressed start step observes overwriting (with_event h event) members nodes
  informed_compressed keeps keeps_with trail on nodes members one c = record {
    covering = record {
      complete = by overwriting c.covering.complete;
      spelled = λ m there. let s = c.covering.spelled m there in record {
        states = s.states;
        rounds = s.rounds;
        spelled = s.spelled;
        last = s.last;
        trail = trail observes functions h event name body well_formed s.states s.rounds m.0 s.trail;
      };
      overwritten = λ is m there rounds spelled. on observes h event m m rounds refl (λ x within. within) (c.covering.overwritten is m there rounds spelled);
    };
    apart = λ i j d below inside. absurd (omega arith);
  }
    where
      rising : (m : Member S × Path) → Contains members m → IsRising m.0.placed
      rising m there = spelled_rising start step observes h nodes m (c.covering.spelled m there)

      by : (overwriting : Bool) → IsCompleteFor start step observes overwriting h members → IsCompleteFor start step observes overwriting (with_event h event) members
      by false complete = keeps observes functions h event name body well_formed (map (λ m. m.0) members) (map (λ m. m.0) members)
          (λ n there.
          let m = from_map (λ (x : Member S × Path). x.0) members n there in
          (n, there, dominates_itself observes (with_event h event) n (subst (λ (x : Member S). IsRising x.placed) m.2 (rising m.0 m.1))))
          complete
      by true complete = keeps_with observes functions h event name body well_formed members members
          (λ m there. (m, there, (dominates_itself observes (with_event h event) m.0 (rising m there), omega arith))) complete

-- either of them
module _ {S : Type 0} (start : S) (step : S → Call → S → Reply → Type 0) (observes : Call → Bool) (overwriting : Bool) (functions : Item → Name → Bool) (h : List Event) (event : Event)
    (well_formed : IsWellFormed functions (with_event h event)) (alternates : IsAlternating functions (with_event h event)) where
  pub kept_compressed : IsObserving step observes → InvocationKeepsLaw start step → InvocationWithLaw start step → TrailInvocationLaw start step → InfoKeepsLaw start step → InfoWithLaw start step → TrailInfoLaw start step
      → AllowsOnLaw S → (nodes : List (ℕ × (Placed × Option ℕ))) (members : List (Member S × Path)) → ((call : Call) × (event.body ≡ Invoke call)) ⊎ ((name : Name) × (event.body ≡ Info name) × (length members ≤ 1))
      → IsCompressed start step observes overwriting h members nodes → IsCompressed start step observes overwriting (with_event h event) members nodes
  kept_compressed observing keeps keeps_with trail info info_with trail_info on nodes members which c = elim which [
    | inl is ↦ invoked_compressed start step observes overwriting functions h event is.0 is.1 well_formed alternates observing keeps keeps_with trail on nodes members c
    | inr is ↦ informed_compressed start step observes overwriting functions h event is.0 is.1 well_formed info info_with trail_info on nodes members is.2 c
  ]
