-- The events that keep all members, also with overwritten updates: invocation, info, fail.
use Rattle.std.proofs.Common.{◌≡◌, ℕ, Bool, List, Contains, refl, sym, subst, arith}
use Rattle.lin_events.specs.declared.items.Item.{Item}
use Rattle.lin_events.specs.declared.calls.Call.{Call}
use Rattle.lin_events.specs.declared.calls.Name.{Name}
use Rattle.lin_events.specs.declared.calls.Reply.{Reply}
use Rattle.lin_events.specs.declared.events.Event.{Event}
use Rattle.lin_events.specs.Alternation.{IsAlternating}
use Rattle.lin_events.specs.WellFormed.{Completes}
use Rattle.lin_events.specs.WellFormedLaws.{EndsAreUnique, WellFormedIsAlternating}
use Rattle.lin_objects.specs.Observing.{IsObserving}
use Rattle.lin_order.specs.declared.placed.Placed.{Placed}
use Rattle.lin_order.specs.Configurations.{IsPlacedOn}
use Rattle.lin_order.specs.ConfigurationLaws.{with_event, FailLaw, InfoLaw, InvocationLaw}
use Rattle.lin_members.specs.declared.members.Path.{Path}
use Rattle.lin_members.specs.Covers.{HasCrashed}
use Rattle.lin_members.specs.Members.{Member}
use Rattle.lin_members.specs.Overwritten.{IsCoveredWith, IsOfferedWith}
use Rattle.lin_members.specs.OverwrittenLaws.{FailWithLaw, InfoWithLaw, InvocationWithLaw}
use Rattle.lin_members.proofs.Aboves.{covered_above}
use Rattle.lin_members.specs.lemmas.Crashes.{fail_no_info, never_crashed, passes_invoke, passes_info, passes_fail}
use Rattle.lin_members.specs.lemmas.Dominating.{dominates_itself}
use Rattle.lin_members.specs.lemmas.Exchanging.{exchanged_placed_on, fixed_from}
use Rattle.lin_members.proofs.Lasting.{placed_on_meets}
use Rattle.lin_members.specs.lemmas.Ways.{way_kept}

-- what operations placed on a covered configuration come to is covered
pub covered_placed_on : {S : Type 0} (step : S → Call → S → Reply → Type 0) (observes : Call → Bool) → IsObserving step observes → (functions : Item → Name → Bool) (h : List Event) → IsAlternating functions h
    → (members : List (Member S × Path)) (b c : S × List (ℕ × Reply)) {order : List Placed} → IsCoveredWith step observes h members b → IsPlacedOn step h b order c → IsCoveredWith step observes h members c
covered_placed_on {S} step observes observing functions h alternates members b c found placings =
    let m = found.member in
    let on = exchanged_placed_on found.exchange functions alternates step b found.placed found.exchanged c placings in
    record {
      exchange = found.exchange;
      placed = on.0;
      exchanged = on.1;
      member = m;
      among = found.among;
      wider = found.wider;
      more = found.more;
      meets = placed_on_meets step observes observing functions h alternates (m.0.state, found.wider) (IsOfferedWith step observes h m found.wider) (b.0, found.placed) (c.0, on.0) found.meets on.3;
    }

module _ {S : Type 0} (start : S) (step : S → Call → S → Reply → Type 0) (alternating : WellFormedIsAlternating) where
  pub invocation_with_law : InvocationLaw start step → InvocationWithLaw start step
  invocation_with_law law observes observing functions h event call body well_formed members complete c config =
      let from = (law functions h event call body well_formed).reached c config in
      let found = complete from.0 from.2 in
      covered_placed_on step observes observing functions (with_event h event) ((alternating functions (with_event h event)).0 well_formed) members from.0 c
      (covered_above step observes h (with_event h event) (λ q. ⊥) (passes_invoke h event observes call body) (λ q over crashed. over) members members from.0 found (λ x there none. none)
      found.member found.among (dominates_itself observes (with_event h event) found.member.0 found.more.before, omega arith))
      from.3

  pub info_with_law : InfoLaw start step → InfoWithLaw start step
  info_with_law law observes functions h event name body well_formed members others above complete c config =
      let alternates = (alternating functions (with_event h event)).0 well_formed in
      let found = complete c (config.0, (law functions h event name body well_formed config.0 c).0 config.1) in
      let by = above found.member found.among in
      covered_above step observes h (with_event h event) (λ q. ⊥) (passes_info h event functions alternates observes name body) (λ q over crashed. over) members others c found (λ x there none. none)
      by.0 by.1 by.2

  pub fail_with_law : EndsAreUnique → FailLaw start step → FailWithLaw start step
  fail_with_law unique law observes functions h event name body well_formed members others above complete c config =
      let alternates = (alternating functions (with_event h event)).0 well_formed in
      let before = (law functions h event name body well_formed config.0 c).0 config.1 in
      let found = complete c (config.0, before.0) in
      let m = found.member in
      let alive : HasCrashed h event.process → ⊥ = never_crashed h event functions alternates unique name (subst (λ b. Completes b name) (sym body) refl) (λ other. fail_no_info body other) in
      let none_of : (reply : Reply) → Contains found.placed (event.process, reply) → ⊥ =
      λ reply there. before.1 reply (subst (λ q. Contains c.1 (q, reply)) (fixed_from found.exchange event.process alive) (found.exchanged.rest (event.process, reply) there)) in
      let by = above m found.among (λ reply there. none_of reply (found.meets.part (event.process, reply)
      (way_kept step observes h (m.0.state, found.wider) (c.0, found.meets.placed) found.meets.way (event.process, reply) (found.more.part (event.process, reply) there)))) in
      covered_above step observes h (with_event h event) (λ q. q ≡ event.process) (passes_fail h event functions alternates observes name body) (λ q same crashed. alive (subst (HasCrashed h) same crashed)) members others c found
      (λ x there same. none_of x.1 (subst (λ q. Contains found.placed (q, x.1)) same there)) by.0 by.1 by.2
