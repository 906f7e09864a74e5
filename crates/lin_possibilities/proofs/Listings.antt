-- A listing of a history tells all that is possible after it.
use Rattle.std.proofs.Common.{◌≡◌, ◌⊎◌, ℕ, List, Contains, inl, inr, sym, subst, map, refl, length}
use Rattle.std.proofs.lemmas.List.Elements.{All-contains}
use Rattle.lin_events.specs.declared.calls.Reply.{Reply}
use Rattle.lin_events.specs.declared.events.Event.{Event}
use Rattle.lin_objects.specs.declared.kinds.Kind.{Kind}
use Rattle.lin_objects.specs.declared.states.State.{State}
use Rattle.lin_objects.specs.Observing.{observes}
use Rattle.lin_objects.specs.Steps.{Step, start}
use Rattle.lin_lists.specs.lemmas.Filters.{from_map}
use Rattle.lin_members.specs.declared.members.Path.{Path}
use Rattle.lin_members.specs.Covers.{HasCrashed}
use Rattle.lin_members.specs.Exchanges.{Exchange}
use Rattle.lin_members.specs.Listed.{IsListingOf}
use Rattle.lin_members.specs.Members.{Member}
use Rattle.lin_members.specs.Rounds.{joined}
use Rattle.lin_members.specs.RoundLaws.{TrailEndsLaw}
use Rattle.lin_possibilities.specs.declared.possible.Possible.{Possible}
use Rattle.lin_possibilities.specs.After.{IsAfter, kind_in}
use Rattle.lin_possibilities.specs.Running.{IsKnown}

abbrev Led : Type 0
Led = Member State × Path

-- what is of a process that has not crashed is not exchanged
unmoved : (h : List Event) (e : Exchange h) (process : ℕ) → (HasCrashed h process → ⊥) → e.to process ≡ process
unmoved h e process live = elim (e.moves process) [ inl same ↦ same | inr alike ↦ absurd (live alike.crashed) ]

pub listing_after : (possible : Possible) (kind : Kind) (h : List Event) → TrailEndsLaw (start kind) (Step kind)
    → IsListingOf (start kind) (Step kind) (observes kind) h possible.members.items possible.run.nodes → kind_in possible ≡ kind → IsKnown possible.run h (length h) → IsAfter possible kind h
listing_after possible kind h ends list same known = record {
  sound = λ m there.
      let by = list.spelled m there in
      (joined by.rounds, (by.rounds, by.spelled, refl), ends (observes kind) h by.states by.rounds m.0 by.trail);
  states = λ c is.
      let l = list.listing c is in
      let m = led l.3.0 l.3.1 in
      (m.0, m.1, subst (λ (n : Member State). n.state ≡ c.0) (sym m.2) l.3.2.state);
  replies = λ c x is placed live.
      let l = list.listing c is in
      let m = led l.3.0 l.3.1 in
      let there : Contains l.1 x = subst (λ p. Contains l.1 (p, x.1)) (unmoved h l.0 x.0 live) (l.2.part x placed) in
      let own : Contains l.3.0.placed x = elim (All-contains (λ (y : ℕ × Reply). Contains l.3.0.placed y ⊎ HasCrashed h y.0) l.1 x l.3.2.rest there) [ inl has ↦ has | inr crashed ↦ absurd (live crashed) ] in
      (m.0, m.1, subst (λ (n : Member State). Contains n.placed x) (sym m.2) own);
  object = same;
  known = known;
}
  where
    -- a member that was listed, with its path
    led : (n : Member State) → Contains (map (λ (m : Led). m.0) possible.members.items) n → (m : Led) × Contains possible.members.items m × (m.0 ≡ n)
    led n there = let m = from_map (λ (x : Led). x.0) possible.members.items n there in m
