-- What an ok makes of a list of all configurations: nothing is searched.
use Rattle.std.proofs.Common.{◌≡◌, ℕ, Bool, false, true≢false, List, Contains, map, ◌⊎◌, inl, refl, sym, subst, Option}
use Rattle.std.proofs.lemmas.List.Elements.{All-contains_itself, All-weaker}
use Rattle.lin_events.specs.declared.items.Item.{Item}
use Rattle.lin_events.specs.declared.calls.Call.{Call}
use Rattle.lin_events.specs.declared.calls.Name.{Name}
use Rattle.lin_events.specs.declared.calls.Reply.{Reply}
use Rattle.lin_events.specs.declared.events.Body.TheVariants.{Ok}
use Rattle.lin_events.specs.declared.events.Event.{Event}
use Rattle.lin_events.specs.WellFormed.{IsWellFormed}
use Rattle.lin_events.specs.WellFormedLaws.{EndsAreUnique, WellFormedIsAlternating}
use Rattle.lin_order.specs.declared.placed.Placed.{Placed}
use Rattle.lin_order.specs.ConfigurationLaws.{with_event}
use Rattle.lin_order.specs.Configurations.{IsAdded, IsRising}
use Rattle.lin_members.specs.declared.members.Path.{Path}
use Rattle.lin_frontier.specs.declared.pending.Open.{Open}
use Rattle.lin_members.specs.Compressed.{IsSpelled, IsCovering}
use Rattle.lin_members.specs.Covers.{Covers, HasCrashed}
use Rattle.lin_frontier.specs.Frontiers.{IsPending}
use Rattle.lin_members.specs.Listed.{config_of, IsListingOf}
use Rattle.lin_members.specs.MemberLaws.{ListedLaw, ListingOkLaw}
use Rattle.lin_members.specs.Members.{Member, IsListed}
use Rattle.lin_members.specs.RoundLaws.{TrailOkLaw}
use Rattle.lin_members.specs.Searching.{rest_of, IsMade}
use Rattle.lin_frontier.specs.lemmas.Inserting.{without_is}
use Rattle.lin_configurations.specs.lemmas.Onward.{spelled_rising}
use Rattle.lin_lists.specs.lemmas.Filters.{from_map, in_map}
use Rattle.lin_compressed_frontier.proofs.Returned.{spelled_taken}

-- each configuration covers itself
covers_itself : {S : Type 0} (crashed : ℕ → Type 0) (c : S × List (ℕ × Reply)) → Covers crashed c c
covers_itself crashed c = record {
  state = refl;
  part = All-contains_itself c.1;
  rest = All-weaker (Contains c.1) (λ x. Contains c.1 x ⊎ crashed x.0) (λ x there. inl there) c.1 (All-contains_itself c.1);
}

module _ {S : Type 0} (start : S) (step : S → Call → S → Reply → Type 0) (observes : Call → Bool) (functions : Item → Name → Bool) (h : List Event) (event : Event) (well_formed : IsWellFormed functions (with_event h event))
    (pending : List Open) (opened : IsPending (with_event h event) pending) (alternating : WellFormedIsAlternating) (unique : EndsAreUnique) (name : Name) (reply : Reply) (body : event.body ≡ Ok name reply) where
  pub listing_taken : ListedLaw start step → ListingOkLaw start step → TrailOkLaw start step → (nodes : List (ℕ × (Placed × Option ℕ))) (list made : List (Member S × Path))
      → IsMade (λ m. Contains m.0.placed (event.process, reply)) (rest_of observes pending event.process) list made → IsListingOf start step observes h list nodes → IsCovering start step observes false (with_event h event) made nodes
  listing_taken listed ok trail nodes list made is l = record {
    complete = listed observes (with_event h event) (map (λ m. m.0) made) made_rising
        (ok functions h event name reply body well_formed (map (λ m. m.0) list) (map (λ m. m.0) made) rising each l.listing);
    spelled = spelled;
    overwritten = λ is. absurd (true≢false (sym is));
  }
    where
      rising : (m : Member S) → Contains (map (λ k. k.0) list) m → IsRising m.placed
      rising m there =
          let k = from_map (λ (x : Member S × Path). x.0) list m there in
          subst (λ (x : Member S). IsRising x.placed) k.2 (spelled_rising start step observes h nodes k.0 (l.spelled k.0 k.1))

      spelled : (n : Member S × Path) → Contains made n → IsSpelled start step observes (with_event h event) nodes n
      spelled n there =
          let s = is.sound n there in
          subst (IsSpelled start step observes (with_event h event) nodes) (sym s.3)
          (spelled_taken observes functions h event name reply body unique ((alternating functions (with_event h event)).0 well_formed) pending opened start step nodes well_formed trail s.0 (l.spelled s.0 s.1) s.2)

      made_rising : (m : Member S) → Contains (map (λ k. k.0) made) m → IsRising m.placed
      made_rising m there =
          let k = from_map (λ (x : Member S × Path). x.0) made m there in
          subst (λ (x : Member S). IsRising x.placed) k.2 (spelled_rising start step observes (with_event h event) nodes k.0 (spelled k.0 k.1))

      each : (m : Member S) (without : List (ℕ × Reply)) → Contains (map (λ k. k.0) list) m → IsAdded event.process reply without m.placed → IsListed (with_event h event) (map (λ k. k.0) made) (m.state, without)
      each m without there added =
          let k = from_map (λ (x : Member S × Path). x.0) list m there in
          subst (λ (x : Member S). IsAdded event.process reply without x.placed → IsListed (with_event h event) (map (λ k. k.0) made) (x.state, without)) k.2 (of k.0 k.1) added
        where
          of : (k : Member S × Path) → Contains list k → IsAdded event.process reply without k.0.placed → IsListed (with_event h event) (map (λ k. k.0) made) (k.0.state, without)
          of k within a =
              let n = rest_of observes pending event.process k in (
                n.0,
                in_map (λ (x : Member S × Path). x.0) made n (is.complete k within a.has),
                subst (λ p. Covers (HasCrashed (with_event h event)) (n.0.state, n.0.placed) (k.0.state, p)) (sym (without_is event.process reply without k.0.placed a)) (covers_itself (HasCrashed (with_event h event)) (config_of n)),
              )
