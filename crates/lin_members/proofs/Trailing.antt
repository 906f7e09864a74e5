-- The rounds of members: within one history, and after one more event.
use Rattle.std.proofs.Common.{◌≡◌, ℕ, Bool, true, List, [], ◌∷◌, ◌++◌, Contains, inl, inr, refl, ap, subst, ◌∙◌, arith}
use Rattle.std.proofs.lemmas.Option.{slice_get_within}
use Rattle.lin_events.specs.declared.items.Item.{Item}
use Rattle.lin_events.specs.declared.calls.Call.{Call}
use Rattle.lin_events.specs.declared.calls.Name.{Name}
use Rattle.lin_events.specs.declared.calls.Reply.{Reply}
use Rattle.lin_events.specs.declared.events.Event.{Event}
use Rattle.lin_events.specs.Alternation.{IsAlternating}
use Rattle.lin_events.specs.Operations.{IsOpen}
use Rattle.lin_events.specs.WellFormedLaws.{WellFormedIsAlternating}
use Rattle.lin_events.specs.lemmas.OneMore.{alternates_before, end_before, one_open, open_kept, open_other, operation_kept}
use Rattle.lin_objects.specs.Observing.{IsObserving}
use Rattle.lin_order.specs.declared.placed.Placed.{Placed}
use Rattle.lin_order.specs.Configurations.{EndsIn, IsAdded, IsPlacing}
use Rattle.lin_order.specs.ConfigurationLaws.{with_event, AtStart, FailLaw, InfoLaw, InvocationLaw, OkLaw, PlacingIsLegal}
use Rattle.lin_members.specs.Members.{Member}
use Rattle.lin_members.specs.Rounds.{joined, put, begin_round, IsOfferedIn, IsTrail, IsTrailOf}
use Rattle.lin_members.specs.RoundLaws.{IsOfferFrom, OffersFrom, TrailStartLaw, TrailEndsLaw, FewerLaw, TrailPlacesLaw, TrailTakesLaw, TrailInvocationLaw, TrailInfoLaw, TrailFailLaw, TrailOkLaw, TrailObserverLaw, TrailReturnLaw, ExactLaw}
use Rattle.lin_members.specs.lemmas.Choosing.{can_add, nothing_in}
use Rattle.lin_members.specs.lemmas.Crashes.{info_no_fail, info_no_ok, invoke_no_fail, invoke_no_ok}
use Rattle.lin_members.specs.lemmas.Exchanging.{open_call}
use Rattle.lin_members.specs.lemmas.Joining.{runs_by_again}
use Rattle.lin_members.specs.lemmas.Putting.{offer_longer, offer_put, trail_ends, trail_place, trail_present, trail_put}

module _ {S : Type 0} (start : S) (step : S → Call → S → Reply → Type 0) where
  pub trail_start_law : AtStart start step → TrailStartLaw start step
  trail_start_law law observes = record {
    trail = record { begun = omega arith; order_of = law.0.order_of; runs = (refl, refl); placed = law.0.placed };
    offered = λ round x there. absurd (nothing_in (round, x) there);
  }

  pub trail_ends_law : TrailEndsLaw start step
  trail_ends_law observes h states rounds m is = trail_ends start step observes h states rounds (m.state, m.placed) is.trail

  -- of an equal state and equal operations
  pub trail_as : (h : List Event) (states : List S) (rounds : List (List Placed)) (c d : S × List (ℕ × Reply)) → c.0 ≡ d.0 → c.1 ≡ d.1 → IsTrail start step h states rounds c → IsTrail start step h states rounds d
  trail_as h states rounds c d same_state same_placed is = subst (IsTrail start step h states rounds) (λ i. (same_state i, same_placed i)) is

  pub fewer_law : FewerLaw start step
  fewer_law observes h states rounds m n same_state same_placed fewer is = record {
    trail = trail_as h states rounds (m.state, m.placed) (n.state, n.placed) same_state same_placed is.trail;
    offered = λ round x there. is.offered round x (fewer (round, x) there);
  }

  module _ (observes : Call → Bool) (functions : Item → Name → Bool) (h : List Event) (alternates : IsAlternating functions h) (states : List S) (rounds : List (List Placed)) (m : Member S)
      (is : IsTrailOf start step observes h states rounds m) where
    pub places : PlacingIsLegal start step → (n : Member S) (p : Placed) → IsPlacing step h (m.state, m.placed) p (n.state, n.placed) → OffersFrom step observes h rounds m n
        → IsTrailOf start step observes h (states ++ n.state ∷ []) (begin_round p rounds) n
    places law n p placing from = record {
      trail = trail_place start step observes h law states rounds (m.state, m.placed) (n.state, n.placed) p is.trail placing;
      offered = λ round x there. elim (from round x there) [
        | inl old ↦ let o = is.offered round x old in (o.0, longer round o.0 x o.1)
        | inr new ↦ (
          new.2.at,
          longer round new.2.at x (trail_present start step observes h states rounds (m.state, m.placed) is.trail round new.0 x new.2
              (ap observes (open_call functions h alternates new.2.at new.1.at x.0 new.2.key new.1.key new.2.call new.1.call new.2.is_open new.1.is_open) ∙ new.1.observer)),
        )
      ];
    }
      where
        longer : (round at : ℕ) (x : ℕ × Reply) → IsOfferedIn step observes h states rounds round at x → IsOfferedIn step observes h (states ++ n.state ∷ []) (begin_round p rounds) round at x
        longer round at x o = offer_longer start step observes h states rounds n.state p placing.process placing.key placing.call placing.is_open round at x o

    -- a reply that a round offers was offered in it, to the open operation
    offered_at : (at process : ℕ) (key : Item) (call : Call) (reply : Reply) → IsOpen h at process key call → observes call ≡ true → (round : ℕ) → IsOfferFrom step h rounds m round (process, reply)
        → IsOfferedIn step observes h states rounds round at (process, reply)
    offered_at at process key call reply is_open observer round (inl old) =
        let o = is.offered round (process, reply) old in
        subst (λ k. IsOfferedIn step observes h states rounds round k (process, reply)) (one_open functions h alternates o.0 at process o.1.key key o.1.call call o.1.is_open is_open) o.1
    offered_at at process key call reply is_open observer round (inr now) =
        subst (λ k. IsOfferedIn step observes h states rounds round k (process, reply)) (one_open functions h alternates now.1.at at process now.1.key key now.1.call call now.1.is_open is_open)
        (trail_present start step observes h states rounds (m.state, m.placed) is.trail round now.0 (process, reply) now.1
        (ap observes (open_call functions h alternates now.1.at at process now.1.key key now.1.call call now.1.is_open is_open) ∙ observer))

    pub takes : IsObserving step observes → (n : Member S) (p : Placed) (process : ℕ) (key : Item) (call : Call) → IsOpen h p.at process key call → observes call ≡ true
        → (round : ℕ) → IsOfferFrom step h rounds m round (process, p.reply) → m.state ≡ n.state → IsAdded process p.reply m.placed n.placed
        → ((x : ℕ × (ℕ × Reply)) → Contains n.offers x → Contains m.offers x) → IsTrailOf start step observes h states (put round p rounds) n
    takes observing n p process key call is_open observer round offer same added fewer = record {
      trail = trail_as h states (put round p rounds) (m.state, n.placed) (n.state, n.placed) same refl
          (trail_put start step observes h observing states rounds (m.state, m.placed) is.trail round process p (offered_at p.at process key call p.reply is_open observer round offer) n.placed added);
      offered = λ k x there. let o = is.offered k x (fewer (k, x) there) in (o.0, offer_put start step observes h states rounds round p process key call is_open k o.0 x o.1);
    }

module _ {S : Type 0} (start : S) (step : S → Call → S → Reply → Type 0) (observes : Call → Bool) (h : List Event) (event : Event) where
  -- an offer stays one while its operation is open
  offer_kept : (states : List S) (rounds : List (List Placed)) (round at : ℕ) (x : ℕ × Reply) → (o : IsOfferedIn step observes h states rounds round at x) → IsOpen (with_event h event) at x.0 o.key o.call
      → IsOfferedIn step observes (with_event h event) states rounds round at x
  offer_kept states rounds round at x o is_open = record {
    key = o.key;
    call = o.call;
    is_open = is_open;
    observer = o.observer;
    state = o.state;
    there = o.there;
    next = o.next;
    steps = o.steps;
    late = λ j later after is y there b.
        let inside = slice_get_within h at _ o.is_open.begins in
        let early = b.3 in
        o.late j later after is y there (b.0, b.1, (b.2.0, end_before h event y.at b.0 b.2.0 (omega arith) b.2.1, b.2.2, b.2.3), b.3);
  }

  -- the rounds of a member after an event, where they spell what they should
  pub trail_kept : (states : List S) (rounds : List (List Placed)) (m n : Member S) → IsTrailOf start step observes h states rounds m → m.state ≡ n.state
      → EndsIn start step (with_event h event) (joined rounds) (m.state, n.placed) → ((x : ℕ × (ℕ × Reply)) → Contains n.offers x → Contains m.offers x)
      → ((round : ℕ) (x : ℕ × Reply) → Contains n.offers (round, x) → (at : ℕ) (key : Item) (call : Call) → IsOpen h at x.0 key call → IsOpen (with_event h event) at x.0 key call)
      → IsTrailOf start step observes (with_event h event) states rounds n
  trail_kept states rounds m n is same ends fewer opens = record {
    trail = trail_as start step (with_event h event) states rounds (m.state, n.placed) (n.state, n.placed) same refl (record {
      begun = is.trail.begun;
      order_of = ends.order_of;
      runs = runs_by_again step h (with_event h event) (λ at call c. (c.0, c.1, operation_kept h event at c.0 c.1 call c.2)) states rounds start m.state is.trail.runs;
      placed = ends.placed;
    });
    offered = λ round x there.
        let o = is.offered round x (fewer (round, x) there) in
        (o.0, offer_kept states rounds round o.0 x o.1 (opens round x there o.0 o.1.key o.1.call o.1.is_open));
  }

  pub trail_ok : (states : List S) (rounds : List (List Placed)) (m n : Member S) → IsTrailOf start step observes h states rounds m → m.state ≡ n.state
      → EndsIn start step (with_event h event) (joined rounds) (m.state, n.placed) → ((x : ℕ × (ℕ × Reply)) → Contains n.offers x → Contains m.offers x)
      → ((round : ℕ) (other : Reply) → Contains n.offers (round, (event.process, other)) → ⊥) → IsTrailOf start step observes (with_event h event) states rounds n
  trail_ok states rounds m n is same ends fewer none = trail_kept states rounds m n is same ends fewer
      (λ round x there at key call is_open. open_other h event at x.0 key call (λ own. none round x.1 (subst (λ q. Contains n.offers (round, (q, x.1))) own there)) is_open)

module _ {S : Type 0} (start : S) (step : S → Call → S → Reply → Type 0) (alternating : WellFormedIsAlternating) where
  pub trail_places_law : PlacingIsLegal start step → TrailPlacesLaw start step
  trail_places_law law observes functions h well_formed states rounds m n is p placing from =
      places start step observes functions h ((alternating functions h).0 well_formed) states rounds m is law n p placing from

  pub trail_takes_law : TrailTakesLaw start step
  trail_takes_law observes observing functions h well_formed states rounds m n is p process key call is_open observer round offer same added fewer =
      takes start step observes functions h ((alternating functions h).0 well_formed) states rounds m is observing n p process key call is_open observer round offer same added fewer

  pub trail_invocation_law : InvocationLaw start step → TrailInvocationLaw start step
  trail_invocation_law law observes functions h event call body well_formed states rounds m is =
      trail_kept start step observes h event states rounds m m is refl
      ((law functions h event call body well_formed).stays (joined rounds) (m.state, m.placed) (trail_ends start step observes h states rounds (m.state, m.placed) is.trail))
      (λ x there. there) (λ round x there at key c is_open. open_kept h event (λ name reply. invoke_no_ok body name reply) (λ name. invoke_no_fail body name) at x.0 key c is_open)

  pub trail_info_law : InfoLaw start step → TrailInfoLaw start step
  trail_info_law law observes functions h event name body well_formed states rounds m is =
      trail_kept start step observes h event states rounds m m is refl
      ((law functions h event name body well_formed (joined rounds) (m.state, m.placed)).1 (trail_ends start step observes h states rounds (m.state, m.placed) is.trail))
      (λ x there. there) (λ round x there at key c is_open. open_kept h event (λ other reply. info_no_ok body other reply) (λ other. info_no_fail body other) at x.0 key c is_open)

  pub trail_fail_law : FailLaw start step → TrailFailLaw start step
  trail_fail_law law observes functions h event name body well_formed states rounds m absent none is =
      trail_ok start step observes h event states rounds m m is refl
      ((law functions h event name body well_formed (joined rounds) (m.state, m.placed)).1 (trail_ends start step observes h states rounds (m.state, m.placed) is.trail, absent))
      (λ x there. there) none

  pub trail_ok_law : OkLaw start step → TrailOkLaw start step
  trail_ok_law law observes functions h event name reply body well_formed states rounds m n same added fewer none is =
      trail_ok start step observes h event states rounds m n is same
      ((law functions h event name reply body well_formed).kept (joined rounds) (m.state, n.placed) m.placed (trail_ends start step observes h states rounds (m.state, m.placed) is.trail) added)
      fewer none

  pub trail_observer_law : OkLaw start step → TrailObserverLaw start step
  trail_observer_law law observes observing functions h event name reply body well_formed states rounds m n is at key call is_open observer round offer absent same_state same_placed fewer none =
      trail_ok_law law observes functions h event name reply body well_formed states (put round (record { at = at; reply = reply }) rounds) (record { state = m.state; placed = wider.0; offers = m.offers }) n same_state
      (subst (λ l. IsAdded event.process reply l wider.0) same_placed wider.1) fewer none
      (takes start step observes functions h (alternates_before h event functions ((alternating functions (with_event h event)).0 well_formed)) states rounds m is observing
      (record { state = m.state; placed = wider.0; offers = m.offers }) (record { at = at; reply = reply }) event.process key call is_open observer round offer refl wider.1 (λ x there. there))
    where
      wider : (placed : List (ℕ × Reply)) × IsAdded event.process reply m.placed placed
      wider = can_add event.process reply m.placed is.trail.placed.rising absent

  pub trail_return_law : OkLaw start step → PlacingIsLegal start step → TrailReturnLaw start step
  trail_return_law law legal observes functions h event name reply body well_formed states rounds m n is p placed placing same_process same_reply same_placed from none =
      trail_ok_law law observes functions h event name reply body well_formed (states ++ n.state ∷ []) (begin_round p rounds) (record { state = n.state; placed = placed; offers = n.offers }) n refl
      (subst (λ l. IsAdded event.process reply l placed) same_placed (subst (λ r. IsAdded event.process r m.placed placed) same_reply (subst (λ q. IsAdded q p.reply m.placed placed) same_process placing.added)))
      (λ x there. there) none
      (places start step observes functions h (alternates_before h event functions ((alternating functions (with_event h event)).0 well_formed)) states rounds m is legal
      (record { state = n.state; placed = placed; offers = n.offers }) p placing from)

pub exact_law : {S : Type 0} (start : S) (step : S → Call → S → Reply → Type 0) → ExactLaw start step
exact_law start step observes h members complete trails = (
  λ some. let found = complete some.0 some.1 in (found.member, found.among),
  λ m. let is = trails m.0 m.1 in ((m.0.state, m.0.placed), (joined is.1, trail_ends start step observes h is.0 is.1 (m.0.state, m.0.placed) is.2.trail)),
)
