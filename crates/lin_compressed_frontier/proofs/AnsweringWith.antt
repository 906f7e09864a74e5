-- After an ok the members still lead to all configurations, with overwritten updates.
use Rattle.std.proofs.Common.{◌≡◌, ◌≢◌, ◌⊎◌, ℕ, ◌<◌, Bool, true, false, List, length, Contains, inl, inr, refl, sym, ap, subst, ◌∙◌, arith, Option, true≢false}
use Rattle.lin_events.specs.declared.items.Item.{Item}
use Rattle.lin_events.specs.declared.calls.Call.{Call}
use Rattle.lin_events.specs.declared.calls.Name.{Name}
use Rattle.lin_events.specs.declared.calls.Reply.{Reply}
use Rattle.lin_events.specs.declared.events.Body.TheVariants.{Ok}
use Rattle.lin_events.specs.declared.events.Event.{Event}
use Rattle.lin_events.specs.Alternation.{IsAlternating}
use Rattle.lin_events.specs.Operations.{IsOpen}
use Rattle.lin_events.specs.WellFormed.{IsWellFormed}
use Rattle.lin_events.specs.WellFormedLaws.{EndsAreUnique}
use Rattle.lin_events.specs.lemmas.OneMore.{one_open}
use Rattle.lin_objects.specs.Overwriting.{IsOverwriting}
use Rattle.lin_order.specs.declared.placed.Placed.{Placed}
use Rattle.lin_order.specs.ConfigurationLaws.{with_event}
use Rattle.lin_order.specs.Configurations.{IsRising}
use Rattle.lin_members.specs.declared.members.Path.{Path}
use Rattle.lin_frontier.specs.declared.pending.Open.{Open}
use Rattle.lin_members.specs.Asking.{early_of, AreAhead, AreAsked, AreFoundWith, IsAskedLikeAhead, IsAskedLikeBehind, IsReturnWith}
use Rattle.lin_members.specs.Exchanges.{AreAlike}
use Rattle.lin_frontier.specs.Frontiers.{IsPending}
use Rattle.lin_members.specs.Members.{Member, DominatesAt, IsGiven, IsOnOffer, IsWatching}
use Rattle.lin_members.specs.Overwritten.{IsCompleteWith, IsEarlyGiven, IsEarlyUpdate}
use Rattle.lin_members.specs.OverwrittenLaws.{AreReached, IsAskedFor, IsHeldUntil, IsHeldWith, IsLike, IsTakenWith, ObserverWithLaw, UpdateWithLaw}
use Rattle.lin_frontier.specs.Placing.{IsAbsent, insert_pair}
use Rattle.lin_members.specs.Searching.{is_watching, rest_of, AreBehind, GivesAny, PlacesIfUpdate, StandsFor}
use Rattle.lin_compressed_frontier.proofs.Answering.{gives, never_given, never_offered, other_open, pending_alike, rest_dominates, same_call, watches}
use Rattle.lin_compressed_frontier.proofs.Early.{early_from, in_early, watching_early}
use Rattle.lin_frontier.specs.lemmas.Inserting.{absent_from, insert_is, kept_by, none_from}
use Rattle.lin_members.specs.lemmas.Pruned.{copy_dominates}
use Rattle.lin_compressed_frontier.proofs.Returned.{passes, was_open}

module _ (observes : Call → Bool) (functions : Item → Name → Bool) (h : List Event) (event : Event) (name : Name) (reply : Reply) (body : event.body ≡ Ok name reply)
    (unique : EndsAreUnique) (alternates : IsAlternating functions (with_event h event)) (pending : List Open) (opened : IsPending (with_event h event) pending)
    {S : Type 0} (start : S) (step : S → Call → S → Reply → Type 0) (over : IsOverwriting start step observes) (before : List Open) (was : IsPending h before) (alternates_before : IsAlternating functions h)
    (o : Open) (o_there : Contains before o) (o_of : o.process ≡ event.process) where
  abbrev g : List Event
  g = with_event h event

  own_call : (at : ℕ) (key : Item) (call : Call) → IsOpen h at event.process key call → call ≡ o.call
  own_call = same_call observes functions h event name reply body unique alternates pending opened step before was alternates_before o o_there o_of

  own_place : (at : ℕ) (key : Item) (call : Call) → IsOpen h at event.process key call → at ≡ o.at
  own_place at key call is = let s = was.sound o o_there in one_open functions h alternates_before at o.at event.process key s.0 call o.call is (subst (λ q. IsOpen h o.at q s.0 o.call) o_of s.1)

  not_own : (q : ℕ) → IsWatching observes g q → q ≢ event.process
  not_own q w same = (passes observes functions h event name reply body unique alternates pending opened).shut w.at q w.key w.call same w.is_open

  still_open : (at q : ℕ) (key : Item) (call : Call) → q ≢ event.process → IsOpen h at q key call → (t : Open) × Contains pending t × (t.at ≡ at) × (t.process ≡ q) × (t.call ≡ call)
  still_open = other_open observes functions h event name reply body unique alternates pending opened

  waits : (q : ℕ) → IsWatching observes g q → is_watching observes pending q ≡ true
  waits = watches observes functions h event name reply body unique alternates pending opened

  -- a pending operation was open before
  opened_before : (t : Open) → Contains pending t → (key : Item) × IsOpen h t.at t.process key t.call
  opened_before t there = let s = opened.sound t there in (s.0, was_open observes functions h event name reply body unique alternates pending opened t.at t.process s.0 t.call s.1)

  -- what a state gives to an early operation
  gives_early : (until : ℕ) (c : S × List (ℕ × Reply)) (x : ℕ × Reply) → IsWatching observes g x.0 → IsAbsent x.0 c.1 → IsEarlyGiven step h until c.0 x → GivesAny step observes (early_of until pending) c x
  gives_early until c x watching absent given =
      let t = gives observes functions h event name reply body unique alternates pending opened step c x (not_own x.0 watching) (waits x.0 watching) absent given.0 in
      let s = opened_before t.0 t.1 in
      let same : t.0.at ≡ given.0.at =
      one_open functions h alternates_before t.0.at given.0.at x.0 s.0 given.0.key t.0.call given.0.call (subst (λ q. IsOpen h t.0.at q s.0 t.0.call) (sym t.2.3.0) s.1) given.0.is_open in
      let early = in_early until pending t.0 t.1 (subst (λ k. k < until) (sym same) given.1) in
      (t.0, early, (t.2.0, watching_early until pending observes t.0 early t.2.0 t.2.1, t.2.2, t.2.3))

  module _ (m : Member S × Path) where
    was_on_offer : (x : ℕ × Reply) → IsWatching observes g x.0 → (old : IsOnOffer m.0 x) → Contains (rest_of observes pending event.process m).0.offers (old.0, x)
    was_on_offer x watching old = kept_by (λ (y : ℕ × (ℕ × Reply)). is_watching observes pending y.1.0) m.0.offers (old.0, x) (waits x.0 watching) old.1

    -- what is on offer behind the member
    offered_behind : (offers : List (ℕ × (ℕ × Reply))) → AreBehind step observes pending m offers → (x : ℕ × Reply) → IsWatching observes g x.0 → ((other : Reply) → Contains m.0.placed (x.0, other) → ⊥)
        → IsOnOffer m.0 x ⊎ IsGiven step h m.0.state x → (k : ℕ) × Contains offers (k, x)
    offered_behind offers behind x watching absent had = elim had [
      | inl old ↦ (old.0, behind.kept (old.0, x) (was_on_offer x watching old))
      | inr given ↦ behind.complete x (gives observes functions h event name reply body unique alternates pending opened step (m.0.state, m.0.placed) x (not_own x.0 watching) (waits x.0 watching) (absent_from x.0 m.0.placed absent) given)
    ]

    -- with an update ahead of the last one
    offered_ahead : (nodes : List (ℕ × (Placed × Option ℕ))) (next : S) (placed : List (ℕ × Reply)) (offers : List (ℕ × (ℕ × Reply))) → AreAhead step observes o reply pending nodes (length h) m (next, placed) offers
        → (x : ℕ × Reply) → IsWatching observes g x.0 → ((other : Reply) → Contains placed (x.0, other) → ⊥) → IsOnOffer m.0 x ⊎ IsEarlyGiven step h m.1.until next x → (k : ℕ) × Contains offers (k, x)
    offered_ahead nodes next placed offers ahead x watching absent had = elim had [
      | inl old ↦ (old.0, ahead.kept (old.0, x) (was_on_offer x watching old))
      | inr given ↦ ahead.complete x (gives_early m.1.until (next, placed) x watching (absent_from x.0 placed absent) given)
    ]

  -- what stands for an operation has its call
  call_of : (t s : Open) → StandsFor t s → t.call ≡ s.call
  call_of t s stands = elim stands [
    | inl same ↦ ap (λ (k : Open). k.call) same
    | inr both ↦ both.2
  ]

  like_of : (t s : Open) (x : ℕ × Reply) → Contains pending t → Contains pending s → StandsFor t s → s.process ≡ x.0 → IsLike h x (t.process, x.1)
  like_of t s x t_there s_there stands of = elim stands [
    | inl same ↦ inl (λ i. ((sym of ∙ ap (λ (k : Open). k.process) (sym same)) i, x.1))
    | inr both ↦ inr (
      subst (λ q. AreAlike h q t.process) of (pending_alike observes functions h event name reply body unique alternates pending opened s t s_there t_there both.1 both.0 (sym both.2)),
      refl,
    )
  ]

  module _ (nodes : List (ℕ × (Placed × Option ℕ))) (members out : List (Member S × Path)) (r : IsReturnWith step observes o reply pending nodes (length h) members out)
      (rising : (m : Member S × Path) → Contains members m → IsRising m.0.placed) (reached : AreReached start step members) where
    taken_with : (m : Member S × Path) → Contains members m → IsTakenWith observes g event.process reply out m
    taken_with m there rest added = (
      rest_of observes pending event.process m,
      subst (λ q. Contains m.0.placed (q, reply) → Contains out (rest_of observes pending q m)) o_of (r.taken m there) added.has,
      rest_dominates observes functions h event name reply body unique alternates pending opened step m rest added,
      omega arith,
    )

    found_with : (m : Member S × Path) → Contains members m → ((other : Reply) → Contains m.0.placed (event.process, other) → ⊥) → AreFoundWith step observes o reply pending nodes (length h) m out
    found_with m there absent = r.found m there (subst (λ q. IsAbsent q m.0.placed) (sym o_of) (absent_from event.process m.0.placed absent))

    -- an update returned behind all
    returned_behind : observes o.call ≡ false → (m : Member S × Path) → Contains members m → ((other : Reply) → Contains m.0.placed (event.process, other) → ⊥) → (at : ℕ) (key : Item) (call : Call) (next : S)
        → IsOpen h at event.process key call → step m.0.state call next reply → IsHeldUntil observes g out next m.0.placed (λ x. IsOnOffer m.0 x ⊎ IsGiven step h m.0.state x) (length h)
    returned_behind update m there absent at key call next is steps =
        let n = ((found_with m there absent).returns update next (subst (λ a. step m.0.state a next reply) (own_call at key call is) steps)).behind in (
          n.0,
          n.1,
          record {
            sorted = subst IsRising (sym n.2.placed) (rising m there);
            same = n.3;
            part = λ x has. subst (λ l. Contains l x) n.2.placed has;
            rest = λ x has. inl (subst (λ l. Contains l x) (sym n.2.placed) has);
            offered = λ x watching none had. offered_behind m n.0.0.offers n.2.offers x watching (λ other has. none other (subst (λ l. Contains l (x.0, other)) (sym n.2.placed) has)) had;
          },
          omega (arith, n.2.until),
        )

    -- and ahead of the last one
    returned_ahead : observes o.call ≡ false → (m : Member S × Path) → Contains members m → ((other : Reply) → Contains m.0.placed (event.process, other) → ⊥) → (next : S)
        → IsEarlyUpdate step observes h m.1.until (event.process, reply) next → IsHeldUntil observes g out m.0.state m.0.placed (λ x. IsOnOffer m.0 x ⊎ IsEarlyGiven step h m.1.until next x) m.1.until
    returned_ahead update m there absent next e =
        let steps = (over e.call e.update e.from m.0.state next reply e.steps).0 (reached m there) in
        let n = ((found_with m there absent).returns update next (subst (λ a. step m.0.state a next reply) (own_call e.at e.key e.call e.is_open) steps)).ahead (subst (λ k. k < m.1.until) (own_place e.at e.key e.call e.is_open) e.early) in (
          n.0,
          n.1,
          record {
            sorted = subst IsRising (sym n.2.placed) (rising m there);
            same = n.2.state;
            part = λ x has. subst (λ l. Contains l x) n.2.placed has;
            rest = λ x has. inl (subst (λ l. Contains l x) (sym n.2.placed) has);
            offered = λ x watching none had. offered_ahead m nodes next m.0.placed n.0.0.offers n.2.offers x watching (λ other has. none other (subst (λ l. Contains l (x.0, other)) (sym n.2.placed) has)) had;
          },
          omega (arith, n.2.ahead.until),
        )

    module _ (observer : observes o.call ≡ true) (m : Member S × Path) (inside : Contains members m) (asked : AreAsked step observes o reply pending nodes (length h) m out) where
      other : (at : ℕ) (q : ℕ) (key : Item) (call : Call) → IsOpen h at q key call → observes call ≡ false → q ≢ event.process
      other at q key call is update same = true≢false (sym observer ∙ ap observes (sym (own_call at key call (subst (λ p. IsOpen h at p key call) same is))) ∙ update)

      gives_it : (next : S) → IsGiven step h next (event.process, reply) → (last : S) × step next o.call last reply
      gives_it next given = (given.next, subst (λ a. step next a given.next reply) (own_call given.at given.key given.call given.is_open) given.steps)

      places : (t : Open) (x : ℕ × Reply) (call : Call) (next : S) → t.process ≡ x.0 → t.call ≡ call → observes call ≡ false → step m.0.state call next x.1 → ((other : Reply) → Contains m.0.placed (x.0, other) → ⊥)
          → PlacesIfUpdate step observes t (m.0.state, m.0.placed) (record { at = t.at; reply = x.1 }) (next, insert_pair t.process x.1 m.0.placed)
      places t x call next of same update steps absent = (
        ap observes same ∙ update,
        record {
          absent = subst (λ q. IsAbsent q m.0.placed) (sym of) (absent_from x.0 m.0.placed absent);
          at = refl;
          steps = subst (λ a. step m.0.state a next x.1) (sym same) steps;
          placed = refl;
        },
      )

      -- an early update that gives the observer its reply, placed ahead of the last one
      asked_ahead : (x : ℕ × Reply) (next : S) → IsEarlyUpdate step observes h m.1.until x next → ((other : Reply) → Contains m.0.placed (x.0, other) → ⊥) → IsEarlyGiven step h m.1.until next (event.process, reply)
          → IsHeldWith observes h g out m.0.placed x (λ y. IsEarlyUpdate step observes h m.1.until y next) m.0.state (λ z. IsOnOffer m.0 z ⊎ IsEarlyGiven step h m.1.until next z) m.1.until
      asked_ahead x next e absent given = record {
        y = (l.placed.process, x.1);
        like = like_of l.placed t.0 x l_early.0 t.1 l.stands t.3;
        holds = record {
          at = l.placed.at;
          key = (opened_before l.placed l_early.0).0;
          call = l.placed.call;
          is_open = (opened_before l.placed l_early.0).1;
          update = ap observes same ∙ e.update;
          early = l_early.1;
          from = m.0.state;
          steps = subst (λ a. step m.0.state a next x.1) (sym same) steps;
        };
        absent = none_from l.placed.process m.0.placed l.absent;
        held = λ wider added.
            let is : l.member.0.placed ≡ wider = l.has ∙ sym (insert_is l.placed.process x.1 m.0.placed wider added) in (
              l.member,
              l.there,
              record {
                sorted = subst IsRising (sym is) added.rising;
                same = l.asked.state;
                part = λ z has. subst (λ k. Contains k z) is has;
                rest = λ z has. inl (subst (λ k. Contains k z) (sym is) has);
                offered = λ z watching none had. offered_ahead m nodes next l.member.0.placed l.member.0.offers l.asked.offers z watching none had;
              },
              omega (arith, l.asked.puts.until, l.asked.ahead.until),
            );
      }
        where
          steps : step m.0.state e.call next x.1
          steps = (over e.call e.update e.from m.0.state next x.1 e.steps).0 (reached m inside)

          t : (t : Open) × Contains pending t × (t.at ≡ e.at) × (t.process ≡ x.0) × (t.call ≡ e.call)
          t = still_open e.at x.0 e.key e.call (other e.at x.0 e.key e.call e.is_open e.update) e.is_open

          l : IsAskedLikeAhead step observes o reply pending nodes (length h) m out t.0 x.1 next
          l = asked.ahead (subst (λ k. k < m.1.until) (own_place given.0.at given.0.key given.0.call given.0.is_open) given.1) t.0 (record { at = t.0.at; reply = x.1 }) (next, insert_pair t.0.process x.1 m.0.placed)
              (in_early m.1.until pending t.0 t.1 (subst (λ k. k < m.1.until) (sym t.2) e.early)) (places t.0 x e.call next t.3 t.4 e.update steps absent) (gives_it next given.0)

          l_early : Contains pending l.placed × (l.placed.at < m.1.until)
          l_early = early_from m.1.until pending l.placed l.among

          same : l.placed.call ≡ e.call
          same = call_of l.placed t.0 l.stands ∙ t.4

      -- an update that gives it, placed behind all
      asked_behind : (x : ℕ × Reply) (at : ℕ) (key : Item) (call : Call) (next : S) → IsOpen h at x.0 key call → observes call ≡ false → step m.0.state call next x.1 → ((other : Reply) → Contains m.0.placed (x.0, other) → ⊥)
          → IsGiven step h next (event.process, reply) → IsHeldWith observes h g out m.0.placed x (λ y. Unit {0}) next (λ z. IsOnOffer m.0 z ⊎ IsGiven step h m.0.state z) (length h)
      asked_behind x at key call next is update steps absent given = record {
        y = (l.placed.process, x.1);
        like = like_of l.placed t.0 x l.among t.1 l.stands t.3;
        holds = tt;
        absent = none_from l.placed.process m.0.placed l.absent;
        held = λ wider added.
            let is : l.member.0.placed ≡ wider = l.has ∙ sym (insert_is l.placed.process x.1 m.0.placed wider added) in (
              l.member,
              l.there,
              record {
                sorted = subst IsRising (sym is) added.rising;
                same = l.state;
                part = λ z has. subst (λ k. Contains k z) is has;
                rest = λ z has. inl (subst (λ k. Contains k z) (sym is) has);
                offered = λ z watching none had. offered_behind m l.member.0.offers l.asked.offers z watching (λ r has. none r (subst (λ k. Contains k (z.0, r)) (sym is) (added.kept (z.0, r) has))) had;
              },
              omega (arith, l.asked.puts.until, l.asked.begun),
            );
      }
        where
          t : (t : Open) × Contains pending t × (t.at ≡ at) × (t.process ≡ x.0) × (t.call ≡ call)
          t = still_open at x.0 key call (other at x.0 key call is update) is

          l : IsAskedLikeBehind step observes o reply pending nodes (length h) m out t.0 x.1 next
          l = asked.behind t.0 (record { at = t.0.at; reply = x.1 }) (next, insert_pair t.0.process x.1 m.0.placed) t.1 (places t.0 x call next t.3 t.4 update steps absent) (gives_it next given)

    -- an observer returned
    answered : observes o.call ≡ true → (m : Member S × Path) → Contains members m → ((other : Reply) → Contains m.0.placed (event.process, other) → ⊥)
        → IsHeldUntil observes g out m.0.state m.0.placed (IsOnOffer m.0) m.1.until
        ⊎ ((IsOnOffer m.0 (event.process, reply) → ⊥) × (IsGiven step h m.0.state (event.process, reply) → ⊥) × IsAskedFor step observes h g event.process reply out m)
    answered observer m there absent = elim ((found_with m there absent).asks observer) [
      | inl done ↦ inl (
        done.0,
        done.1,
        subst (λ (k : Member S). DominatesAt observes g k m.0.state m.0.placed (IsOnOffer m.0)) (sym done.2.answered.same)
            (copy_dominates functions (with_event h event) pending opened unique alternates observes m (rising m there)),
        omega (arith, done.2.until),
      )
      | inr asked ↦ inr (
        never_offered observes functions h event name reply body unique alternates pending opened step before was alternates_before o o_there o_of m asked.never,
        never_given observes functions h event name reply body unique alternates pending opened step before was alternates_before o o_there o_of m asked.never,
        record { before = asked_ahead observer m there asked; behind = asked_behind observer m there asked },
      )
    ]

    pub returned_complete_with : IsWellFormed functions (with_event h event) → UpdateWithLaw start step → ObserverWithLaw start step → IsCompleteWith start step observes h members
        → IsCompleteWith start step observes (with_event h event) out
    returned_complete_with well_formed by_update by_observer complete = by (observes o.call) refl
      where
        by : (b : Bool) → observes o.call ≡ b → IsCompleteWith start step observes (with_event h event) out
        by true e =
            by_observer observes over functions h event name reply body well_formed (λ at key call is. ap observes (own_call at key call is) ∙ e) members out reached taken_with (answered e) complete
        by false e =
            by_update observes over functions h event name reply body well_formed (λ at key call is. ap observes (own_call at key call is) ∙ e) members out reached taken_with (returned_ahead e) (returned_behind e) complete
