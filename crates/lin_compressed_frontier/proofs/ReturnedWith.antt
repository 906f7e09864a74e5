-- The rounds of members after an ok, where updates are overwritten, and that the members still cover the history.
use Rattle.std.proofs.Common.{◌≡◌, ◌⊎◌, ℕ, suc, ◌+◌, ◌<◌, Bool, true, List, [], ◌∷◌, ◌++◌, length, length-append, Contains, inl, inr, refl, sym, ap, subst, ◌∙◌, arith, Option}
use Rattle.std.proofs.lemmas.List.Elements.{Contains-append_right}
use Rattle.lin_events.specs.declared.items.Item.{Item}
use Rattle.lin_events.specs.declared.calls.Call.{Call}
use Rattle.lin_events.specs.declared.calls.Name.{Name}
use Rattle.lin_events.specs.declared.calls.Reply.{Reply}
use Rattle.lin_events.specs.declared.events.Body.TheVariants.{Ok}
use Rattle.lin_events.specs.declared.events.Event.{Event}
use Rattle.lin_events.specs.Alternation.{IsAlternating}
use Rattle.lin_events.specs.Operations.{IsOpen}
use Rattle.lin_events.specs.WellFormed.{IsWellFormed}
use Rattle.lin_events.specs.WellFormedLaws.{EndsAreUnique, WellFormedIsAlternating}
use Rattle.lin_events.specs.lemmas.OneMore.{alternates_before}
use Rattle.lin_objects.specs.Observing.{IsObserving}
use Rattle.lin_objects.specs.Overwriting.{IsOverwriting}
use Rattle.lin_lists.specs.lemmas.Lists.{get_inside}
use Rattle.lin_order.specs.declared.placed.Placed.{Placed}
use Rattle.lin_order.specs.ConfigurationLaws.{with_event}
use Rattle.lin_order.specs.Configurations.{IsAdded, IsRising}
use Rattle.lin_members.specs.declared.members.Path.{Path}
use Rattle.lin_frontier.specs.declared.pending.Open.{Open}
use Rattle.lin_members.specs.Asking.{early_of, AreAhead, IsAheadOf, IsAnsweredStill, IsAskedAhead, IsAskedBehind, IsCompletedWith, IsPutIn, IsReturnedAhead, IsReturnedBehind, IsReturnWith}
use Rattle.lin_members.specs.Compressed.{IsCovering, IsSpelled}
use Rattle.lin_frontier.specs.Frontiers.{IsPending}
use Rattle.lin_members.specs.Members.{Member, IsWatching}
use Rattle.lin_members.specs.Overwritten.{AllowsOverwritten, IsEarlyGiven, IsEarlyUpdate}
use Rattle.lin_members.specs.OverwrittenLaws.{AheadLaw, AllowsBeginsLaw, AllowsOnLaw, AllowsPutLaw, ObserverWithLaw, UpdateWithLaw}
use Rattle.lin_frontier.specs.Placing.{IsAbsent, insert_pair}
use Rattle.lin_members.specs.RoundLaws.{TrailObserverLaw, TrailOkLaw, TrailPlacesLaw, TrailReturnLaw}
use Rattle.lin_members.specs.Rounds.{ahead, begin_round, put, SpellsRounds, IsTrailOf, begins, puts}
use Rattle.lin_members.specs.Searching.{is_watching, rest_of, AreBehind, BeginsRound, GivesAny, IsFromBehind, PlacesIfUpdate}
use Rattle.lin_members.specs.lemmas.Aheads.{ahead_many, place_ahead, place_put, runs_many}
use Rattle.lin_compressed_frontier.proofs.AnsweringWith.{returned_complete_with}
use Rattle.lin_members.specs.lemmas.Awaiting.{pending_watching}
use Rattle.lin_compressed_frontier.proofs.Early.{early_from}
use Rattle.lin_frontier.specs.lemmas.Inserting.{first_or_rest, insert_added, none_from, passed_by}
use Rattle.lin_members.specs.lemmas.InRounds.{one_rounds}
use Rattle.lin_members.specs.lemmas.Joining.{put_many}
use Rattle.lin_configurations.specs.lemmas.Onward.{spelled_reached, spelled_rising}
use Rattle.lin_members.specs.lemmas.Pruned.{crashed_waits_not}
use Rattle.lin_compressed_frontier.proofs.Returned.{answered_offers, answered_spells, no_offer, nobody, offers_from, other_process, spelled_answered, spelled_taken, spelled_update, was_open, watching_before}
use Rattle.lin_members.specs.lemmas.Returning.{not_crashed}

-- what the node of a path spells that goes on
module _ (nodes : List (ℕ × (Placed × Option ℕ))) (path next : Path) (p : Placed) (rounds : List (List Placed)) (spelled : SpellsRounds nodes path.node rounds) where
  begins_spells : BeginsRound nodes path next p → SpellsRounds nodes next.node (begin_round p rounds)
  begins_spells b = subst (λ id. SpellsRounds nodes id (begin_round p rounds)) (sym b.node.1) (begins b.node.2 spelled)

  puts_spells : (round : ℕ) → round < length rounds → IsPutIn nodes path next p round → SpellsRounds nodes next.node (put round p rounds)
  puts_spells round inside b = subst (λ id. SpellsRounds nodes id (put round p rounds)) (sym b.node.1) (subst (SpellsRounds nodes (suc b.node.0)) (place_put round p rounds inside) (puts b.node.2 spelled))

  ahead_spells : suc path.round ≡ length rounds → IsAheadOf nodes path next p → SpellsRounds nodes next.node (ahead p rounds)
  ahead_spells last b =
      subst (λ id. SpellsRounds nodes id (ahead p rounds)) (sym b.node.1) (subst (SpellsRounds nodes (suc b.node.0)) (place_ahead (path.round + 1) p rounds (omega (arith, last))) (puts b.node.2 spelled))

module _ {S : Type 0} (start : S) (step : S → Call → S → Reply → Type 0) (observes : Call → Bool) (over : IsOverwriting start step observes) (functions : Item → Name → Bool) (h : List Event) (event : Event)
    (name : Name) (reply : Reply) (body : event.body ≡ Ok name reply) (well_formed : IsWellFormed functions (with_event h event)) (alternating : WellFormedIsAlternating) (unique : EndsAreUnique)
    (before : List Open) (was : IsPending h before) (pending : List Open) (opened : IsPending (with_event h event) pending) (o : Open) (o_there : Contains before o) (o_of : o.process ≡ event.process) where
  abbrev g : List Event
  g = with_event h event

  alternates : IsAlternating functions g
  alternates = (alternating functions g).0 well_formed

  alternates_then : IsAlternating functions h
  alternates_then = alternates_before h event functions alternates

  well_formed_then : IsWellFormed functions h
  well_formed_then = (alternating functions h).1 alternates_then

  -- the operation's own
  own : (key : Item) × IsOpen h o.at event.process key o.call
  own = let s = was.sound o o_there in (s.0, subst (λ q. IsOpen h o.at q s.0 o.call) o_of s.1)

  abbrev own_placed : Placed
  own_placed = record { at = o.at; reply = reply }

  not_own : (t : Open) → Contains pending t → t.process ≡ event.process → ⊥
  not_own t there same = other_process observes functions h event name reply body unique alternates pending opened t there same

  opened_before : (t : Open) → Contains pending t → (key : Item) × IsOpen h t.at t.process key t.call
  opened_before t there = let s = opened.sound t there in (s.0, was_open observes functions h event name reply body unique alternates pending opened t.at t.process s.0 t.call s.1)

  none_waits : is_watching observes pending event.process ≡ true → ⊥
  none_waits = nobody observes functions h event name reply body unique alternates pending opened

  -- what a state gives among early operations
  was_given_early : (until : ℕ) (c : S × List (ℕ × Reply)) (x : ℕ × Reply) → GivesAny step observes (early_of until pending) c x → IsWatching observes h x.0 × IsEarlyGiven step h until c.0 x
  was_given_early until c x gives =
      let t = gives.0 in
      let one = gives.2 in
      let to = one.3 in
      let early = early_from until pending t gives.1 in
      let s = opened_before t early.0 in (
        subst (IsWatching observes h) (sym to.0)
            (watching_before observes functions h event name reply body unique alternates pending opened t.process
            (pending_watching g pending opened unique functions alternates observes t early.0 one.0 (λ crashed. crashed_waits_not observes (early_of until pending) t gives.1 crashed one.1))),
        (record { at = t.at; key = s.0; call = t.call; next = to.1; is_open = subst (λ q. IsOpen h t.at q s.0 t.call) (sym to.0) s.1; steps = to.2 }, early.1),
      )

  module _ (nodes : List (ℕ × (Placed × Option ℕ))) where
    -- the member's node spells rounds that lead to it, and that allow overwritten updates
    abbrev IsSpelledWith : Member S × Path → Type 0
    IsSpelledWith n = IsSpelled start step observes g nodes n × (rounds : List (List Placed)) × SpellsRounds nodes n.1.node rounds × AllowsOverwritten observes g n rounds

    module _ (m : Member S × Path) (k : IsSpelled start step observes h nodes m) (allows : AllowsOverwritten observes h m k.rounds) where
      rising : IsRising m.0.placed
      rising = spelled_rising start step observes h nodes m k

      -- the operation was placed already
      with_taken : TrailOkLaw start step → AllowsOnLaw S → Contains m.0.placed (event.process, reply) → IsSpelledWith (rest_of observes pending event.process m)
      with_taken ok on there = (
        spelled_taken observes functions h event name reply body unique alternates pending opened start step nodes well_formed ok m k there,
        k.rounds,
        k.spelled,
        on observes h event m (rest_of observes pending event.process m) k.rounds refl (λ x within. (passed_by (λ (y : ℕ × (ℕ × Reply)). is_watching observes pending y.1.0) m.0.offers x within).0) allows,
      )

      from_behind : (n : Member S) → AreBehind step observes pending m n.offers → IsFromBehind step observes pending m n
      from_behind n behind x there = elim (behind.sound x there) [
        | inl old ↦ inl (passed_by (λ (y : ℕ × (ℕ × Reply)). is_watching observes pending y.1.0) m.0.offers x old)
        | inr new ↦ inr new
      ]

      -- no offer behind the member is from a later round
      offers_within : (n : Member S) → AreBehind step observes pending m n.offers → (round : ℕ) (x : ℕ × Reply) → Contains n.offers (round, x) → round < length k.rounds
      offers_within n behind round x there = elim (from_behind n behind (round, x) there) [
        | inl old ↦
            let offered = (k.trail.offered round x old.0).1 in
            let inside = get_inside k.states round offered.state offered.there in
            let many = runs_many step h k.states k.rounds start m.0.state k.trail.trail.runs in
            omega arith
        | inr new ↦ omega (arith, new.0, k.last)
      ]

      module _ (absent : IsAbsent event.process m.0.placed) where
        -- an update returned behind all
        with_behind : TrailReturnLaw start step → AllowsOnLaw S → AllowsBeginsLaw S → (n : Member S × Path) → IsReturnedBehind step observes o reply pending nodes (length h) m n → IsSpelledWith n
        with_behind returns on begins' n r = (
          spelled_update observes functions h event name reply body unique alternates pending opened start step nodes before was well_formed o o_there o_of returns m n k absent
              (record { update = r.update; steps = r.steps; placed = r.placed; offers = from_behind n.0 r.offers; begins = r.begins }),
          begin_round own_placed k.rounds,
          begins_spells nodes m.1 n.1 own_placed k.rounds k.spelled r.begins,
          on observes h event n n (begin_round own_placed k.rounds) refl (λ x there. there)
              (begins' observes h n k.rounds k.trail.trail.begun own_placed event.process own.0 o.call own.1 r.update r.until (offers_within n.0 r.offers)),
        )

        -- an observer took the reply
        with_answered : IsObserving step observes → TrailObserverLaw start step → AllowsPutLaw S → (n : Member S × Path) → IsAnsweredStill step observes o reply pending nodes (length h) m n → IsSpelledWith n
        with_answered observing takes puts' n r = (
          spelled_answered observes functions h event name reply body unique alternates pending opened start step nodes before was well_formed o o_there o_of observing takes m n k absent r.answered,
          put r.answered.round own_placed k.rounds,
          answered_spells observes functions h event name reply body unique alternates pending opened start step nodes before was well_formed o o_there o_of m n k r.answered,
          puts' observes functions h event name reply body well_formed m n k.rounds o.at own.0 o.call own.1 r.answered.round (sym r.until)
              (λ x there. (answered_offers observes functions h event name reply body unique alternates pending opened start step nodes before was well_formed o o_there o_of m n r.answered x there).0) allows,
        )

        -- an operation was placed beside it
        placed_added : (t : Open) (p : Placed) (d : S × List (ℕ × Reply)) → PlacesIfUpdate step observes t (m.0.state, m.0.placed) p d → IsAdded t.process p.reply m.0.placed d.1
        placed_added t p d places = subst (IsAdded t.process p.reply m.0.placed) (sym places.1.placed) (insert_added t.process p.reply m.0.placed rising (none_from t.process m.0.placed places.1.absent))

        still_absent : (t : Open) → Contains pending t → (answer : Reply) (placed : List (ℕ × Reply)) → IsAdded t.process answer m.0.placed placed → (other : Reply) → Contains placed (event.process, other) → ⊥
        still_absent t there answer placed added other has = elim (added.was (event.process, other) has) [
          | inl old ↦ none_from event.process m.0.placed absent other old
          | inr same ↦ not_own t there (ap (λ (x : ℕ × Reply). x.0) same)
        ]

        -- an update was placed behind all, and then the observer
        with_asked_behind : IsObserving step observes → TrailPlacesLaw start step → TrailObserverLaw start step → AllowsBeginsLaw S → AllowsPutLaw S → (p : Placed) (n : Member S × Path)
            → IsAskedBehind step observes o reply pending nodes (length h) m p n → IsSpelledWith n
        with_asked_behind observing places takes begins' puts' p n r = (
          record {
            states = states;
            rounds = put r.mid.round own_placed rounds;
            spelled = spells;
            last = ap suc (r.puts.last ∙ r.begins.round) ∙ omega (arith, k.last, many, put_many r.mid.round own_placed rounds);
            trail = takes observes observing functions h event name reply body well_formed states rounds n.0 n.0 trail o.at own.0 o.call own.1 r.observer r.mid.round
                (inr (omega (arith, r.begins.round, k.last, many), record { at = o.at; key = own.0; call = o.call; next = r.gives.0; is_open = own.1; steps = r.gives.1 }))
                (still_absent t r.places.1 p.reply n.0.placed added) refl refl (λ x there. there)
                (no_offer observes functions h event name reply body unique alternates pending opened start step nodes m n.0 (from_behind n.0 r.offers));
          },
          put r.mid.round own_placed rounds,
          spells,
          puts' observes functions h event name reply body well_formed n n rounds o.at own.0 o.call own.1 r.mid.round refl (λ x there. there)
              (begins' observes h n k.rounds k.trail.trail.begun p t.process opens.0 t.call is_open r.places.2.0 (r.puts.until ∙ r.begun) (offers_within n.0 r.offers)),
        )
          where
            states : List S
            states = k.states ++ n.0.state ∷ []

            rounds : List (List Placed)
            rounds = begin_round p k.rounds

            many : length rounds ≡ suc (length k.rounds)
            many = omega (arith, length-append k.rounds ((p ∷ []) ∷ []))

            spells : SpellsRounds nodes n.1.node (put r.mid.round own_placed rounds)
            spells = puts_spells nodes r.mid n.1 own_placed rounds (begins_spells nodes m.1 r.mid p k.rounds k.spelled r.begins) r.mid.round (omega (arith, r.begins.round, k.last, many)) r.puts

            t : Open
            t = r.places.0

            opens : (key : Item) × IsOpen h t.at t.process key t.call
            opens = opened_before t r.places.1

            is_open : IsOpen h p.at t.process opens.0 t.call
            is_open = subst (λ i. IsOpen h i t.process opens.0 t.call) (sym r.places.2.1.at) opens.1

            added : IsAdded t.process p.reply m.0.placed n.0.placed
            added = placed_added t p (n.0.state, n.0.placed) r.places.2

            trail : IsTrailOf start step observes h states rounds n.0
            trail = places observes functions h well_formed_then k.states k.rounds m.0 n.0 k.trail p (record {
              process = t.process;
              key = opens.0;
              call = t.call;
              is_open = is_open;
              steps = r.places.2.1.steps;
              added = added;
            }) (offers_from observes functions h event name reply body unique alternates pending opened start step nodes m n.0 k.rounds k.last (from_behind n.0 r.offers))

        -- what is on offer with an update ahead of the last one
        module _ (next : S) (placed : List (ℕ × Reply)) (offers : List (ℕ × (ℕ × Reply))) (are : AreAhead step observes o reply pending nodes (length h) m (next, placed) offers) where
          abbrev IsOfferAhead : ℕ × (ℕ × Reply) → Type 0
          IsOfferAhead y = Contains m.0.offers y ⊎ ((suc y.0 ≡ length k.rounds) × IsWatching observes h y.1.0 × IsEarlyGiven step h m.1.until next y.1)

          ahead_offers : (y : ℕ × (ℕ × Reply)) → Contains offers y → IsOfferAhead y
          ahead_offers y there = elim (are.sound y there) [
            | inl old ↦ inl (passed_by (λ (z : ℕ × (ℕ × Reply)). is_watching observes pending z.1.0) m.0.offers y old).0
            | inr new ↦ let gives = was_given_early m.1.until (next, placed) y.1 new.1 in inr (ap suc new.0 ∙ k.last, gives.0, gives.1)
          ]

          none_ahead : (round : ℕ) (other : Reply) → Contains offers (round, (event.process, other)) → ⊥
          none_ahead round other there = elim (are.sound (round, (event.process, other)) there) [
            | inl old ↦ none_waits (passed_by (λ (z : ℕ × (ℕ × Reply)). is_watching observes pending z.1.0) m.0.offers (round, (event.process, other)) old).1
            | inr new ↦ not_own new.1.0 (early_from m.1.until pending new.1.0 new.1.1).0 (sym new.1.2.3.0)
          ]

        -- an update returned ahead of the last one
        with_ahead : AheadLaw start step → TrailOkLaw start step → AllowsOnLaw S → (next : S) (n : Member S × Path) → IsReturnedAhead step observes o reply pending nodes (length h) m next n → IsSpelledWith n
        with_ahead goes ok on next n r = (
          record {
            states = l.0.0;
            rounds = ahead own_placed k.rounds;
            spelled = spells;
            last = omega (arith, r.ahead.round, k.last, ahead_many own_placed k.rounds k.trail.trail.begun);
            trail = ok observes functions h event name reply body well_formed l.0.0 (ahead own_placed k.rounds) mid.0 n.0 refl (subst (λ q. IsAdded event.process reply q mid.0.placed) (sym r.placed) added)
                (λ x there. there) (none_ahead next m.0.placed n.0.offers r.offers) l.0.1;
          },
          ahead own_placed k.rounds,
          spells,
          on observes h event mid n (ahead own_placed k.rounds) refl (λ x there. there) l.1,
        )
          where
            mid : Member S × Path
            mid = (record { state = n.0.state; placed = insert_pair event.process reply m.0.placed; offers = n.0.offers }, n.1)

            added : IsAdded event.process reply m.0.placed mid.0.placed
            added = insert_added event.process reply m.0.placed rising (none_from event.process m.0.placed absent)

            l : ((states : List S) × IsTrailOf start step observes h states (ahead own_placed k.rounds) mid.0) × AllowsOverwritten observes h mid (ahead own_placed k.rounds)
            l = goes observes over functions h well_formed_then k.states k.rounds m mid k.trail allows own_placed event.process next
                (record { at = o.at; key = own.0; call = o.call; is_open = own.1; update = r.update; early = r.early; from = m.0.state; steps = r.steps }) refl (sym r.state) added (sym r.ahead.until)
                (λ round x there. ahead_offers next m.0.placed n.0.offers r.offers (round, x) there)

            spells : SpellsRounds nodes n.1.node (ahead own_placed k.rounds)
            spells = ahead_spells nodes m.1 n.1 own_placed k.rounds k.spelled k.last r.ahead

        -- an early update was placed ahead of the last one, and the observer behind it
        with_asked_ahead : IsObserving step observes → AheadLaw start step → TrailObserverLaw start step → AllowsPutLaw S → (p : Placed) (next : S) (n : Member S × Path)
            → IsAskedAhead step observes o reply pending nodes (length h) m p next n → IsSpelledWith n
        with_asked_ahead observing goes takes puts' p next n r = (
          record {
            states = l.0.0;
            rounds = put m.1.round own_placed (ahead p k.rounds);
            spelled = spells;
            last = omega (arith, r.puts.last, r.ahead.round, k.last, many, put_many m.1.round own_placed (ahead p k.rounds));
            trail = takes observes observing functions h event name reply body well_formed l.0.0 (ahead p k.rounds) mid.0 n.0 l.0.1 o.at own.0 o.call own.1 r.observer m.1.round (inl (0, omega arith, refl))
                (still_absent t early.0 p.reply n.0.placed added) refl refl (λ x there. Contains-append_right (taken ∷ []) n.0.offers x there) (none_ahead next n.0.placed n.0.offers r.offers);
          },
          put m.1.round own_placed (ahead p k.rounds),
          spells,
          puts' observes functions h event name reply body well_formed mid n (ahead p k.rounds) o.at own.0 o.call own.1 m.1.round refl (λ x there. Contains-append_right (taken ∷ []) n.0.offers x there) l.1,
        )
          where
            taken : ℕ × (ℕ × Reply)
            taken = (m.1.round, (event.process, reply))

            mid : Member S × Path
            mid = (record { state = n.0.state; placed = n.0.placed; offers = taken ∷ n.0.offers }, n.1)

            many : length (ahead p k.rounds) ≡ suc (length k.rounds)
            many = ahead_many p k.rounds k.trail.trail.begun

            t : Open
            t = r.places.0

            early : Contains pending t × (t.at < m.1.until)
            early = early_from m.1.until pending t r.places.1

            added : IsAdded t.process p.reply m.0.placed n.0.placed
            added = placed_added t p (next, n.0.placed) r.places.2

            update : IsEarlyUpdate step observes h m.1.until (t.process, p.reply) next
            update =
                let s = opened_before t early.0 in
                record { at = t.at; key = s.0; call = t.call; is_open = s.1; update = r.places.2.0; early = early.1; from = m.0.state; steps = r.places.2.1.steps }

            offers : (y : ℕ × (ℕ × Reply)) → Contains mid.0.offers y → IsOfferAhead next n.0.placed n.0.offers r.offers y
            offers y there = elim (first_or_rest taken n.0.offers y there) [
              | inl same ↦ subst (IsOfferAhead next n.0.placed n.0.offers r.offers) same (inr (
                k.last,
                record { at = o.at; key = own.0; call = o.call; is_open = own.1; observer = r.observer; alive = not_crashed start step observes unique functions h event name reply body alternates },
                (record { at = o.at; key = own.0; call = o.call; next = r.gives.0; is_open = own.1; steps = r.gives.1 }, r.early),
              ))
              | inr rest ↦ ahead_offers next n.0.placed n.0.offers r.offers y rest
            ]

            l : ((states : List S) × IsTrailOf start step observes h states (ahead p k.rounds) mid.0) × AllowsOverwritten observes h mid (ahead p k.rounds)
            l = goes observes over functions h well_formed_then k.states k.rounds m mid k.trail allows p t.process next update (sym r.places.2.1.at) (sym r.state) added (sym (r.puts.until ∙ r.ahead.until))
                (λ round x there. offers (round, x) there)

            spells : SpellsRounds nodes n.1.node (put m.1.round own_placed (ahead p k.rounds))
            spells = puts_spells nodes r.mid n.1 own_placed (ahead p k.rounds) (ahead_spells nodes m.1 r.mid p k.rounds k.spelled k.last r.ahead) m.1.round (omega (arith, k.last, many)) r.puts

  module _ (observing : IsObserving step observes) (update_law : UpdateWithLaw start step) (observer_law : ObserverWithLaw start step) (ahead_law : AheadLaw start step) (on_law : AllowsOnLaw S) (put_law : AllowsPutLaw S)
      (begins_law : AllowsBeginsLaw S) (places_law : TrailPlacesLaw start step) (takes_law : TrailObserverLaw start step) (return_law : TrailReturnLaw start step) (ok_law : TrailOkLaw start step) where
    -- after an ok the members still cover the history
    pub returned_with : (nodes : List (ℕ × (Placed × Option ℕ))) (members out : List (Member S × Path)) → IsReturnWith step observes o reply pending nodes (length h) members out
        → IsCovering start step observes true h members nodes → IsCovering start step observes true (with_event h event) out nodes
    returned_with nodes members out r c = record {
      complete = returned_complete_with observes functions h event name reply body unique alternates pending opened start step over before was alternates_then o o_there o_of nodes members out r
          (λ m there. spelled_rising start step observes h nodes m (c.spelled m there)) (λ m there. spelled_reached start step observes h nodes m (c.spelled m there)) well_formed update_law observer_law c.complete;
      spelled = λ n there. (each n there).0;
      overwritten = λ yes' n there rounds spells. let e = each n there in subst (AllowsOverwritten observes g n) (one_rounds nodes n.1.node e.1 rounds e.2 spells) e.3;
    }
      where
        completed : (m n : Member S × Path) (k : IsSpelled start step observes h nodes m) → AllowsOverwritten observes h m k.rounds → IsAbsent event.process m.0.placed → IsCompletedWith step observes o reply pending nodes (length h) m n → IsSpelledWith nodes n
        completed m n k allows absent (inl r) = with_behind nodes m k allows absent return_law on_law begins_law n r
        completed m n k allows absent (inr (inl r)) = with_ahead nodes m k allows absent ahead_law ok_law on_law r.0 n r.1
        completed m n k allows absent (inr (inr (inl r))) = with_answered nodes m k allows absent observing takes_law put_law n r
        completed m n k allows absent (inr (inr (inr (inl r)))) = with_asked_behind nodes m k allows absent observing places_law takes_law begins_law put_law r.0 n r.1
        completed m n k allows absent (inr (inr (inr (inr r)))) = with_asked_ahead nodes m k allows absent observing ahead_law takes_law put_law r.0 r.1 n r.2

        each : (n : Member S × Path) → Contains out n → IsSpelledWith nodes n
        each n there =
            let s = r.sound n there in
            let k = c.spelled s.0 s.1 in
            let allows = c.overwritten refl s.0 s.1 k.rounds k.spelled in
            elim s.2 [
              | inl taken ↦
                  let has = subst (λ q. Contains s.0.0.placed (q, reply)) o_of taken.0 in
                  subst (IsSpelledWith nodes) (sym (taken.1 ∙ ap (λ q. rest_of observes pending q s.0) o_of)) (with_taken nodes s.0 k allows ok_law on_law has)
              | inr made ↦ completed s.0 n k allows (subst (λ q. IsAbsent q s.0.0.placed) o_of made.0) made.1
            ]
