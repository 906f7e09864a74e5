-- The rounds of members after an ok.
use Rattle.std.proofs.Common.{◌≡◌, ◌≢◌, ℕ, suc, Bool, true, List, [], ◌∷◌, ◌++◌, length, length-append, Contains, inl, inr, refl, sym, ap, subst, ◌∙◌, arith, Option}
use Rattle.std.proofs.lemmas.List.Elements.{Contains-append_cases}
use Rattle.std.proofs.lemmas.Option.{slice_get_within}
use Rattle.lin_events.specs.declared.items.Item.{Item}
use Rattle.lin_events.specs.declared.calls.Call.{Call}
use Rattle.lin_events.specs.declared.calls.Name.{Name}
use Rattle.lin_events.specs.declared.calls.Reply.{Reply}
use Rattle.lin_events.specs.declared.events.Body.{Body}
use Rattle.lin_events.specs.declared.events.Body.TheVariants.{Invoke, Ok}
use Rattle.lin_events.specs.declared.events.Event.{Event}
use Rattle.lin_events.specs.Alternation.{IsAlternating}
use Rattle.lin_events.specs.Operations.{IsOpen}
use Rattle.lin_events.specs.WellFormed.{IsWellFormed}
use Rattle.lin_events.specs.WellFormedLaws.{EndsAreUnique}
use Rattle.lin_lists.specs.lemmas.Lists.{get_cases}
use Rattle.lin_events.specs.lemmas.OneMore.{open_before}
use Rattle.lin_order.specs.declared.placed.Placed.{Placed}
use Rattle.lin_order.specs.ConfigurationLaws.{with_event}
use Rattle.lin_order.specs.Configurations.{IsAdded}
use Rattle.lin_members.specs.declared.members.Path.{Path}
use Rattle.lin_frontier.specs.declared.pending.Open.{Open}
use Rattle.lin_members.specs.Compressed.{IsSpelled}
use Rattle.lin_frontier.specs.Frontiers.{IsPending}
use Rattle.lin_members.specs.Members.{Member, IsWatching, IsGiven}
use Rattle.lin_frontier.specs.Placing.{IsAbsent, insert_pair}
use Rattle.lin_members.specs.RoundLaws.{IsOfferFrom, OffersFrom, TrailPlacesLaw, TrailOkLaw, TrailObserverLaw, TrailReturnLaw}
use Rattle.lin_members.specs.Rounds.{SpellsRounds, begin_round, put, begins}
use Rattle.lin_members.specs.Searching.{is_watching, rest_of, GivesAny, IsAnswered, IsFromBehind, IsReached, start, next, IsReturned, IsReturnOf}
use Rattle.lin_members.specs.lemmas.Aheads.{puts_offered}
use Rattle.lin_members.specs.lemmas.Crashes.{crash_kept, passes_ok}
use Rattle.lin_members.specs.lemmas.Following.{Passes}
use Rattle.lin_frontier.specs.lemmas.Inserting.{absent_from, none_from, passed_by, insert_added, taken_out}
use Rattle.lin_members.specs.lemmas.Joining.{put_many}
use Rattle.lin_configurations.specs.lemmas.Onward.{spelled_rising}
use Rattle.lin_members.specs.lemmas.Pruned.{watching_to}
use Rattle.lin_objects.specs.Observing.{IsObserving}

ok_no_invoke : {body : Body} {name : Name} {reply : Reply} → body ≡ Ok name reply → (call : Call) → body ≡ Invoke call → ⊥
ok_no_invoke is call other = cc

module _ (observes : Call → Bool) (functions : Item → Name → Bool) (h : List Event) (event : Event) (name : Name) (reply : Reply) (body : event.body ≡ Ok name reply)
    (unique : EndsAreUnique) (alternates : IsAlternating functions (with_event h event)) (pending : List Open) (opened : IsPending (with_event h event) pending) where
  pub passes : Passes observes h (with_event h event) (λ q. q ≡ event.process)
  passes = passes_ok h event functions alternates observes name reply body

  -- what is open after the ok was open before
  pub was_open : (at q : ℕ) (key : Item) (call : Call) → IsOpen (with_event h event) at q key call → IsOpen h at q key call
  was_open at q key call is = open_before h event at q key call earlier is
    where
      earlier : at ≡ length h → ⊥
      earlier same = elim (get_cases h event at (record { process = q; key = key; body = Invoke call }) is.begins) [
        | inl old ↦ let inside = slice_get_within h at (record { process = q; key = key; body = Invoke call }) old in omega arith
        | inr new ↦ ok_no_invoke body call (ap (λ (e : Event). e.body) new.1)
      ]

  pub other_process : (o : Open) → Contains pending o → o.process ≢ event.process
  other_process o there same = let s = opened.sound o there in passes.shut o.at o.process s.0 o.call same s.1

  pub nobody : is_watching observes pending event.process ≡ true → ⊥
  nobody w = let k = watching_to functions (with_event h event) pending opened unique alternates observes event.process w in passes.shut k.at event.process k.key k.call refl k.is_open

  -- what watches after the ok did so before
  pub watching_before : (q : ℕ) → IsWatching observes (with_event h event) q → IsWatching observes h q
  watching_before q k =
      record { at = k.at; key = k.key; call = k.call; is_open = was_open k.at q k.key k.call k.is_open; observer = k.observer; alive = λ c. k.alive (crash_kept h event q c) }

  was_watching : (q : ℕ) → is_watching observes pending q ≡ true → IsWatching observes h q
  was_watching q w = watching_before q (watching_to functions (with_event h event) pending opened unique alternates observes q w)

  module _ {S : Type 0} (begin : S) (step : S → Call → S → Reply → Type 0) (nodes : List (ℕ × (Placed × Option ℕ))) where
    was_given : (c : S × List (ℕ × Reply)) (x : ℕ × Reply) → GivesAny step observes pending c x → IsWatching observes h x.0 × IsGiven step h c.0 x
    was_given c x gives =
        let o = gives.0 in
        let one = gives.2 in
        let to = one.3 in
        let s = opened.sound o gives.1 in (
          was_watching x.0 (subst (λ q. is_watching observes pending q ≡ true) (sym to.0) one.1),
          record { at = o.at; key = s.0; call = o.call; next = to.1; is_open = subst (λ q. IsOpen h o.at q s.0 o.call) (sym to.0) (was_open o.at o.process s.0 o.call s.1); steps = to.2 },
        )

    pub offers_from : (m : Member S × Path) (n : Member S) (rounds : List (List Placed)) → suc m.1.round ≡ length rounds → IsFromBehind step observes pending m n → OffersFrom step observes h rounds m.0 n
    offers_from m n rounds last behind round x there = elim (behind (round, x) there) [
      | inl before ↦ inl before.0
      | inr new ↦ let g = was_given (m.0.state, m.0.placed) x new.1 in inr (ap suc new.0 ∙ last, g.0, g.1)
    ]

    pub no_offer : (m : Member S × Path) (n : Member S) → IsFromBehind step observes pending m n → (round : ℕ) (other : Reply) → Contains n.offers (round, (event.process, other)) → ⊥
    no_offer m n behind round other there = elim (behind (round, (event.process, other)) there) [
      | inl before ↦ nobody before.1
      | inr new ↦ nobody (subst (λ q. is_watching observes pending q ≡ true) (sym new.1.2.3.0) new.1.2.1)
    ]

    -- rounds lead to the member, in which the operation has no place
    pub free_reached : IsWellFormed functions h → TrailPlacesLaw begin step → (starts : List (Member S × Path)) → ((m : Member S × Path) → Contains starts m → IsSpelled begin step observes h nodes m × IsAbsent event.process m.0.placed)
        → (m : Member S × Path) → IsReached step observes pending nodes starts m → IsSpelled begin step observes h nodes m × IsAbsent event.process m.0.placed
    free_reached well_formed law starts each m (start there) = each m there
    free_reached well_formed law starts each n (next {m} way s) = on (free_reached well_formed law starts each m way)
      where
        on : IsSpelled begin step observes h nodes m × IsAbsent event.process m.0.placed → IsSpelled begin step observes h nodes n × IsAbsent event.process n.0.placed
        on f =
            let k = f.0 in
            let o = s.places.0 in
            let one = s.places.2.1 in
            let opens = opened.sound o s.places.1 in
            let added = subst (IsAdded o.process s.p.reply m.0.placed) (sym one.placed) (insert_added o.process s.p.reply m.0.placed (spelled_rising begin step observes h nodes m k) (none_from o.process m.0.placed one.absent)) in (
              record {
                states = k.states ++ n.0.state ∷ [];
                rounds = begin_round s.p k.rounds;
                spelled = subst (λ id. SpellsRounds nodes id (begin_round s.p k.rounds)) (sym s.begins.node.1) (begins s.begins.node.2 k.spelled);
                last = ap suc s.begins.round ∙ omega (arith, k.last, length-append k.rounds ((s.p ∷ []) ∷ []));
                trail = law observes functions h well_formed k.states k.rounds m.0 n.0 k.trail s.p (record {
                  process = o.process;
                  key = opens.0;
                  call = o.call;
                  is_open = subst (λ i. IsOpen h i o.process opens.0 o.call) (sym one.at) (was_open o.at o.process opens.0 o.call opens.1);
                  steps = one.steps;
                  added = added;
                }) (offers_from m n.0 k.rounds k.last s.offers);
              },
              absent_from event.process n.0.placed (λ other there. elim (added.was (event.process, other) there) [
                | inl before ↦ none_from event.process m.0.placed f.1 other before
                | inr same ↦ other_process o s.places.1 (ap (λ (x : ℕ × Reply). x.0) same)
              ]),
            )

    -- the operation was placed already
    pub spelled_taken : IsWellFormed functions (with_event h event) → TrailOkLaw begin step → (m : Member S × Path) → IsSpelled begin step observes h nodes m → Contains m.0.placed (event.process, reply) → IsSpelled begin step observes (with_event h event) nodes (rest_of observes pending event.process m)
    spelled_taken well_formed law m k there = record {
      states = k.states;
      rounds = k.rounds;
      spelled = k.spelled;
      last = k.last;
      trail = law observes functions h event name reply body well_formed k.states k.rounds m.0 (rest_of observes pending event.process m).0 refl
          (taken_out event.process reply m.0.placed (spelled_rising begin step observes h nodes m k) there)
          (λ x within. (passed_by (λ (y : ℕ × (ℕ × Reply)). is_watching observes pending y.1.0) m.0.offers x within).0)
          (λ round other within. nobody (passed_by (λ (y : ℕ × (ℕ × Reply)). is_watching observes pending y.1.0) m.0.offers (round, (event.process, other)) within).1) k.trail;
    }

    module _ (before : List Open) (was : IsPending h before) (well_formed : IsWellFormed functions (with_event h event)) (o : Open) (o_there : Contains before o) (o_of : o.process ≡ event.process) where
      pub opens : (key : Item) × IsOpen h o.at event.process key o.call
      opens = let s = was.sound o o_there in (s.0, subst (λ q. IsOpen h o.at q s.0 o.call) o_of s.1)

      -- an observer took the reply, which was offered to it
      answered_offer : (m n : Member S × Path) (k : IsSpelled begin step observes h nodes m) (a : IsAnswered step observes o reply pending nodes m n) → IsOfferFrom step h k.rounds m.0 a.round (event.process, reply)
      answered_offer m n k a = elim a.takes [
        | inl there ↦ inl (subst (λ q. Contains m.0.offers (a.round, (q, reply))) o_of there)
        | inr given ↦ inr (ap suc given.0 ∙ k.last, record { at = o.at; key = opens.0; call = o.call; next = given.1.1; is_open = opens.1; steps = given.1.2 })
      ]

      pub answered_spells : (m n : Member S × Path) (k : IsSpelled begin step observes h nodes m) (a : IsAnswered step observes o reply pending nodes m n) → SpellsRounds nodes n.1.node (put a.round (record { at = o.at; reply = reply }) k.rounds)
      answered_spells m n k a =
          subst (λ id. SpellsRounds nodes id (put a.round (record { at = o.at; reply = reply }) k.rounds)) (sym a.node.1)
          (puts_offered begin step observes h k.states k.rounds m.0 k.trail a.round (event.process, reply) (answered_offer m n k a) nodes a.node.0 m.1.node (record { at = o.at; reply = reply }) a.node.2 k.spelled)

      pub answered_offers : (m n : Member S × Path) → IsAnswered step observes o reply pending nodes m n → (x : ℕ × (ℕ × Reply)) → Contains n.0.offers x → Contains m.0.offers x × (is_watching observes pending x.1.0 ≡ true)
      answered_offers m n a x there = passed_by (λ (y : ℕ × (ℕ × Reply)). is_watching observes pending y.1.0) m.0.offers x (subst (λ (l : Member S). Contains l.offers x) a.same there)

      pub spelled_answered : IsObserving step observes → TrailObserverLaw begin step → (m n : Member S × Path) → IsSpelled begin step observes h nodes m → IsAbsent event.process m.0.placed
          → IsAnswered step observes o reply pending nodes m n → IsSpelled begin step observes (with_event h event) nodes n
      spelled_answered observing law m n k absent a = record {
        states = k.states;
        rounds = put a.round p k.rounds;
        spelled = answered_spells m n k a;
        last = ap suc a.last ∙ k.last ∙ sym (put_many a.round p k.rounds);
        trail = law observes observing functions h event name reply body well_formed k.states k.rounds m.0 n.0 k.trail o.at opens.0 o.call opens.1 a.observer a.round (answered_offer m n k a) (none_from event.process m.0.placed absent)
            (sym (ap (λ (x : Member S). x.state) a.same)) (sym (ap (λ (x : Member S). x.placed) a.same))
            (λ x there. (answered_offers m n a x there).0)
            (λ round other there. nobody (answered_offers m n a (round, (event.process, other)) there).1);
      }
        where
          p : Placed
          p = record { at = o.at; reply = reply }

      -- an update returned
      pub spelled_update : TrailReturnLaw begin step → (m n : Member S × Path) → IsSpelled begin step observes h nodes m → IsAbsent event.process m.0.placed
          → IsReturned step observes o reply pending nodes m n → IsSpelled begin step observes (with_event h event) nodes n
      spelled_update law m n k absent r = record {
        states = k.states ++ n.0.state ∷ [];
        rounds = begin_round p k.rounds;
        spelled = subst (λ id. SpellsRounds nodes id (begin_round p k.rounds)) (sym r.begins.node.1) (begins r.begins.node.2 k.spelled);
        last = ap suc r.begins.round ∙ omega (arith, k.last, length-append k.rounds ((p ∷ []) ∷ []));
        trail = law observes functions h event name reply body well_formed k.states k.rounds m.0 n.0 k.trail p (insert_pair event.process reply m.0.placed) (record {
          process = event.process;
          key = opens.0;
          call = o.call;
          is_open = opens.1;
          steps = r.steps;
          added = insert_added event.process reply m.0.placed (spelled_rising begin step observes h nodes m k) (none_from event.process m.0.placed absent);
        }) refl refl (sym r.placed) (offers_from m n.0 k.rounds k.last r.offers) (no_offer m n.0 r.offers);
      }
        where
          p : Placed
          p = record { at = o.at; reply = reply }

      -- each member after the ok
      pub returned_spelled : IsWellFormed functions h → IsObserving step observes → TrailPlacesLaw begin step → TrailObserverLaw begin step → TrailReturnLaw begin step → TrailOkLaw begin step
          → (members out : List (Member S × Path)) → IsReturnOf step observes o reply pending nodes members out → ((m : Member S × Path) → Contains members m → IsSpelled begin step observes h nodes m)
          → (n : Member S × Path) → Contains out n → IsSpelled begin step observes (with_event h event) nodes n
      returned_spelled well_formed_before observing places observer returns ok members out r each n there =
          elim (Contains-append_cases r.found r.made n (subst (λ l. Contains l n) r.both there)) [
            | inl found ↦
                let s = r.searched.sound n found in
                let f = free_reached well_formed_before places r.starts begun s.0 s.1 in
                elim s.2 [
                  | inl a ↦ spelled_answered observing observer s.0 n f.0 f.1 a
                  | inr u ↦ spelled_update returns s.0 n f.0 f.1 u
                ]
            | inr made ↦
                let s = r.taken.sound n made in
                let of = subst (λ q. Contains s.0.0.placed (q, reply)) o_of s.2 in
                subst (IsSpelled begin step observes (with_event h event) nodes) (sym (s.3 ∙ ap (λ q. rest_of observes pending q s.0) o_of)) (spelled_taken well_formed ok s.0 (each s.0 s.1) of)
          ]
        where
          begun : (m : Member S × Path) → Contains r.starts m → IsSpelled begin step observes h nodes m × IsAbsent event.process m.0.placed
          begun m within =
              let s = r.begun.sound m within in
              subst (λ k. IsSpelled begin step observes h nodes k × IsAbsent event.process k.0.placed) (sym s.3) (each s.0 s.1, subst (λ q. IsAbsent q s.0.0.placed) o_of s.2)
