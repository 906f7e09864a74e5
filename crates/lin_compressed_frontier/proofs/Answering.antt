-- After an ok the members still lead to all configurations.
use Rattle.std.proofs.Common.{◌≡◌, ◌⊎◌, ◌≢◌, ℕ, Bool, true, false, List, Contains, IsTrue, map, inl, inr, refl, sym, ap, subst, ◌∙◌, Option, true≢false}
use Rattle.std.proofs.lemmas.List.Elements.{All-contains, Contains-append_left, Contains-append_right}
use Rattle.lin_events.specs.declared.items.Item.{Item}
use Rattle.lin_events.specs.declared.calls.Call.{Call}
use Rattle.lin_events.specs.declared.calls.Name.{Name}
use Rattle.lin_events.specs.declared.calls.Reply.{Reply}
use Rattle.lin_events.specs.declared.events.Body.TheVariants.{Ok}
use Rattle.lin_events.specs.declared.events.Event.{Event}
use Rattle.lin_events.specs.Alternation.{IsAlternating}
use Rattle.lin_events.specs.Operations.{IsOpen}
use Rattle.lin_events.specs.WellFormed.{IsWellFormed}
use Rattle.lin_events.specs.WellFormedLaws.{EndsAreUnique}
use Rattle.lin_events.specs.lemmas.OneMore.{one_open, one_call}
use Rattle.lin_order.specs.declared.placed.Placed.{Placed}
use Rattle.lin_order.specs.ConfigurationLaws.{with_event}
use Rattle.lin_order.specs.Configurations.{IsRising, IsAdded, IsPlacing}
use Rattle.lin_members.specs.declared.members.Path.{Path}
use Rattle.lin_frontier.specs.declared.pending.Open.{Open}
use Rattle.lin_members.specs.Covers.{HasCrashed}
use Rattle.lin_members.specs.Exchanges.{AreAlike, Exchange, IsExchanged}
use Rattle.lin_frontier.specs.Frontiers.{IsPending}
use Rattle.lin_members.specs.MemberLaws.{IsAheadOfAll, IsAheadOfOpen, IsTaken, IsSearched, ObserverSearchLaw, UpdateSearchLaw}
use Rattle.lin_members.specs.Members.{Member, IsComplete, IsOnOffer, IsWatching, IsGiven, IsUpdate, DominatesAt, Dominates}
use Rattle.lin_frontier.specs.Placing.{IsAbsent, insert_pair}
use Rattle.lin_members.specs.Searching.{is_watching, rest_of, CanTake, DominatesOver, GivesAny, GoesAhead, IsFoundFrom, IsMade, IsPassed, IsReached, IsReturnOf, IsSearchedFor, IsSearchedIn}
use Rattle.lin_frontier.specs.Masks.{is_crashed}
use Rattle.lin_members.specs.lemmas.Awaiting.{open_pending, pending_crashed}
use Rattle.lin_members.specs.lemmas.Crashes.{crash_before, crashed_open, ok_no_info}
use Rattle.lin_members.specs.lemmas.Dominating.{dominates_itself}
use Rattle.lin_members.specs.lemmas.Exchanging.{change, change_first, change_neither, exchanged_added, exchanged_itself, no_exchange, open_call}
use Rattle.lin_frontier.specs.lemmas.Inserting.{absent_from, kept_by, insert_added, insert_is, none_from, without_is}
use Rattle.lin_lists.specs.lemmas.Filters.{from_map, in_map}
use Rattle.lin_members.specs.lemmas.Pruned.{copy_dominates, watching_from, watching_to, crashed_to}
use Rattle.lin_compressed_frontier.proofs.Ahead.{no_more}
use Rattle.lin_compressed_frontier.proofs.Returned.{passes}

module _ (observes : Call → Bool) (functions : Item → Name → Bool) (h : List Event) (event : Event) (name : Name) (reply : Reply) (body : event.body ≡ Ok name reply)
    (unique : EndsAreUnique) (alternates : IsAlternating functions (with_event h event)) (pending : List Open) (opened : IsPending (with_event h event) pending) where
  -- no process crashes by an ok
  crashed_then : (q : ℕ) → HasCrashed (with_event h event) q → HasCrashed h q
  crashed_then q c = elim (crash_before h event q c) [
    | inl old ↦ old
    | inr info ↦ absurd (ok_no_info body info.1 info.2)
  ]

  still_watching : (q : ℕ) → q ≢ event.process → IsWatching observes h q → IsWatching observes (with_event h event) q
  still_watching q other w = elim ((passes observes functions h event name reply body unique alternates pending opened).watches q other w) [
    | inl now ↦ now
    | inr crashed ↦ absurd (w.alive (crashed_then q crashed))
  ]

  pub watches : (q : ℕ) → IsWatching observes (with_event h event) q → is_watching observes pending q ≡ true
  watches q w = watching_from functions (with_event h event) pending opened unique alternates observes q w

  -- an operation of another process is open still
  pub other_open : (at q : ℕ) (key : Item) (call : Call) → q ≢ event.process → IsOpen h at q key call → (o : Open) × Contains pending o × (o.at ≡ at) × (o.process ≡ q) × (o.call ≡ call)
  other_open at q key call other is = open_pending (with_event h event) pending opened at q key call ((passes observes functions h event name reply body unique alternates pending opened).opens at q key call other is)

  -- the crashed operation of the process has the call of the pending one
  crashed_call : (o : Open) → Contains pending o → (c : HasCrashed h o.process) → c.2 ≡ o.call
  crashed_call o there c =
      let s = opened.sound o there in
      let p = passes observes functions h event name reply body unique alternates pending opened in
      open_call functions (with_event h event) alternates c.0 o.at o.process c.1 s.0 c.2 o.call
      (p.opens c.0 o.process c.1 c.2 (λ same. p.shut o.at o.process s.0 o.call same s.1) (crashed_open unique h o.process c)) s.1

  -- pending operations that crashed, and have the same call, are alike
  pub pending_alike : (o t : Open) → Contains pending o → Contains pending t → IsTrue o.crashed → IsTrue t.crashed → o.call ≡ t.call → AreAlike h o.process t.process
  pending_alike o t o_there t_there o_crashed t_crashed same =
      let c = crashed_then o.process (pending_crashed (with_event h event) pending opened o o_there o_crashed) in
      let d = crashed_then t.process (pending_crashed (with_event h event) pending opened t t_there t_crashed) in
      record {
        at = c.0;
        other = d.0;
        key = c.1;
        other_key = d.1;
        call = c.2;
        first = crashed_open unique h o.process c;
        second = subst (IsOpen h d.0 t.process d.1) (crashed_call t t_there d ∙ sym same ∙ sym (crashed_call o o_there c)) (crashed_open unique h t.process d);
        crashed = c;
        other_crashed = d;
      }

  module _ {S : Type 0} (step : S → Call → S → Reply → Type 0) where
    pub gives : (c : S × List (ℕ × Reply)) (x : ℕ × Reply) → x.0 ≢ event.process → is_watching observes pending x.0 ≡ true → IsAbsent x.0 c.1 → IsGiven step h c.0 x → GivesAny step observes pending c x
    gives c x other watching absent given =
        let o = other_open given.at x.0 given.key given.call other given.is_open in
        let k = watching_to functions (with_event h event) pending opened unique alternates observes x.0 watching in
        let s = opened.sound o.0 o.1 in (
          o.0,
          o.1,
          (
            ap observes (open_call functions (with_event h event) alternates o.0.at k.at x.0 s.0 k.key o.0.call k.call (subst (λ q. IsOpen (with_event h event) o.0.at q s.0 o.0.call) o.3 s.1) k.is_open) ∙ k.observer,
            subst (λ q. is_watching observes pending q ≡ true) (sym o.3) watching,
            subst (λ q. IsAbsent q c.1) (sym o.3) absent,
            (sym o.3, given.next, subst (λ a. step c.0 a given.next x.1) (sym o.4) given.steps),
          ),
        )

    over_to : (m n : Member S) (d : S × List (ℕ × Reply)) → IsRising n.placed → ((x : ℕ × Reply) → Contains m.placed x → Contains d.1 x) → DominatesOver step observes pending m n d
        → DominatesAt observes h n d.0 d.1 (λ x. (x.0 ≢ event.process) × (IsOnOffer m x ⊎ IsGiven step h m.state x))
    over_to m n d rising kept over = record {
      sorted = rising;
      same = over.same;
      part = λ x there. All-contains (λ (y : ℕ × Reply). Contains d.1 y) n.placed x over.part there;
      rest = rest;
      offered = λ x watching absent had.
          let now = still_watching x.0 had.0 watching in
          over.offered x (watches x.0 now) (absent_from x.0 n.placed absent) (elim had.1 [
            | inl offered ↦ inl offered
            | inr given ↦ inr (gives (m.state, m.placed) x had.0 (watches x.0 now) (absent_from x.0 m.placed (λ other there.
                elim (rest (x.0, other) (kept (x.0, other) there)) [
                  | inl has ↦ absent other has
                  | inr crashed ↦ watching.alive crashed
                ])) given)
          ]);
    }
      where
        rest : (x : ℕ × Reply) → Contains d.1 x → Contains n.placed x ⊎ HasCrashed h x.0
        rest x there = elim (All-contains (λ (y : ℕ × Reply). Contains n.placed y ⊎ (is_crashed pending y.0 ≡ true)) d.1 x over.rest there) [
          | inl has ↦ inl has
          | inr crashed ↦ inr (crashed_then x.0 (crashed_to functions (with_event h event) pending opened unique alternates x.0 crashed))
        ]

    searched_to : (visited : List (Member S × Path)) → ((n : Member S × Path) → Contains visited n → IsRising n.0.placed) → (m : Member S) → IsSearchedIn step observes pending visited m
        → IsSearched step observes h event.process (map (λ k. k.0) visited) m
    searched_to visited rising m searched d u other =
        let wider = insert_added f.placed.process p.reply m.placed placing.added.before (none_from f.placed.process m.placed f.absent) in
        let e = exchanged in
        record {
          exchange = e.0;
          others = insert_pair f.placed.process p.reply m.placed;
          exchanged = e.1;
          member = f.member.0;
          among = in_map (λ (k : Member S × Path). k.0) visited f.member f.there;
          dominates = over_to m f.member.0 (d.0, insert_pair f.placed.process p.reply m.placed) (rising f.member f.there) wider.kept f.dominates;
        }
      where
        p : Placed
        p = u.0

        placing : IsPlacing step h (m.state, m.placed) p d
        placing = u.1

        o : (o : Open) × Contains pending o × (o.at ≡ p.at) × (o.process ≡ placing.process) × (o.call ≡ placing.call)
        o = other_open p.at placing.process placing.key placing.call other placing.is_open

        added : IsAdded o.0.process p.reply m.placed d.1
        added = subst (λ q. IsAdded q p.reply m.placed d.1) (sym o.3) placing.added

        f : IsSearchedFor step observes pending visited m o.0 p.reply d.0
        f = searched o.0 p d o.1 (
          ap observes o.4 ∙ u.2,
          record {
            absent = absent_from o.0.process m.placed added.absent;
            at = sym o.2;
            steps = subst (λ a. step m.state a d.0 p.reply) (sym o.4) placing.steps;
            placed = insert_is o.0.process p.reply m.placed d.1 added;
          },
        )

        -- once the one that was placed changes places with the update
        exchanged : (e : Exchange h) × IsExchanged e d.1 (insert_pair f.placed.process p.reply m.placed)
        exchanged = elim f.stands [
          | inl same ↦ (
            no_exchange h,
            subst (IsExchanged (no_exchange h) d.1) (insert_is o.0.process p.reply m.placed d.1 added ∙ ap (λ (q : Open). insert_pair q.process p.reply m.placed) (sym same)) (exchanged_itself h d.1 added.rising),
          )
          | inr both ↦
              let alike = pending_alike o.0 f.placed o.1 f.among both.1 both.0 (sym both.2) in
              let e = change h o.0.process f.placed.process alike in
              let k = exchanged_added e o.0.process p.reply m.placed d.1 m.placed
              (change_neither h o.0.process f.placed.process alike m.placed added.before added.absent (none_from f.placed.process m.placed f.absent)) added in (
                e,
                subst (IsExchanged e d.1)
                    (insert_is f.placed.process p.reply m.placed k.0 (subst (λ q. IsAdded q p.reply m.placed k.0) (change_first h o.0.process f.placed.process alike) k.2)) k.1,
              )
        ]

    -- the member without the operation, which it placed
    pub rest_dominates : (m : Member S × Path) (rest : List (ℕ × Reply)) → IsAdded event.process reply rest m.0.placed
        → DominatesAt observes (with_event h event) (rest_of observes pending event.process m).0 m.0.state rest (IsOnOffer m.0)
    rest_dominates m rest added =
        let same = without_is event.process reply rest m.0.placed added in
        record {
          sorted = subst IsRising same added.before;
          same = refl;
          part = λ x has. subst (λ l. Contains l x) (sym same) has;
          rest = λ x has. inl (subst (λ l. Contains l x) same has);
          offered = λ x watching absent o. (o.0, kept_by (λ (y : ℕ × (ℕ × Reply)). is_watching observes pending y.1.0) m.0.offers (o.0, x) (watches x.0 watching) o.1);
        }

    -- the members that placed the operation
    taken_to : (members made out : List (Member S × Path)) → IsMade (λ m. Contains m.0.placed (event.process, reply)) (rest_of observes pending event.process) members made
        → ((n : Member S × Path) → Contains made n → Contains out n) → (m : Member S × Path) → Contains members m → IsTaken observes (with_event h event) event.process reply (map (λ k. k.0) out) m.0
    taken_to members made out is within m there rest added =
        let n = rest_of observes pending event.process m in
        (n.0, in_map (λ (k : Member S × Path). k.0) out n (within n (is.complete m there added.has)), rest_dominates m rest added)

    module _ (before : List Open) (was : IsPending h before) (alternates_before : IsAlternating functions h) (o : Open) (o_there : Contains before o) (o_of : o.process ≡ event.process) where
      -- the process has no other open operation
      pub same_call : (at : ℕ) (key : Item) (call : Call) → IsOpen h at event.process key call → call ≡ o.call
      same_call at key call is =
          let s = was.sound o o_there in
          let own = subst (λ q. IsOpen h o.at q s.0 o.call) o_of s.1 in
          let same = one_open functions h alternates_before at o.at event.process key s.0 call o.call is own in
          one_call h at event.process event.process key s.0 call o.call is.begins (subst (λ k. IsOpen h k event.process s.0 o.call) (sym same) own).begins

      pub never_offered : (m : Member S × Path) → ((round : ℕ) → CanTake step o reply m round → ⊥) → IsOnOffer m.0 (event.process, reply) → ⊥
      never_offered m never offered = never offered.0 (inl (subst (λ q. Contains m.0.offers (offered.0, (q, reply))) (sym o_of) offered.1))

      pub never_given : (m : Member S × Path) → ((round : ℕ) → CanTake step o reply m round → ⊥) → IsGiven step h m.0.state (event.process, reply) → ⊥
      never_given m never given =
          never m.1.round (inr (refl, (refl, given.next, subst (λ a. step m.0.state a given.next reply) (same_call given.at given.key given.call given.is_open) given.steps)))

      -- what dominates what an update comes to that returns
      returned_to : (m n : Member S) (d : S × List (ℕ × Reply)) → IsRising n.placed → DominatesOver step observes pending m n (d.0, m.placed)
          → DominatesAt observes (with_event h event) n d.0 m.placed (λ x. IsOnOffer m x ⊎ IsGiven step h m.state x)
      returned_to m n d rising over = record {
        sorted = rising;
        same = over.same;
        part = λ x there. All-contains (λ (y : ℕ × Reply). Contains m.placed y) n.placed x over.part there;
        rest = rest;
        offered = λ x watching absent had. over.offered x (watches x.0 watching) (absent_from x.0 n.placed absent) (elim had [
          | inl offered ↦ inl offered
          | inr given ↦ inr (gives (m.state, m.placed) x
              (λ same. (passes observes functions h event name reply body unique alternates pending opened).shut watching.at x.0 watching.key watching.call same watching.is_open)
              (watches x.0 watching) (absent_from x.0 m.placed (λ other there. elim (rest (x.0, other) there) [
                | inl has ↦ absent other has
                | inr crashed ↦ watching.alive crashed
              ])) given)
        ]);
      }
        where
          rest : (x : ℕ × Reply) → Contains m.placed x → Contains n.placed x ⊎ HasCrashed (with_event h event) x.0
          rest x there = elim (All-contains (λ (y : ℕ × Reply). Contains n.placed y ⊎ (is_crashed pending y.0 ≡ true)) m.placed x over.rest there) [
            | inl has ↦ inl has
            | inr crashed ↦ inr (crashed_to functions (with_event h event) pending opened unique alternates x.0 crashed)
          ]

      pub returned_complete : (begin : S) → IsWellFormed functions (with_event h event) → ObserverSearchLaw begin step → UpdateSearchLaw begin step → (nodes : List (ℕ × (Placed × Option ℕ))) (members out : List (Member S × Path))
          → (r : IsReturnOf step observes o reply pending nodes members out) → ((m : Member S × Path) → Contains members m → IsRising m.0.placed) → ((m : Member S × Path) → IsReached step observes pending nodes r.starts m → IsRising m.0.placed)
          → ((m : Member S × Path) → Contains r.found m → IsRising m.0.placed) → IsComplete begin step observes h (map (λ k. k.0) members) → IsComplete begin step observes (with_event h event) (map (λ k. k.0) out)
      returned_complete begin well_formed by_observer by_update nodes members out r rising reached_rising found_rising complete = by_search r.searched
        where
          found_out : (n : Member S × Path) → Contains r.found n → Contains out n
          found_out n there = subst (λ l. Contains l n) (sym r.both) (Contains-append_left r.found r.made n there)

          taken : (m : Member S) → Contains (map (λ k. k.0) members) m → IsTaken observes (with_event h event) event.process reply (map (λ k. k.0) out) m
          taken m there =
              let k = from_map (λ (x : Member S × Path). x.0) members m there in
              subst (IsTaken observes (with_event h event) event.process reply (map (λ x. x.0) out)) k.2
              (taken_to members r.made out (subst (λ q. IsMade (λ x. Contains x.0.placed (q, reply)) (rest_of observes pending q) members r.made) o_of r.taken)
              (λ n within. subst (λ l. Contains l n) (sym r.both) (Contains-append_right r.found r.made n within)) k.0 k.1)

          own_call : (b : Bool) → observes o.call ≡ b → (at : ℕ) (key : Item) (call : Call) → IsOpen h at event.process key call → observes call ≡ b
          own_call b e at key call is = ap observes (same_call at key call is) ∙ e

          -- what an update makes of a member at once
          returned : observes o.call ≡ false → (k : Member S × Path) → IsPassed step observes o reply pending r.found k → (d : S × List (ℕ × Reply)) (u : IsUpdate step observes h (k.0.state, k.0.placed) d) → u.1.process ≡ event.process
              → u.0.reply ≡ reply → (n : Member S) × Contains (map (λ k. k.0) out) n × DominatesAt observes (with_event h event) n d.0 k.0.placed (λ y. IsOnOffer k.0 y ⊎ IsGiven step h k.0.state y)
          returned update k passed d u process same =
              let placing = u.1 in
              let call = same_call u.0.at placing.key placing.call (subst (λ q. IsOpen h u.0.at q placing.key placing.call) process placing.is_open) in
              let found = passed.returns update d.0 (subst (λ a. step k.0.state a d.0 reply) call (subst (λ a. step k.0.state placing.call d.0 a) same placing.steps)) in
              (found.0.0, in_map (λ (x : Member S × Path). x.0) out found.0 (found_out found.0 found.1), returned_to k.0 found.0.0 d (found_rising found.0 found.1) found.2)

          -- where the operation goes ahead of what is pending, it does so of all that is open
          ahead_of_all : (state : S) → GoesAhead step observes o reply pending state → IsAheadOfAll step observes h (with_event h event) event.process reply state
          ahead_of_all state ahead = (
            λ at q key call is. let t = open_pending (with_event h event) pending opened at q key call is in ap observes (sym t.4) ∙ All-contains (λ (p : Open). observes p.call ≡ false) pending t.0 ahead.quiet t.1,
            λ at key call is. subst (λ a. IsAheadOfOpen step (with_event h event) state a reply) (sym (same_call at key call is)) (λ others mid last apart opens takes steps. ahead.ahead others mid last
                (no_more ahead.hinders others pending apart (λ x there. let is_open = opens x there in
                let t = open_pending (with_event h event) pending opened is_open.0 x.0 is_open.1 x.1 is_open.2 in (t.0, t.1, t.3, t.4))) takes steps),
          )

          by_search : IsFoundFrom step observes o reply pending nodes r.starts r.found → IsComplete begin step observes (with_event h event) (map (λ k. k.0) out)
          by_search s = by (observes o.call) refl
            where
              visited : List (Member S × Path)
              visited = s.visited

              visited_rising : (m : Member S × Path) → Contains visited m → IsRising m.0.placed
              visited_rising m there = reached_rising m (s.reached m there)

              begun : (m : Member S) → Contains (map (λ k. k.0) members) m → ((other : Reply) → Contains m.placed (event.process, other) → ⊥) → (n : Member S) × Contains (map (λ k. k.0) visited) n × Dominates observes h n m
              begun m there absent =
                  let k = from_map (λ (x : Member S × Path). x.0) members m there in
                  let free = subst (λ q. IsAbsent q k.0.0.placed) (sym o_of) (subst (λ (x : Member S). IsAbsent event.process x.placed) (sym k.2) (absent_from event.process m.placed absent)) in (
                    k.0.0,
                    in_map (λ (x : Member S × Path). x.0) visited k.0 (s.begins k.0 (r.begun.complete k.0 k.1 free)),
                    subst (Dominates observes h k.0.0) k.2 (dominates_itself observes h k.0.0 (rising k.0 k.1)),
                  )

              answered : observes o.call ≡ true → (m : Member S) → Contains (map (λ k. k.0) visited) m
                  → ((n : Member S) × Contains (map (λ k. k.0) out) n × Dominates observes (with_event h event) n m)
                  ⊎ ((IsOnOffer m (event.process, reply) → ⊥) × (IsGiven step h m.state (event.process, reply) → ⊥) × IsSearched step observes h event.process (map (λ k. k.0) visited) m)
              answered observer m there =
                  let k = from_map (λ (x : Member S × Path). x.0) visited m there in
                  subst (λ (x : Member S). ((n : Member S) × Contains (map (λ k. k.0) out) n × Dominates observes (with_event h event) n x)
                  ⊎ ((IsOnOffer x (event.process, reply) → ⊥) × (IsGiven step h x.state (event.process, reply) → ⊥) × IsSearched step observes h event.process (map (λ k. k.0) visited) x)) k.2
                  (elim (s.each k.0 k.1) [
                    | inl settled ↦ elim settled [
                      | inl done ↦ inl (
                        done.1.0,
                        in_map (λ (x : Member S × Path). x.0) out done.1 (found_out done.1 done.2),
                        subst (λ (x : Member S). Dominates observes (with_event h event) x k.0.0) (sym done.3)
                            (copy_dominates functions (with_event h event) pending opened unique alternates observes k.0 (visited_rising k.0 k.1)),
                      )
                      | inr ahead ↦ absurd (true≢false (sym observer ∙ ahead.0.update))
                    ]
                    | inr p ↦ inr (never_offered k.0 (p.0.never observer), never_given k.0 (p.0.never observer), searched_to visited visited_rising k.0.0 p.1)
                  ])

              passed : observes o.call ≡ false → (k : Member S × Path) → Contains visited k → IsPassed step observes o reply pending r.found k × (IsSearchedIn step observes pending visited k.0 ⊎ GoesAhead step observes o reply pending k.0.state)
              passed update k there = elim (s.each k there) [
                | inl settled ↦ elim settled [
                  | inl done ↦ absurd (true≢false (sym done.0 ∙ update))
                  | inr ahead ↦ (ahead.1, inr ahead.0)
                ]
                | inr p ↦ (p.0, inl p.1)
              ]

              searched : observes o.call ≡ false → (m : Member S) → Contains (map (λ k. k.0) visited) m
                  → IsSearched step observes h event.process (map (λ k. k.0) visited) m ⊎ IsAheadOfAll step observes h (with_event h event) event.process reply m.state
              searched update m there =
                  let k = from_map (λ (x : Member S × Path). x.0) visited m there in
                  subst (λ (n : Member S). IsSearched step observes h event.process (map (λ x. x.0) visited) n ⊎ IsAheadOfAll step observes h (with_event h event) event.process reply n.state) k.2 (elim (passed update k.0 k.1).1 [
                    | inl all ↦ inl (searched_to visited visited_rising k.0.0 all)
                    | inr ahead ↦ inr (ahead_of_all k.0.0.state ahead)
                  ])

              returns : observes o.call ≡ false → (m : Member S) → Contains (map (λ k. k.0) visited) m → (d : S × List (ℕ × Reply)) (u : IsUpdate step observes h (m.state, m.placed) d) → u.1.process ≡ event.process → u.0.reply ≡ reply
                  → (n : Member S) × Contains (map (λ k. k.0) out) n × DominatesAt observes (with_event h event) n d.0 m.placed (λ x. IsOnOffer m x ⊎ IsGiven step h m.state x)
              returns update m there =
                  let k = from_map (λ (x : Member S × Path). x.0) visited m there in
                  subst (λ (x : Member S). (d : S × List (ℕ × Reply)) (u : IsUpdate step observes h (x.state, x.placed) d) → u.1.process ≡ event.process → u.0.reply ≡ reply
                  → (n : Member S) × Contains (map (λ k. k.0) out) n × DominatesAt observes (with_event h event) n d.0 x.placed (λ y. IsOnOffer x y ⊎ IsGiven step h x.state y)) k.2
                  (returned update k.0 (passed update k.0 k.1).0)

              by : (b : Bool) → observes o.call ≡ b → IsComplete begin step observes (with_event h event) (map (λ k. k.0) out)
              by true e =
                  by_observer observes functions h event name reply body well_formed (own_call true e) (map (λ k. k.0) members) (map (λ k. k.0) visited) (map (λ k. k.0) out) taken begun (answered e) complete
              by false e =
                  by_update observes functions h event name reply body well_formed (own_call false e) (map (λ k. k.0) members) (map (λ k. k.0) visited) (map (λ k. k.0) out) taken begun (searched e) (returns e) complete
