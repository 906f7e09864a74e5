-- Members and their rounds after an invocation, an info and a fail.
use Rattle.std.proofs.Common.{◌≡◌, ℕ, zero, suc, ◌<◌, Bool, true, false, List, [], ◌∷◌, ◌++◌, length, Contains, map, refl, sym, ap, subst, arith, get_or, Option, Some, None}
use Rattle.lin_events.specs.declared.items.Item.{Item}
use Rattle.lin_events.specs.declared.calls.Call.{Call}
use Rattle.lin_events.specs.declared.calls.Name.{Name}
use Rattle.lin_events.specs.declared.calls.Reply.{Reply}
use Rattle.lin_events.specs.declared.events.Body.TheVariants.{Invoke, Fail, Info}
use Rattle.lin_events.specs.declared.events.Event.{Event}
use Rattle.lin_events.specs.Alternation.{IsAlternating}
use Rattle.lin_events.specs.WellFormed.{IsWellFormed}
use Rattle.lin_events.specs.WellFormedLaws.{EndsAreUnique}
use Rattle.lin_order.specs.declared.placed.Placed.{Placed}
use Rattle.lin_order.specs.ConfigurationLaws.{with_event}
use Rattle.lin_order.specs.Configurations.{IsRising}
use Rattle.lin_members.specs.declared.members.Path.{Path}
use Rattle.lin_frontier.specs.declared.pending.Open.{Open}
use Rattle.lin_members.specs.Compressed.{IsSpelled, IsCovering}
use Rattle.lin_frontier.specs.Frontiers.{IsPending}
use Rattle.lin_members.specs.MemberLaws.{DroppingLaw, InvocationKeepsLaw, InfoKeepsLaw, FailKeepsLaw}
use Rattle.lin_members.specs.Members.{Member, IsDominated, Dominates}
use Rattle.lin_frontier.specs.Nodes.{IsGrown}
use Rattle.lin_frontier.specs.Placing.{IsAbsent}
use Rattle.lin_members.specs.RoundLaws.{FewerLaw, TrailInvocationLaw, TrailInfoLaw, TrailFailLaw}
use Rattle.lin_members.specs.Overwritten.{AllowsOverwritten, IsAbove, IsCompleteFor}
use Rattle.lin_members.specs.OverwrittenLaws.{AboveLaw, AllowsOnLaw, FailWithLaw, InfoWithLaw, InvocationWithLaw}
use Rattle.lin_members.specs.Rounds.{joined, SpellsRounds, root, begins, puts}
use Rattle.lin_members.specs.Searching.{is_watching, copy_of, IsMade}
use Rattle.lin_frontier.specs.lemmas.Absorbing.{get_more}
use Rattle.lin_frontier.specs.lemmas.Inserting.{passed_by, absent_from, none_from}
use Rattle.lin_members.specs.lemmas.Joining.{runs_joined}
use Rattle.lin_members.specs.lemmas.Pruned.{copy_dominates}
use Rattle.lin_objects.specs.Observing.{IsObserving}
use Rattle.lin_objects.specs.Total.{Reaches}
use Rattle.lin_order.specs.lemmas.Running.{runs_reach}
use Rattle.lin_lists.specs.lemmas.Filters.{in_map, from_map}

pub rounds_stay : (nodes now : List (ℕ × (Placed × Option ℕ))) (id : ℕ) (rounds : List (List Placed)) → IsGrown nodes now → SpellsRounds nodes id rounds → SpellsRounds now id rounds
rounds_stay nodes now id rounds grown s = subst (λ n. SpellsRounds n id rounds) (sym grown.1) (by id rounds s)
  where
    by : (id : ℕ) (rounds : List (List Placed)) → SpellsRounds nodes id rounds → SpellsRounds (nodes ++ grown.0) id rounds
    by zero rounds root = root
    by id rounds (begins {k} {parent} {rounds = front} {p} at rest) = begins (get_more nodes grown.0 k (parent, (p, None)) at) (by parent front rest)
    by id rounds (puts {k} {parent} {round} {rounds = front} {p} at rest) = puts (get_more nodes grown.0 k (parent, (p, Some round)) at) (by parent front rest)

module _ {S : Type 0} (start : S) (step : S → Call → S → Reply → Type 0) (observes : Call → Bool) where
  pub spelled_stays : (h : List Event) (nodes now : List (ℕ × (Placed × Option ℕ))) (m : Member S × Path) → IsGrown nodes now → IsSpelled start step observes h nodes m → IsSpelled start step observes h now m
  spelled_stays h nodes now m grown s = record { states = s.states; rounds = s.rounds; spelled = rounds_stay nodes now m.1.node s.rounds grown s.spelled; last = s.last; trail = s.trail }

  pub spelled_rising : (h : List Event) (nodes : List (ℕ × (Placed × Option ℕ))) (m : Member S × Path) → IsSpelled start step observes h nodes m → IsRising m.0.placed
  spelled_rising h nodes m s = s.trail.trail.placed.rising

  -- the object comes to its state
  pub spelled_reached : (h : List Event) (nodes : List (ℕ × (Placed × Option ℕ))) (m : Member S × Path) → IsSpelled start step observes h nodes m → Reaches step start m.0.state
  spelled_reached h nodes m s = runs_reach step h (joined s.rounds) start m.0.state (runs_joined step h s.states s.rounds start m.0.state s.trail.trail.runs)

  -- with fewer offers
  pub spelled_copy : FewerLaw start step → (h : List Event) (nodes : List (ℕ × (Placed × Option ℕ))) (pending : List Open) (m : Member S × Path) → IsSpelled start step observes h nodes m
      → IsSpelled start step observes h nodes (copy_of observes pending m)
  spelled_copy fewer h nodes pending m s = record {
    states = s.states;
    rounds = s.rounds;
    spelled = s.spelled;
    last = s.last;
    trail = fewer observes h s.states s.rounds m.0 (copy_of observes pending m).0 refl refl (λ x there. (passed_by (λ (y : ℕ × (ℕ × Reply)). is_watching observes pending y.1.0) m.0.offers x there).0) s.trail;
  }

  module _ (overwriting : Bool) (functions : Item → Name → Bool) (h : List Event) (event : Event) (well_formed : IsWellFormed functions (with_event h event)) (unique : EndsAreUnique)
      (alternates : IsAlternating functions (with_event h event)) (pending : List Open) (opened : IsPending (with_event h event) pending) (nodes : List (ℕ × (Placed × Option ℕ))) (members out : List (Member S × Path)) where
    abbrev g : List Event
    g = with_event h event

    -- each member is dominated by its copy
    copies_dominate : IsMade (λ m. Unit {0}) (copy_of observes pending) members out → ((m : Member S × Path) → Contains members m → IsRising m.0.placed) → IsDominated observes g (map (λ m. m.0) members) (map (λ m. m.0) out)
    copies_dominate made rising n there =
        let m = from_map (λ (x : Member S × Path). x.0) members n there in (
          (copy_of observes pending m.0).0,
          in_map (λ (x : Member S × Path). x.0) out (copy_of observes pending m.0) (made.complete m.0 m.1 tt),
          subst (Dominates observes g (copy_of observes pending m.0).0) m.2 (copy_dominates functions g pending opened unique alternates observes m.0 (rising m.0 m.1)),
        )

    -- which allows as early updates
    copy_above : (m : Member S × Path) → IsRising m.0.placed → IsAbove observes g (copy_of observes pending m) m
    copy_above m rising = (copy_dominates functions g pending opened unique alternates observes m rising, omega arith)

    copies_above : IsMade (λ m. Unit {0}) (copy_of observes pending) members out → ((m : Member S × Path) → Contains members m → IsRising m.0.placed)
        → (m : Member S × Path) → Contains members m → (n : Member S × Path) × Contains out n × IsAbove observes g n m
    copies_above made rising m there = (copy_of observes pending m, made.complete m there tt, copy_above m (rising m there))

    copies_spelled : FewerLaw start step → IsMade (λ m. Unit {0}) (copy_of observes pending) members out → ((m : Member S × Path) → Contains members m → IsSpelled start step observes g nodes m)
        → (n : Member S × Path) → Contains out n → IsSpelled start step observes g nodes n
    copies_spelled fewer made spelled n there =
        let s = made.sound n there in
        subst (IsSpelled start step observes g nodes) (sym s.3) (spelled_copy fewer g nodes pending s.0 (spelled s.0 s.1))

    -- overwritten updates can be placed in the rounds of a copy as in those of its member
    copies_allow : {P : Member S × Path → Type 0} → AllowsOnLaw S → IsMade P (copy_of observes pending) members out → IsCovering start step observes overwriting h members nodes
        → overwriting ≡ true → (n : Member S × Path) → Contains out n → (rounds : List (List Placed)) → SpellsRounds nodes n.1.node rounds → AllowsOverwritten observes g n rounds
    copies_allow on made c is n there rounds =
        let s = made.sound n there in
        subst (λ (k : Member S × Path). SpellsRounds nodes k.1.node rounds → AllowsOverwritten observes g k rounds) (sym s.3) (λ spelled.
        on observes h event s.0 (copy_of observes pending s.0) rounds refl (λ x within. (passed_by (λ (y : ℕ × (ℕ × Reply)). is_watching observes pending y.1.0) s.0.0.offers x within).0) (c.overwritten is s.0 s.1 rounds spelled))

    pub invoked : (call : Call) → event.body ≡ Invoke call → IsObserving step observes → InvocationKeepsLaw start step → InvocationWithLaw start step → DroppingLaw start step → AboveLaw start step → TrailInvocationLaw start step
        → FewerLaw start step → AllowsOnLaw S → IsMade (λ m. Unit {0}) (copy_of observes pending) members out → IsCovering start step observes overwriting h members nodes → IsCovering start step observes overwriting g out nodes
    invoked call body observing keeps keeps_with dropping above trail fewer on made c = record {
      complete = by overwriting c.complete;
      spelled = copies_spelled fewer made (λ m there. let s = c.spelled m there in record {
        states = s.states;
        rounds = s.rounds;
        spelled = s.spelled;
        last = s.last;
        trail = trail observes functions h event call body well_formed s.states s.rounds m.0 s.trail;
      });
      overwritten = copies_allow on made c;
    }
      where
        rising : (m : Member S × Path) → Contains members m → IsRising m.0.placed
        rising m there = spelled_rising h nodes m (c.spelled m there)

        by : (overwriting : Bool) → IsCompleteFor start step observes overwriting h members → IsCompleteFor start step observes overwriting g out
        by false complete = dropping observes g (map (λ m. m.0) members) (map (λ m. m.0) out) (copies_dominate made rising)
            (keeps observes observing functions h event call body well_formed (map (λ m. m.0) members) complete)
        by true complete = above observes g members out (copies_above made rising) (keeps_with observes observing functions h event call body well_formed members complete)

    pub informed : (name : Name) → event.body ≡ Info name → InfoKeepsLaw start step → InfoWithLaw start step → TrailInfoLaw start step → FewerLaw start step → AllowsOnLaw S
        → IsMade (λ m. Unit {0}) (copy_of observes pending) members out → IsCovering start step observes overwriting h members nodes → IsCovering start step observes overwriting g out nodes
    informed name body keeps keeps_with trail fewer on made c = record {
      complete = by overwriting c.complete;
      spelled = copies_spelled fewer made (λ m there. let s = c.spelled m there in record {
        states = s.states;
        rounds = s.rounds;
        spelled = s.spelled;
        last = s.last;
        trail = trail observes functions h event name body well_formed s.states s.rounds m.0 s.trail;
      });
      overwritten = copies_allow on made c;
    }
      where
        rising : (m : Member S × Path) → Contains members m → IsRising m.0.placed
        rising m there = spelled_rising h nodes m (c.spelled m there)

        by : (overwriting : Bool) → IsCompleteFor start step observes overwriting h members → IsCompleteFor start step observes overwriting g out
        by false complete = keeps observes functions h event name body well_formed (map (λ m. m.0) members) (map (λ m. m.0) out) (copies_dominate made rising) complete
        by true complete = keeps_with observes functions h event name body well_formed members out (copies_above made rising) complete

    -- nobody waits for an operation of the process
    pub failed : (name : Name) → event.body ≡ Fail name → (is_watching observes pending event.process ≡ true → ⊥) → FailKeepsLaw start step → FailWithLaw start step → TrailFailLaw start step → FewerLaw start step → AllowsOnLaw S
        → IsMade (λ m. IsAbsent event.process m.0.placed) (copy_of observes pending) members out → IsCovering start step observes overwriting h members nodes → IsCovering start step observes overwriting g out nodes
    failed name body nobody keeps keeps_with trail fewer allows made c = record {
      complete = by overwriting c.complete;
      spelled = λ n there.
          let s = made.sound n there in
          subst (IsSpelled start step observes g nodes) (sym s.3) (on s.0 s.2 (spelled_copy fewer h nodes pending s.0 (c.spelled s.0 s.1)));
      overwritten = copies_allow allows made c;
    }
      where
        kept : (m : Member S × Path) → Contains members m → ((reply : Reply) → Contains m.0.placed (event.process, reply) → ⊥) → Contains out (copy_of observes pending m) × IsAbove observes g (copy_of observes pending m) m
        kept m there absent = (made.complete m there (absent_from event.process m.0.placed absent), copy_above m (spelled_rising h nodes m (c.spelled m there)))

        by : (overwriting : Bool) → IsCompleteFor start step observes overwriting h members → IsCompleteFor start step observes overwriting g out
        by false complete = keeps observes functions h event name body well_formed (map (λ m. m.0) members) (map (λ m. m.0) out) (λ n there absent.
            let m = from_map (λ (x : Member S × Path). x.0) members n there in
            let k = kept m.0 m.1 (subst (λ (x : Member S). (reply : Reply) → Contains x.placed (event.process, reply) → ⊥) (sym m.2) absent) in (
              (copy_of observes pending m.0).0,
              in_map (λ (x : Member S × Path). x.0) out (copy_of observes pending m.0) k.0,
              subst (Dominates observes g (copy_of observes pending m.0).0) m.2 k.1.0,
            )) complete
        by true complete = keeps_with observes functions h event name body well_formed members out (λ m there absent. let k = kept m there absent in (copy_of observes pending m, k.0, k.1)) complete

        on : (m : Member S × Path) → IsAbsent event.process m.0.placed → IsSpelled start step observes h nodes (copy_of observes pending m) → IsSpelled start step observes g nodes (copy_of observes pending m)
        on m absent s = record {
          states = s.states;
          rounds = s.rounds;
          spelled = s.spelled;
          last = s.last;
          trail = trail observes functions h event name body well_formed s.states s.rounds (copy_of observes pending m).0 (none_from event.process m.0.placed absent)
              (λ round reply there. nobody (passed_by (λ (y : ℕ × (ℕ × Reply)). is_watching observes pending y.1.0) m.0.offers (round, (event.process, reply)) there).1) s.trail;
        }
