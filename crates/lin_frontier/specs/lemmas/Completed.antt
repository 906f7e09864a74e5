-- What a completion leaves of a frontier is the frontier after it; and what a frontier says of its history.
use Rattle.std.proofs.Common.{◌≡◌, ◌≢◌, ℕ, zero, suc, ◌+◌, ◌<◌, Bool, true, ◌&&◌, List, [], ◌∷◌, length, take, Contains, All, AllPairs, refl, sym, ap, subst, arith, get_or}
use Rattle.std.specs.Map.{keys_of}
use Rattle.std.specs.List.{IsDistinct}
use Rattle.std.specs.Cmp.{IsEquivalence, on_equiv, and_equiv, decided}
use Rattle.std.specs.Cmp.Lexicographic.{pointwise}
use Rattle.std.proofs.lemmas.List.Elements.{All-contains, All-weaker, Contains-get_or}
use Rattle.lin_events.specs.declared.items.Item.{Item}
use Rattle.lin_events.specs.declared.calls.Call.{Call}
use Rattle.lin_events.specs.declared.calls.Name.{Name}
use Rattle.lin_events.specs.declared.calls.Reply.{Reply}
use Rattle.lin_events.specs.declared.events.Body.{Body}
use Rattle.lin_events.specs.declared.events.Body.TheVariants.{Invoke, Ok, Fail, Info}
use Rattle.lin_events.specs.declared.events.Event.{Event}
use Rattle.lin_events.specs.WellFormed.{IsWellFormed}
use Rattle.lin_order.specs.declared.placed.Placed.{Placed}
use Rattle.lin_order.specs.Linearizable.{IsLinearizableBy}
use Rattle.lin_order.specs.Configurations.{EndsIn, IsAdded, IsConfiguration, IsOver}
use Rattle.lin_order.specs.ConfigurationLaws.{with_event, AfterOk, AtStart, FailLaw, InfoLaw, LegalOrdersEnd, OkLaw}
use Rattle.lin_frontier.specs.Frontiers.{IsFrontier}
use Rattle.lin_frontier.specs.Nodes.{root}
use Rattle.lin_frontier.specs.Placing.{IsKeeping, without}
use Rattle.lin_frontier.specs.Sameness.{pair_eq, placed_Decides}
use Rattle.lin_frontier.specs.lemmas.AfterEvents.{IsNoted}
use Rattle.lin_frontier.specs.lemmas.Closing.{first_keys}
use Rattle.lin_frontier.specs.lemmas.Inserting.{absent_from, none_from, taken_out, without_is}

-- where the test of states is an equivalence, so is that of configurations
pub configs_equivalent : {S : Type 0} {eq : S → S → Bool} → IsEquivalence eq → IsEquivalence (λ (c d : S × List (ℕ × Reply)). eq c.0 d.0 && pointwise pair_eq c.1 d.1)
configs_equivalent laws = and_equiv (on_equiv (λ (a : _ × _). a.0) laws) (on_equiv (λ (a : _ × _). a.1) (decided (pointwise pair_eq) placed_Decides))

module _ {S : Type 0} (start : S) (step : S → Call → S → Reply → Type 0) (functions : Item → Name → Bool) (h : List Event) (event : Event)
    (well_formed : IsWellFormed functions (with_event h event)) (entries new : List ((S × List (ℕ × Reply)) × ℕ)) (nodes : List (ℕ × Placed)) (frontier : IsFrontier start step h entries nodes)
    (distinct : AllPairs (λ a b. a.0 ≢ b.0) new) where
  noted : (c : S × List (ℕ × Reply)) (id : ℕ) → Contains entries (c, id) → IsNoted start step h nodes (c, id)
  noted c id there = All-contains (IsNoted start step h nodes) entries (c, id) frontier.sound there

  completed_ok : (name : Name) (reply : Reply) → event.body ≡ Ok name reply → OkLaw start step → IsKeeping event.process (Ok name reply) entries new → IsFrontier start step (with_event h event) new nodes
  completed_ok name reply is law kept = record {
    sound = λ k d inside.
        let e = get_or new k d in
        let s = kept.sound e (Contains-get_or new k d inside) in
        let n = noted s.0 e.1 s.1 in
        let ends = subst (λ c. EndsIn start step h n.0 c) (whole s.0 e.0 s.2.1) n.2 in
        let out = taken_out event.process reply s.0.1 n.2.placed.rising s.2.0 in
        let added = subst (λ l. IsAdded event.process reply l s.0.1) (sym (ap (λ (c : S × List (ℕ × Reply)). c.1) s.2.1)) out in
        (n.0, n.1, after.kept n.0 e.0 s.0.1 ends added);
    complete = λ c config.
        let was = after.was config.0 c config.1 in
        kept.complete (c.0, was.0) c (frontier.complete (c.0, was.0) (config.0, was.1)) (was.2.has, λ i. (c.0, without_is event.process reply c.1 was.0 was.2 i));
    distinct = distinct;
  }
    where
      after : AfterOk start step h event reply
      after = law functions h event name reply is well_formed

      whole : (c d : S × List (ℕ × Reply)) → d ≡ (c.0, without event.process c.1) → c ≡ (d.0, c.1)
      whole c d e = λ i. (sym (ap (λ (x : S × List (ℕ × Reply)). x.0) e) i, c.1)

  completed_fail : (name : Name) → event.body ≡ Fail name → FailLaw start step → IsKeeping event.process (Fail name) entries new → IsFrontier start step (with_event h event) new nodes
  completed_fail name is law kept = record {
    sound = λ k d inside.
        let e = get_or new k d in
        let s = kept.sound e (Contains-get_or new k d inside) in
        let n = noted s.0 e.1 s.1 in (
          n.0,
          n.1,
          (law functions h event name is well_formed n.0 e.0).1
              (subst (EndsIn start step h n.0) (sym s.2.1) n.2, λ reply there. none_from event.process s.0.1 s.2.0 reply (subst (λ (c : S × List (ℕ × Reply)). Contains c.1 (event.process, reply)) s.2.1 there)),
        );
    complete = λ c config.
        let was = (law functions h event name is well_formed config.0 c).0 config.1 in
        kept.complete c c (frontier.complete c (config.0, was.0)) (absent_from event.process c.1 was.1, refl);
    distinct = distinct;
  }

  completed_info : (name : Name) → event.body ≡ Info name → InfoLaw start step → IsKeeping event.process (Info name) entries new → IsFrontier start step (with_event h event) new nodes
  completed_info name is law kept = record {
    sound = λ k d inside.
        let e = get_or new k d in
        let s = kept.sound e (Contains-get_or new k d inside) in
        let n = noted s.0 e.1 s.1 in
        (n.0, n.1, (law functions h event name is well_formed n.0 e.0).1 (subst (EndsIn start step h n.0) (sym s.2) n.2));
    complete = λ c config.
        let was = (law functions h event name is well_formed config.0 c).0 config.1 in
        kept.complete c c (frontier.complete c (config.0, was)) refl;
    distinct = distinct;
  }

  -- a completion: what it leaves
  pub frontier_completed : ((call : Call) → event.body ≡ Invoke call → ⊥) → OkLaw start step → FailLaw start step → InfoLaw start step → IsKeeping event.process event.body entries new
      → IsFrontier start step (with_event h event) new nodes
  frontier_completed not_invoke ok fail info kept = by event.body refl kept
    where
      by : (b : Body) → event.body ≡ b → IsKeeping event.process b entries new → IsFrontier start step (with_event h event) new nodes
      by (Invoke call) is k = absurd (not_invoke call is)
      by (Ok name reply) is k = completed_ok name reply is ok k
      by (Fail name) is k = completed_fail name is fail k
      by (Info name) is k = completed_info name is info k

module _ {S : Type 0} (start : S) (step : S → Call → S → Reply → Type 0) where
  -- a frontier of more than the budget
  pub over_from : {eq : (S × List (ℕ × Reply)) → (S × List (ℕ × Reply)) → Bool} → IsEquivalence eq → ((x y : S × List (ℕ × Reply)) → eq x y ≡ true → x ≡ y)
      → (h : List Event) (entries : List ((S × List (ℕ × Reply)) × ℕ)) (nodes : List (ℕ × Placed)) (budget : ℕ) → budget < length entries → IsDistinct eq (keys_of entries)
      → IsFrontier start step h entries nodes → IsOver start step h budget
  over_from laws same h entries nodes budget many unique frontier =
      let parts = first_keys laws same (IsConfiguration start step h) budget entries many unique
      (All-weaker (IsNoted start step h nodes) (λ (e : (S × List (ℕ × Reply)) × ℕ). IsConfiguration start step h e.0) (λ e n. (n.0, n.2)) entries frontier.sound) in
      record { found = take (budget + 1) (keys_of entries); many = parts.0; configurations = parts.1; distinct = parts.2 }

  -- an empty frontier
  pub none_legal : (functions : Item → Name → Bool) (h : List Event) (entries : List ((S × List (ℕ × Reply)) × ℕ)) (nodes : List (ℕ × Placed)) → length entries ≡ 0 → LegalOrdersEnd start step
      → IsWellFormed functions h → IsFrontier start step h entries nodes → IsLinearizableBy start step h → ⊥
  none_legal functions h [] nodes empty law well_formed frontier legal =
      let ends = law functions h legal.0 well_formed legal.1 in
      let there = frontier.complete ends.0 (legal.0, ends.1) in
      let inside = there.1 in
      omega arith
  none_legal functions h (e ∷ es) nodes empty law well_formed frontier legal = absurd (omega (arith, empty))

  -- the frontier of the empty history
  pub frontier_first : AtStart start step → (entries : List ((S × List (ℕ × Reply)) × ℕ)) (nodes : List (ℕ × Placed)) → entries ≡ ((start, []), 0) ∷ [] → IsFrontier start step [] entries nodes
  frontier_first law entries nodes is = subst (λ es. IsFrontier start step [] es nodes) (sym is) (record {
    sound = λ k d inside. by k d inside;
    complete = λ c config. (0, omega arith, sym (law.1 c config));
    distinct = λ i j d below inside. absurd (omega arith);
  })
    where
      by : All (IsNoted start step [] nodes) (((start, []), 0) ∷ [])
      by zero d inside = ([], root, law.0)
      by (suc k) d inside = absurd (omega arith)
