-- Each set of a refutation holds all configurations of its prefix.
use Rattle.std.proofs.Math.Seq.{take-suc}
use Rattle.std.proofs.Common.{◌≡◌, ℕ, zero, suc, ◌+◌, ◌<◌, ◌≤◌, Bool, List, [], ◌∷◌, ◌++◌, length, Contains, Some, slice_get, take, refl, sym, ap, subst, ◌∙◌, arith, add-one}
use Rattle.std.proofs.lemmas.Option.{get_or_from_slice_get}
use Rattle.std.proofs.lemmas.List.{take_all}
use Rattle.lin_events.specs.declared.items.Item.{Item}
use Rattle.lin_events.specs.declared.calls.Name.{Name}
use Rattle.lin_events.specs.declared.events.Body.{Body}
use Rattle.lin_events.specs.declared.events.Body.TheVariants.{Invoke, Ok, Fail, Info}
use Rattle.lin_events.specs.declared.events.Event.{Event}
use Rattle.lin_events.specs.Alternation.{IsAlternating}
use Rattle.lin_events.specs.Operations.{IsEvent}
use Rattle.lin_objects.specs.declared.kinds.Kind.{Kind}
use Rattle.lin_objects.specs.Steps.{Step, start}
use Rattle.lin_order.specs.declared.placed.Placed.{Placed}
use Rattle.lin_order.specs.Linearizable.{IsLinearizableBy}
use Rattle.lin_order.specs.Configurations.{IsConfiguration, IsPlacedOn, none, more}
use Rattle.lin_order.specs.ConfigurationLaws.{with_event}
use Rattle.lin_order.specs.Refutations.{Config, IsSet, IsClosed, IsLeft, IsRefutation}
use Rattle.lin_lists.specs.lemmas.Elements.{nothing_in}
use Rattle.lin_events.specs.lemmas.OneMore.{alternates_before}
use Rattle.lin_order.specs.lemmas.Invoking.{after_invocation}
use Rattle.lin_order.specs.lemmas.Completing.{ok_lem, fail_lem, info_lem}
use Rattle.lin_order.specs.lemmas.Ending.{start_lem, ends}

-- what stands at a position inside
pub there_is : {A : Type 0} (xs : List A) (n : ℕ) → n < length xs → (x : A) × (slice_get xs n ≡ Some x)
there_is [] n inside = absurd (omega arith)
there_is (x ∷ xs) zero inside = (x, refl)
there_is (x ∷ xs) (suc n) inside = there_is xs n (omega arith)

-- the first events and one more
pub one_further : (h : List Event) (n : ℕ) (event : Event) → n < length h → IsEvent h n event → take (suc n) h ≡ with_event (take n h) event
one_further h n event inside is = take-suc h n event inside ∙ ap (λ (e : Event). take n h ++ e ∷ []) (get_or_from_slice_get h n event event is)

-- a closed set holds whatever is reached from it by placing
along : (kind : Kind) (h : List Event) (set : List Config) → IsClosed kind h set → (b c : Config) (order : List Placed) → IsPlacedOn (Step kind) h b order c → Contains set b → Contains set c
along kind h set closed b c order none there = there
along kind h set closed b c order (more {d = d} {p = p} before placing) there = closed d c p (along kind h set closed b d _ before there) placing

module _ (functions : Item → Name → Bool) (h : List Event) (kind : Kind) (sets : List (List Config)) (is : IsRefutation h kind sets) where
  -- from the prefix of one event fewer
  next : (n : ℕ) → n < length h → (event : Event) → IsEvent h n event → IsAlternating functions (with_event (take n h) event) → (before after : List Config)
      → ((b : Config) → IsConfiguration (start kind) (Step kind) (take n h) b → Contains before b)
      → ((b d : Config) → Contains before b → IsLeft event.process event.body b d → Contains after d)
      → IsClosed kind (with_event (take n h) event) after
      → (c : Config) → IsConfiguration (start kind) (Step kind) (with_event (take n h) event) c → Contains after c
  next n inside event there alternates before after all kept closed c reached = by event.body refl
    where
      by : (body : Body) → event.body ≡ body → Contains after c
      by (Invoke call) same =
          let r = (after_invocation (start kind) (Step kind) functions (take n h) event call same alternates).reached c reached in
          along kind (with_event (take n h) event) after closed r.0 c r.1 r.3 (kept r.0 r.0 (all r.0 r.2) (subst (λ x. IsLeft event.process x r.0 r.0) (sym same) refl))
      by (Ok name reply) same =
          let r = (ok_lem (start kind) (Step kind) functions (take n h) event name reply alternates same).was reached.0 c reached.1 in
          kept (c.0, r.0) c (all (c.0, r.0) (reached.0, r.1)) (subst (λ x. IsLeft event.process x (c.0, r.0) c) (sym same) (refl, r.2))
      by (Fail name) same =
          let r = (fail_lem (start kind) (Step kind) functions (take n h) event name alternates same reached.0 c).0 reached.1 in
          kept c c (all c (reached.0, r.0)) (subst (λ x. IsLeft event.process x c c) (sym same) (refl, r.1))
      by (Info name) same =
          let r = (info_lem (start kind) (Step kind) functions (take n h) event name same reached.0 c).0 reached.1 in
          kept c c (all c (reached.0, r)) (subst (λ x. IsLeft event.process x c c) (sym same) refl)

  holds_all : (n : ℕ) → n ≤ length h → IsAlternating functions (take n h) → (set : List Config) → IsSet sets n set → (c : Config) → IsConfiguration (start kind) (Step kind) (take n h) c → Contains set c
  holds_all zero fits alternates set there c reached = subst (Contains set) (sym ((start_lem (start kind) (Step kind)).1 c reached)) (is.begins set there)
  holds_all (suc n) fits alternates set there c reached =
      let e = there_is h n (omega arith) in
      let count = is.count in
      let before = there_is sets n (omega arith) in
      let further = one_further h n e.0 (omega arith) e.1 in
      let alternating = subst (IsAlternating functions) further alternates in
      let after : IsSet sets (n + 1) set = subst (λ k. IsSet sets k set) (sym (add-one n)) there in
      next n (omega arith) e.0 e.1 alternating before.0 set
      (holds_all n (omega arith) (alternates_before (take n h) e.0 functions alternating) before.0 before.1)
      (is.kept n e.0 before.0 set e.1 before.1 after)
      (subst (λ g. IsClosed kind g set) further (is.closed (suc n) set there))
      c (subst (λ g. IsConfiguration (start kind) (Step kind) g c) further reached)

  pub no_orders : IsAlternating functions h → IsLinearizableBy (start kind) (Step kind) h → ⊥
  no_orders alternates orders =
      let whole = take_all (length h) h (omega arith) in
      let c = ends functions h alternates (start kind) (Step kind) orders.0 orders.1 in
      nothing_in c.0 (holds_all (length h) (omega arith) (subst (IsAlternating functions) (sym whole) alternates) [] is.ends c.0
      (subst (λ g. IsConfiguration (start kind) (Step kind) g c.0) (sym whole) (orders.0, c.1)))
