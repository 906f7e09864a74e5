-- The sets of all configurations of the prefixes of a history without a legal order refute it.
use Rattle.std.proofs.Common.{◌≡◌, ℕ, suc, ◌+◌, Bool, List, [], ◌∷◌, length, Contains, Some, take, refl, sym, ap, subst, ◌∙◌, arith, add-one}
use Rattle.std.proofs.lemmas.Option.{slice_get_within}
use Rattle.std.proofs.lemmas.List.{take_all}
use Rattle.lin_events.specs.declared.items.Item.{Item}
use Rattle.lin_events.specs.declared.calls.Name.{Name}
use Rattle.lin_events.specs.declared.events.Body.{Body}
use Rattle.lin_events.specs.declared.events.Body.TheVariants.{Invoke, Ok, Fail, Info}
use Rattle.lin_events.specs.declared.events.Event.{Event}
use Rattle.lin_events.specs.Alternation.{IsAlternating}
use Rattle.lin_objects.specs.declared.kinds.Kind.{Kind}
use Rattle.lin_objects.specs.Steps.{Step, start}
use Rattle.lin_order.specs.Configurations.{EndsIn, IsConfiguration, IsRising}
use Rattle.lin_order.specs.ConfigurationLaws.{with_event}
use Rattle.lin_order.specs.Linearizable.{IsLegalOrderBy, IsLinearizableBy}
use Rattle.lin_order.specs.Refutations.{AreConfigurations, Config, IsLeft, IsRefutation, IsSet}
use Rattle.lin_lists.specs.lemmas.Elements.{all_of}
use Rattle.lin_order.specs.lemmas.Placing.{placing_lem}
use Rattle.lin_order.specs.lemmas.Invoking.{after_invocation}
use Rattle.lin_order.specs.lemmas.Completing.{ok_lem, fail_lem, info_lem}
use Rattle.lin_order.specs.lemmas.Ending.{start_lem}
use Rattle.lin_order.proofs.Refuting.{there_is, one_further}

none_if_nothing : {A : Type 0} (xs : List A) → ((x : A) → Contains xs x → ⊥) → xs ≡ []
none_if_nothing [] nothing = refl
none_if_nothing (x ∷ xs) nothing = absurd (nothing x (0, omega arith, refl))

module _ (functions : Item → Name → Bool) (h : List Event) (kind : Kind) (sets : List (List Config)) (count : length sets ≡ length h + 1)
    (exact : (i : ℕ) (set : List Config) → IsSet sets i set → AreConfigurations kind (take i h) set)
    (alternates : (n : ℕ) → IsAlternating functions (take n h)) (fails : IsLinearizableBy (start kind) (Step kind) h → ⊥) where
  -- what an event leaves of a configuration is one
  left : (g : List Event) (event : Event) → IsAlternating functions (with_event g event) → (c d : Config) → IsConfiguration (start kind) (Step kind) g c
      → IsLeft event.process event.body c d → IsConfiguration (start kind) (Step kind) (with_event g event) d
  left g event alternating c d is there = by event.body refl there
    where
      by : (body : Body) → event.body ≡ body → IsLeft event.process body c d → IsConfiguration (start kind) (Step kind) (with_event g event) d
      by (Invoke call) same e = subst (IsConfiguration (start kind) (Step kind) (with_event g event)) e
          (is.0, (after_invocation (start kind) (Step kind) functions g event call same alternating).stays is.0 c is.1)
      by (Ok name reply) same e = (
        is.0,
        (ok_lem (start kind) (Step kind) functions g event name reply alternating same).kept is.0 d c.1
            (subst (λ s. EndsIn (start kind) (Step kind) g is.0 (s, c.1)) e.0 is.1) e.1,
      )
      by (Fail name) same e = subst (IsConfiguration (start kind) (Step kind) (with_event g event)) e.0
          (is.0, (fail_lem (start kind) (Step kind) functions g event name alternating same is.0 c).1 (is.1, e.1))
      by (Info name) same e = subst (IsConfiguration (start kind) (Step kind) (with_event g event)) e
          (is.0, (info_lem (start kind) (Step kind) functions g event name same is.0 c).1 is.1)

  pub exact_sets_refute_lem : IsRefutation h kind sets
  exact_sets_refute_lem = record {
    count = count;
    rising = λ i set there. all_of (λ (c : Config). IsRising c.1) set (λ c has. ((exact i set there c).0 has).1.placed.rising);
    begins = λ set there. (exact 0 set there (start kind, [])).1 ([], (start_lem (start kind) (Step kind)).0);
    closed = λ i set there c d p has placing. let is = (exact i set there c).0 has in (exact i set there d).1 (_, placing_lem (start kind) (Step kind) (take i h) is.0 c d p is.1 placing);
    kept = λ i event before after is there then c d has leaves.
        let inside = slice_get_within h i event is in
        let further = one_further h i event inside is in
        let longer : take (i + 1) h ≡ with_event (take i h) event = ap (λ n. take n h) (add-one i) ∙ further in
        (exact (i + 1) after then d).1 (subst (λ g. IsConfiguration (start kind) (Step kind) g d) (sym longer)
        (left (take i h) event (subst (IsAlternating functions) further (alternates (suc i))) c d ((exact i before there c).0 has) leaves));
    ends =
        let last = there_is sets (length h) (omega (arith, count)) in
        let whole = take_all (length h) h (omega arith) in
        let empty = none_if_nothing last.0 (λ c has.
        let is = (exact (length h) last.0 last.1 c).0 has in
        fails (is.0, subst (λ g. IsLegalOrderBy (start kind) (Step kind) g is.0) whole (record { order_of = is.1.order_of; legal = (_, is.1.runs) }))) in
        last.1 ∙ ap Some empty;
  }
