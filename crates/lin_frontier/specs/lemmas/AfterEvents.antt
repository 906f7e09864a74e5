-- What an event makes of a frontier is the frontier after the event.
use Rattle.std.proofs.Common.{◌≡◌, ℕ, zero, suc, ◌<◌, Bool, false, List, [], ◌∷◌, ◌++◌, length, Contains, ◌⊎◌, inl, inr, refl, sym, ap, subst, ◌∙◌, append_assoc, arith, get_or}
use Rattle.std.specs.Map.{keys_of}
use Rattle.std.proofs.lemmas.List.{append-nil}
use Rattle.std.proofs.lemmas.List.Elements.{All-contains, All-weaker, Contains-append_right}
use Rattle.std.proofs.lemmas.Bool.{cases_eq}
use Rattle.lin_events.specs.declared.items.Item.{Item}
use Rattle.lin_events.specs.declared.calls.Call.{Call}
use Rattle.lin_events.specs.declared.calls.Name.{Name}
use Rattle.lin_events.specs.declared.calls.Reply.{Reply}
use Rattle.lin_events.specs.declared.events.Body.TheVariants.{Invoke, Ok, Fail}
use Rattle.lin_events.specs.declared.events.Event.{Event}
use Rattle.lin_events.specs.Alternation.{IsAlternating}
use Rattle.lin_events.specs.Operations.{IsOperation, IsOpen}
use Rattle.lin_events.specs.WellFormedLaws.{WellFormedIsAlternating}
use Rattle.lin_order.specs.declared.placed.Placed.{Placed}
use Rattle.lin_order.specs.Configurations.{EndsIn, IsAdded, IsConfiguration, IsPlacing, IsPlacedOn, none, more as further, IsOver}
use Rattle.lin_order.specs.ConfigurationLaws.{with_event, AfterInvocation, InvocationLaw, PlacingIsLegal}
use Rattle.lin_frontier.specs.declared.pending.Open.{Open}
use Rattle.lin_frontier.specs.Frontiers.{IsFrontier, IsNextEvent}
use Rattle.lin_frontier.specs.Nodes.{Spells}
use Rattle.lin_frontier.specs.Placing.{IsAbsent, IsKept, IsKeeping, PlacesOne, PlacesNext, insert_pair}
use Rattle.lin_frontier.specs.Walks.{Walk, here, more, IsBeyond, IsClosure, IsTraced}
use Rattle.lin_events.specs.lemmas.OneMore.{invoked, one_call, one_caller, one_open, open_before, open_kept}
use Rattle.lin_frontier.specs.lemmas.Inserting.{absent_from, first_or_rest, insert_added, insert_is, none_from}

-- the node of the entry spells a legal order that ends in its configuration
abbrev pub IsNoted : {S : Type 0} → S → (S → Call → S → Reply → Type 0) → List Event → List (ℕ × Placed) → (S × List (ℕ × Reply)) × ℕ → Type 0
IsNoted start step h nodes e = (order : List Placed) × Spells nodes e.1 order × EndsIn start step h order e.0

-- a key has an entry
entry_of : {K : Type 0} (es : List (K × ℕ)) (k : K) → Contains (keys_of es) k → (id : ℕ) × Contains es (k, id)
entry_of {K} es k there = by es there.0 there.1 there.2
  where
    by : (es : List (K × ℕ)) (i : ℕ) → i < length (keys_of es) → get_or (keys_of es) i k ≡ k → (id : ℕ) × Contains es (k, id)
    by [] i inside is = absurd (omega arith)
    by (e ∷ es) zero inside is = (e.1, (0, omega arith, λ i. (is i, e.1)))
    by (e ∷ es) (suc i) inside is = let rest = by es i (omega arith) is in (rest.0, (suc rest.1.0, omega (arith, rest.1.1), rest.1.2))

-- a process has no pair, or it has one
absent_or : (process : ℕ) (xs : List (ℕ × Reply)) → IsAbsent process xs ⊎ ((reply : Reply) × Contains xs (process, reply))
absent_or process [] = inl (λ k d inside. absurd (omega arith))
absent_or process (x ∷ xs) = elim (cases_eq x.0 process) [
  | inl same ↦ inr (x.1, (0, omega arith, λ i. (same i, x.1)))
  | inr differ ↦ elim (absent_or process xs) [
    | inl absent ↦ inl (absent_from process (x ∷ xs) (λ other there. elim (first_or_rest x xs (process, other) there) [
      | inl is ↦ differ (ap (λ (p : ℕ × Reply). p.0) is)
      | inr rest ↦ none_from process xs absent other rest
    ]))
    | inr there ↦ inr (there.0, Contains-append_right (x ∷ []) xs (process, there.0) there.1)
  ]
]

module _ {S : Type 0} (start : S) (step : S → Call → S → Reply → Type 0) (functions : Item → Name → Bool) (h : List Event) (pending : List Open) (at : ℕ) (event : Event)
    (next : IsNextEvent functions h pending at event) (entries : List ((S × List (ℕ × Reply)) × ℕ)) (before : List (ℕ × Placed)) (frontier : IsFrontier start step h entries before) where
  -- an invocation: what is reached from the configurations by placing the new operation, and behind it any that is open
  module _ (call : Call) (is : event.body ≡ Invoke call) (alternating : WellFormedIsAlternating) (placing : PlacingIsLegal start step) (law : InvocationLaw start step)
      (starts : List ((S × List (ℕ × Reply)) × ℕ)) (kept : IsKeeping event.process event.body entries starts) where
    abbrev pub new : Open
    new = record { process = event.process; at = at; call = call; crashed = false }

    after : AfterInvocation start step h event
    after = law functions h event call is next.well_formed

    alternates : IsAlternating functions (with_event h event)
    alternates = (alternating functions (with_event h event)).0 next.well_formed

    new_open : IsOpen (with_event h event) (length h) event.process event.key call
    new_open = invoked h event call is

    still_open : (at p : ℕ) (key : Item) (c : Call) → IsOpen h at p key c → IsOpen (with_event h event) at p key c
    still_open at p key c o = open_kept h event (λ name reply e. other_ok name reply (sym is ∙ e)) (λ name e. other_fail name (sym is ∙ e)) at p key c o
      where
        other_ok : (name : Name) (reply : Reply) → Invoke call ≡ Ok name reply → ⊥
        other_ok name reply e = cc

        other_fail : (name : Name) → Invoke call ≡ Fail name → ⊥
        other_fail name e = cc

    -- the starts are the configurations from before
    start_noted : (e : (S × List (ℕ × Reply)) × ℕ) → Contains starts e → IsNoted start step (with_event h event) before e
    start_noted e there =
        let s = kept.sound e there in
        let same : e.0 ≡ s.0 = subst (λ b. IsKept event.process b s.0 e.0) is s.2 in
        let n = All-contains (IsNoted start step h before) entries (s.0, e.1) frontier.sound s.1 in
        (n.0, n.1, after.stays n.0 e.0 (subst (EndsIn start step h n.0) (sym same) n.2))

    start_has : (b : S × List (ℕ × Reply)) → IsConfiguration start step h b → Contains (keys_of starts) b
    start_has b config = kept.complete b b (frontier.complete b config) (subst (λ x. IsKept event.process x b b) (sym is) refl)

    -- a step of the work list is a placing
    step_placing : (o : Open) (key : Item) (b d : S × List (ℕ × Reply)) (p : Placed) → IsOpen (with_event h event) o.at o.process key o.call → (order : List Placed)
        → EndsIn start step (with_event h event) order b → PlacesOne step o b p d → EndsIn start step (with_event h event) (order ++ p ∷ []) d
    step_placing o key b d p open' order ends places = placing (with_event h event) order b d p ends (record {
      process = o.process;
      key = key;
      call = o.call;
      is_open = subst (λ k. IsOpen (with_event h event) k o.process key o.call) (sym places.at) open';
      steps = places.steps;
      added = subst (IsAdded o.process p.reply b.1) (sym places.placed) (insert_added o.process p.reply b.1 ends.placed.rising (none_from o.process b.1 places.absent));
    })

    by_step : (order : List Placed) (b d : S × List (ℕ × Reply)) (p : Placed) → EndsIn start step (with_event h event) order b → PlacesNext step pending new b p d
        → EndsIn start step (with_event h event) (order ++ p ∷ []) d
    by_step order b d p ends (inl places) = step_placing new event.key b d p (subst (λ k. IsOpen (with_event h event) k event.process event.key call) next.place new_open) order ends places
    by_step order b d p ends (inr behind) =
        let o = behind.1 in
        let old = next.opened.sound o behind.2 in
        step_placing o old.0 b d p (still_open o.at o.process old.0 o.call old.1) order ends behind.3

    by_walk : (base : List Placed) (b : S × List (ℕ × Reply)) → EndsIn start step (with_event h event) base b → (order : List Placed) (d : S × List (ℕ × Reply))
        → Walk (PlacesNext step pending new) b order d → EndsIn start step (with_event h event) (base ++ order) d
    by_walk base b ends [] d here = subst (λ l. EndsIn start step (with_event h event) l b) (sym (append-nil base)) ends
    by_walk base b ends order d (more {order = front} {b = c} {p = p} walk places) =
        subst (λ l. EndsIn start step (with_event h event) l d) (append_assoc base front (p ∷ [])) (by_step (base ++ front) c d p (by_walk base b ends front c walk) places)

    -- a placing is a step of the work list, or leads to a configuration from before
    module _ (now : List (ℕ × Placed)) (found : List ((S × List (ℕ × Reply)) × ℕ)) (closed : IsClosure (PlacesNext step pending new) starts before now found) where
      places_one : (o : Open) (b d : S × List (ℕ × Reply)) (p : Placed) (pl : IsPlacing step (with_event h event) b p d) → o.at ≡ p.at → pl.process ≡ o.process → pl.call ≡ o.call → PlacesOne step o b p d
      places_one o b d p pl same who what = record {
        absent = absent_from o.process b.1 (λ other there. pl.added.absent other (subst (λ n. Contains b.1 (n, other)) (sym who) there));
        at = sym same;
        steps = subst (λ c. step b.0 c d.0 p.reply) what pl.steps;
        placed = insert_is pl.process p.reply b.1 d.1 pl.added ∙ ap (λ n. insert_pair n p.reply b.1) who;
      }

      goes_on : (b d : S × List (ℕ × Reply)) (p : Placed) → Contains (keys_of found) b → IsConfiguration start step (with_event h event) d → IsPlacing step (with_event h event) b p d → Contains (keys_of found) d
      goes_on b d p there config pl = elim (cases_eq p.at (length h)) [
        | inl same ↦
            let begins = subst (λ k. IsOperation (with_event h event) k pl.process pl.key pl.call) same pl.is_open.begins in
            closed.closed b d p there (inl (places_one new b d p pl (sym next.place ∙ sym same) (one_caller _ (length h) _ _ _ _ _ _ begins new_open.begins) (one_call _ (length h) _ _ _ _ _ _ begins new_open.begins)))
        | inr differ ↦
            let old = open_before h event p.at pl.process pl.key pl.call differ pl.is_open in
            let o = next.opened.complete p.at pl.process pl.key pl.call old in
            let known = next.opened.sound o.0 o.1 in
            let begins = subst (λ k. IsOperation h k o.0.process known.0 o.0.call) o.2 known.1.begins in
            let places = places_one o.0 b d p pl o.2 (one_caller _ p.at _ _ _ _ _ _ old.begins begins) (one_call _ p.at _ _ _ _ _ _ old.begins begins) in
            elim (absent_or event.process b.1) [
              | inl absent ↦
                  let other : (pl.process ≡ event.process → ⊥) = λ same. differ (one_open functions (with_event h event) alternates p.at (length h) pl.process pl.key event.key pl.call call pl.is_open
                  (subst (λ q. IsOpen (with_event h event) (length h) q event.key call) (sym same) new_open)) in
                  let none' : ((reply : Reply) → Contains d.1 (event.process, reply) → ⊥) = λ reply there'. elim (pl.added.was (event.process, reply) there') [
                    | inl was ↦ none_from event.process b.1 absent reply was
                    | inr same ↦ other (ap (λ (x : ℕ × Reply). x.0) same)
                  ] in
                  closed.begins d (start_has d (after.old d config none'))
              | inr present ↦ closed.closed b d p there (inr ((λ absent. none_from event.process b.1 absent present.0 present.1), o.0, o.1, places))
            ]
      ]

      reaches : (b : S × List (ℕ × Reply)) → IsConfiguration start step h b → (order : List Placed) (d : S × List (ℕ × Reply)) → IsPlacedOn step (with_event h event) b order d
          → IsConfiguration start step (with_event h event) d × Contains (keys_of found) d
      reaches b config [] d none = ((config.0, after.stays config.0 b config.1), closed.begins b (start_has b config))
      reaches b config order d (further {order = front} {d = c} {p = p} rest pl) =
          let first = reaches b config front c rest in
          let one : IsConfiguration start step (with_event h event) d = (first.0.0 ++ p ∷ [], placing (with_event h event) first.0.0 c d p first.0.1 pl) in
          (one, goes_on c d p first.1 one pl)

      pub frontier_invoked : IsFrontier start step (with_event h event) found now
      frontier_invoked = record {
        sound = All-weaker (IsTraced (PlacesNext step pending new) starts before now) (IsNoted start step (with_event h event) now) (λ e t.
            let s = start_noted t.from t.begins in
            (s.0 ++ t.order, t.spelled s.0 s.1, by_walk s.0 t.from.0 s.2 t.order e.0 t.walk)) found closed.traced;
        complete = λ c config.
            let from = after.reached c config in
            (reaches from.0 from.2 from.1 c from.3).1;
        distinct = closed.distinct;
      }

    pub over_invoked : (budget : ℕ) → IsBeyond (PlacesNext step pending new) starts budget → IsOver start step (with_event h event) budget
    over_invoked budget beyond = record {
      found = beyond.found;
      many = beyond.many;
      configurations = All-weaker (λ t. (a : S × List (ℕ × Reply)) × (order : List Placed) × Contains (keys_of starts) a × Walk (PlacesNext step pending new) a order t)
          (IsConfiguration start step (with_event h event)) (λ t r.
          let e = entry_of starts r.0 r.2 in
          let s = start_noted (r.0, e.0) e.1 in
          (s.0 ++ r.1, by_walk s.0 r.0 s.2 r.1 t r.3)) beyond.found beyond.reached;
      distinct = beyond.distinct;
    }
