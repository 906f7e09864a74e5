-- After an invocation: its configurations are those from before, with open operations placed on them.
use Rattle.std.proofs.Common.{◌≡◌, ℕ, zero, suc, ◌<◌, Bool, List, [], ◌∷◌, ◌++◌, length, inl, inr, refl, ap, subst, arith, length-append}
use Rattle.std.proofs.lemmas.List.Elements.{Contains-push_cases}
use Rattle.lin_events.specs.declared.items.Item.{Item}
use Rattle.lin_events.specs.declared.calls.Call.{Call}
use Rattle.lin_events.specs.declared.calls.Name.{Name}
use Rattle.lin_events.specs.declared.calls.Reply.{Reply}
use Rattle.lin_events.specs.declared.events.Body.TheVariants.{Invoke}
use Rattle.lin_events.specs.declared.events.Event.{Event}
use Rattle.lin_events.specs.Alternation.{IsAlternating}
use Rattle.lin_events.specs.Operations.{IsOk}
use Rattle.lin_order.specs.declared.placed.Placed.{Placed}
use Rattle.lin_order.specs.Orders.{IsBefore, IsOrder, Places}
use Rattle.lin_order.specs.Configurations.{EndsIn, IsConfiguration, IsPlacedOn, none, more}
use Rattle.lin_order.specs.ConfigurationLaws.{with_event, AfterInvocation}
use Rattle.lin_lists.specs.lemmas.Elements.{last_of, pairs_last}
use Rattle.lin_events.specs.lemmas.OneMore.{ok_before, end_inside, invoked}
use Rattle.lin_order.specs.lemmas.Again.{is_placed}
use Rattle.lin_order.specs.lemmas.Quiet.{IsQuiet, ends_kept, ends_before, invoke_quiet}
use Rattle.lin_order.specs.lemmas.Placing.{unplace}

module _ {S : Type 0} (start : S) (step : S → Call → S → Reply → Type 0) (functions : Item → Name → Bool) (h : List Event) (event : Event) (call : Call) (is_call : event.body ≡ Invoke call)
    (alternates : IsAlternating functions (with_event h event)) where
  quiet : IsQuiet event.body
  quiet = invoke_quiet event.body call is_call

  -- once the new operation is placed, only open ones follow
  last_open : (o : List Placed) (p : Placed) → IsOrder (with_event h event) (o ++ p ∷ []) → (new : Reply) → Places (o ++ p ∷ []) (length h) new
      → (end : ℕ) (r : Reply) → IsOk (with_event h event) p.at end r → ⊥
  last_open o p is new there end r ok =
      let old = ok_before h event quiet.0 p.at end r ok in
      let inside = end_inside h p.at end old.0 old.1 in
      let later : p.at < end = old.1.later in
      elim (Contains-push_cases o p (record { at = length h; reply = new }) there) [
        | inl earlier ↦ pairs_last (λ a b. IsBefore (with_event h event) b.at a.at → ⊥) o p (record { at = length h; reply = new }) is.real_time earlier (end, r, ok, inside)
        | inr same ↦ let place = ap (λ (q : Placed). q.at) same in omega arith
      ]

  -- from the end of an order back to where it lacks the new operation
  cut : (n : ℕ) (o : List Placed) → length o ≡ n → (c : S × List (ℕ × Reply)) → EndsIn start step (with_event h event) o c
      → (b : S × List (ℕ × Reply)) × (order : List Placed) × IsConfiguration start step h b × IsPlacedOn step (with_event h event) b order c
  cut zero o many c is = (c, [], (o, ends_before start step h event quiet o c (λ r there. let inside = there.1 in omega arith) is), none)
  cut (suc n) o many c is = elim (is_placed (length h) o) [
    | inr absent ↦ (c, [], (o, ends_before start step h event quiet o c absent is), none)
    | inl there ↦ elim (last_of o) [
      | inl empty ↦ absurd (let zero_long = ap length empty in omega arith)
      | inr some ↦
          let e = some.2 in
          let long = ap length e in
          let count = length-append some.0 (some.1 ∷ []) in
          let is' = subst (λ l. EndsIn start step (with_event h event) l c) e is in
          let u = unplace start step functions (with_event h event) alternates some.0 some.1 c is'
          (last_open some.0 some.1 is'.order_of there.0 (subst (λ l. Places l (length h) there.0) e there.1)) in
          let rest = cut n some.0 (omega arith) u.0 u.1 in
          (rest.0, rest.1 ++ some.1 ∷ [], rest.2, more rest.3 u.2)
    ]
  ]

  pub after_invocation : AfterInvocation start step h event
  after_invocation = record {
    stays = ends_kept start step h event quiet;
    reached = λ c is. cut (length is.0) is.0 refl c is.1;
    old = λ c is absent. (
      is.0,
      ends_before start step h event quiet is.0 c
          (λ r there. absent r (is.1.placed.complete (length h) event.process event.key call r (invoked h event call is_call) there)) is.1,
    );
  }
