-- How operations stand.
use Rattle.std.proofs.Common.{◌≡◌, ◌↔◌, ◌-◌, ◌<◌, ℕ, IsTrue, List, leb, length, nat_eq, inl, inr, sym, ap, ◌∙◌, arith}
use Rattle.std.proofs.lemmas.Bool.{le-leb, leb-true}
use Rattle.std.proofs.lemmas.Bool.Decides.{Decides-eqb}
use Rattle.std.proofs.lemmas.Option.{slice_get_within}
use Rattle.lin_events.specs.declared.calls.Name.{Name}
use Rattle.lin_events.specs.declared.events.Event.{Event}
use Rattle.lin_events.specs.declared.calls.Call.{Call}
use Rattle.lin_events.specs.declared.events.Body.TheVariants.{Info, Invoke}
use Rattle.lin_events.specs.Alternation.{IsReturn}
use Rattle.lin_events.specs.Operations.{IsCrashed, IsEnd}
use Rattle.lin_order.specs.lemmas.OneEnd.{one_end, one_ending}
use Rattle.lin_tables.specs.WindowOperations.{IsBeside, IsFailing, IsInvoked, IsOpenAt}

module _ (h : List Event) (at : ℕ) where
  -- operations and their ends stand in the history
  pub invoked_within : IsInvoked h at → at < length h
  invoked_within begins = slice_get_within h at _ begins.1.2

  pub begun_within : (end : ℕ) (ending : Event) → IsEnd h at end ending → at < length h
  begun_within end ending e = slice_get_within h at _ e.begins

  pub end_within : (end : ℕ) (ending : Event) → IsEnd h at end ending → end < length h
  end_within end ending e = slice_get_within h end ending e.ends

  pub end_of_return : (end : ℕ) → IsReturn h at end → (ending : Event) × IsEnd h at end ending
  end_of_return end returned = elim returned [
    | inl ok ↦ (ok.1.0, ok.1.1)
    | inr failed ↦ (failed.0, failed.1)
  ]

  -- an operation returns once
  pub one_return : (a b : ℕ) → IsReturn h at a → IsReturn h at b → a ≡ b
  one_return a b x y =
      let one = end_of_return a x in
      let other = end_of_return b y in
      one_end h at a b one.0 other.0 one.1 other.1

  pub return_invoked : (end : ℕ) → IsReturn h at end → IsInvoked h at
  return_invoked end returned =
      let e = (end_of_return end returned).1 in
      (e.call, (e.process, e.key, e.begins))

  pub return_within : (end : ℕ) → IsReturn h at end → end < length h
  return_within end returned =
      let e = end_of_return end returned in
      end_within end e.0 e.1

  -- an operation that crashed doesn't return
  pub crashed_never : (end : ℕ) (ending : Event) (name : Name) → IsEnd h at end ending → ending.body ≡ Info name → (other : ℕ) → IsReturn h at other → ⊥
  crashed_never end ending name e is other returned = elim returned [
    | inl ok ↦ let bodies = sym is ∙ ap (λ (x : Event). x.body) (one_ending h at end other ending ok.1.0 e ok.1.1) ∙ ok.1.3 in cc
    | inr failed ↦ let bodies = sym is ∙ ap (λ (x : Event). x.body) (one_ending h at end other ending failed.0 e failed.1) ∙ failed.3 in cc
  ]

  -- and one that returned didn't crash
  pub returned_never : (end : ℕ) → IsReturn h at end → IsCrashed h at → ⊥
  returned_never end returned crashed = crashed_never crashed.0 crashed.1 crashed.3 crashed.2 crashed.4 end returned

  -- an operation that begins and never returns is open
  pub open_since : IsInvoked h at → ((end : ℕ) → IsReturn h at end → ⊥) → IsOpenAt h at
  open_since begins never = (
    begins.1.0,
    begins.1.1,
    begins.0,
    record {
      begins = begins.1.2;
      no_ok = λ end reply ok. never end (inl (reply, ok));
      no_fail = λ failed. never failed.0 (inr (failed.1, failed.2, failed.3, failed.4));
    },
  )

  pub open_invoked : IsOpenAt h at → IsInvoked h at
  open_invoked is = (is.2, (is.0, is.1, is.3.begins))

  pub open_never : IsOpenAt h at → (end : ℕ) → IsReturn h at end → ⊥
  open_never is end returned = elim returned [
    | inl ok ↦ is.3.no_ok end ok.0 ok.1
    | inr failed ↦ is.3.no_fail (end, failed.0, failed.1, failed.2, failed.3)
  ]

  -- one that ends with an invocation neither returned nor crashed
  pub invoke_never : (end : ℕ) (ending : Event) (call : Call) → IsEnd h at end ending → ending.body ≡ Invoke call → ((other : ℕ) → IsReturn h at other → ⊥) × (IsCrashed h at → ⊥)
  invoke_never end ending call e is = (
    λ other returned. elim returned [
      | inl ok ↦ let bodies = sym is ∙ ap (λ (x : Event). x.body) (one_ending h at end other ending ok.1.0 e ok.1.1) ∙ ok.1.3 in cc
      | inr failed ↦ let bodies = sym is ∙ ap (λ (x : Event). x.body) (one_ending h at end other ending failed.0 e failed.1) ∙ failed.3 in cc
    ],
    λ crashed. let bodies = sym is ∙ ap (λ (x : Event). x.body) (one_ending h at end crashed.0 ending crashed.1 e crashed.2) ∙ crashed.4 in cc,
  )

  -- nor did one without an end
  pub endless_never : ((end : ℕ) (ending : Event) → IsEnd h at end ending → ⊥) → ((other : ℕ) → IsReturn h at other → ⊥) × (IsCrashed h at → ⊥)
  endless_never none = (λ other returned. let e = end_of_return other returned in none other e.0 e.1, λ crashed. none crashed.0 crashed.1 crashed.2)

  -- the operation fails exactly where it returned with the last event
  pub failing_since : (end last : ℕ) → IsReturn h at end → last ≡ length h - 1 → IsTrue (nat_eq end last) ↔ IsFailing h at
  failing_since end last returned is =
      let within = return_within end returned in (
        λ yes'. let same = (Decides-eqb end last).0 yes' in (end, returned, omega (arith, same, within, is)),
        λ failing. let same = one_return end failing.0 returned failing.1 in let ends = failing.2 in (Decides-eqb end last).1 (omega (arith, same, ends, is)),
      )

  pub failing_invoked : IsFailing h at → IsInvoked h at
  failing_invoked failing = return_invoked failing.0 failing.1

  pub failing_within : IsFailing h at → at < length h
  failing_within failing = invoked_within (failing_invoked failing)

  pub crashed_within : IsCrashed h at → at < length h
  crashed_within crashed = begun_within crashed.0 crashed.1 crashed.2

  module _ (call : ℕ) (differ : at ≡ call → ⊥) (begins : IsInvoked h at) where
    -- one that returned ran beside exactly where it did so behind the place
    pub beside_ended : (end : ℕ) → IsReturn h at end → IsTrue (leb call end) ↔ IsBeside h call at
    beside_ended end returned = (
      λ yes'. record {
        other = differ;
        begins = begins;
        running = λ other again. let same = one_return end other returned again in let below = leb-true call end yes' in omega (arith, same, below);
      },
      λ is. le-leb call end (is.running end returned),
    )

    pub beside_open : ((end : ℕ) → IsReturn h at end → ⊥) → IsBeside h call at
    beside_open never = record { other = differ; begins = begins; running = λ end returned. absurd (never end returned) }
