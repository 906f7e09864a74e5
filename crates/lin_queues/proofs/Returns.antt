-- What counts and places tell of ranks.
use Rattle.std.proofs.Common.{◌≡◌, ◌<◌, ◌≤◌, ℕ, List, inl, inr, sym, subst, ◌∙◌, arith}
use Rattle.std.proofs.lemmas.Bool.{cases_lt}
use Rattle.std.proofs.lemmas.List.Elements.{All-contains}
use Rattle.std.proofs.lemmas.Option.{slice_get_within}
use Rattle.lin_lists.specs.lemmas.Elements.{all_of}
use Rattle.lin_events.specs.declared.calls.Call.{Call}
use Rattle.lin_events.specs.declared.calls.Name.{Name}
use Rattle.lin_events.specs.declared.calls.Reply.{Reply}
use Rattle.lin_events.specs.declared.events.Body.TheVariants.{Invoke, Ok}
use Rattle.lin_events.specs.declared.events.Event.{Event}
use Rattle.lin_events.specs.Operations.{IsOk}
use Rattle.lin_order.specs.Orders.{IsBefore, IsCall}
use Rattle.lin_order.specs.lemmas.OneEnd.{no_call}
use Rattle.lin_certificates.specs.Numbers.{AtLeast, AtMost}
use Rattle.lin_queues.specs.Ranks.{RanksBelow, RanksFrom}
use Rattle.lin_queues.specs.inner.Returning.{IsReturnedBy}

module _ (h : List Event) where
  -- no operation begins where another one ends
  not_there : (at end : ℕ) (reply : Reply) → IsOk h at end reply → (call : Call) → IsCall h end call → ⊥
  not_there at end reply ok call is = no_call h end ok.0 ok.1.ends (λ other same. differ other ok.2 (sym same ∙ ok.3)) call is
    where
      differ : (other : Call) (name : Name) → Invoke other ≡ Ok name reply → ⊥
      differ other name e = cc

  -- an operation that isn't behind one that returned by the place was invoked ahead of it
  invoked_ahead : (at place x : ℕ) → IsReturnedBy h at place → (call : Call) → IsCall h x call → (IsBefore h at x → ⊥) → x < place
  invoked_ahead at place x returned call is not_behind = elim (cases_lt x place) [
    | inl ahead ↦ ahead
    | inr there ↦ elim returned [
      | inl none ↦ let within = slice_get_within h x _ is.2 in absurd (omega (arith, within, none, there))
      | inr ok ↦ elim (cases_lt ok.0 x) [
        | inl behind ↦ absurd (not_behind (ok.0, ok.1, ok.2, behind))
        | inr early ↦
            let late = ok.3 in
            let same : x ≡ ok.0 = omega (arith, late, early, there) in
            absurd (not_there at ok.0 ok.1 ok.2 call (subst (λ k. IsCall h k call) same is))
      ]
    ]
  ]

  -- so as many of a sort aren't behind it as were invoked ahead of the place
  pub ranks_below : (May : ℕ → Type 0) → ((x : ℕ) → May x → (call : Call) × IsCall h x call) → (at place few : ℕ) → IsReturnedBy h at place → AtMost few (λ x. May x × (x < place)) → RanksBelow h May at few
  ranks_below May calls at place few returned most =
      (most.0, most.1, λ x is. let call = calls x is.0 in most.2 x (is.0, invoked_ahead at place x returned call.0 call.1 is.1))

  -- what is before an operation is before all later ones
  pub ranks_from : (Has : ℕ → Type 0) (first then' many : ℕ) → first ≤ then' → RanksFrom h Has first many → RanksFrom h Has then' many
  ranks_from Has first then' many later least = (
    least.0,
    least.1,
    least.2,
    all_of (λ x. Has x × IsBefore h x then') least.0 (λ x there.
        let was = All-contains (λ y. Has y × IsBefore h y first) least.0 x least.3 there in
        let ends = was.1.3 in
        (was.0, (was.1.0, was.1.1, was.1.2, omega (arith, ends, later)))),
  )

pub least_which : (P Q : ℕ → Type 0) → ((x : ℕ) → P x → Q x) → (k : ℕ) → AtLeast k P → AtLeast k Q
least_which P Q each k least = (least.0, least.1, least.2, all_of Q least.0 (λ x there. each x (All-contains P least.0 x least.3 there)))
