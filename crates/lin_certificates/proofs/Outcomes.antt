-- How an operation ends can be decided.
use Rattle.std.proofs.Common.{◌≡◌, ◌⊎◌, ◌<◌, ℕ, List, length, inl, inr, refl, sym, ap, ◌∙◌, arith}
use Rattle.std.proofs.lemmas.Option.{slice_get_within}
use Rattle.lin_events.specs.declared.items.Item.{Item}
use Rattle.lin_events.specs.declared.calls.Call.{Call}
use Rattle.lin_events.specs.declared.calls.Name.{Name}
use Rattle.lin_events.specs.declared.calls.Reply.{Reply}
use Rattle.lin_events.specs.declared.events.Body.{Body}
use Rattle.lin_events.specs.declared.events.Body.TheVariants.{Invoke, Ok, Fail, Info}
use Rattle.lin_events.specs.declared.events.Event.{Event}
use Rattle.lin_events.specs.Operations.{IsEnd, IsFailed, IsOf, IsOk}
use Rattle.lin_events.specs.lemmas.Deciding.{first_between}
use Rattle.lin_order.specs.Orders.{IsCall}
use Rattle.lin_certificates.specs.Adding.{IsNotAddedBy}
use Rattle.lin_certificates.specs.Certificates.{CanAdd}
use Rattle.lin_order.specs.lemmas.OneEnd.{one_ending, one_process}

-- it is ok, failed, or open
abbrev pub Outcome : List Event → ℕ → Type 0
Outcome h at = ((end : ℕ) × (reply : Reply) × IsOk h at end reply) ⊎ (IsFailed h at ⊎ (((end : ℕ) (reply : Reply) → IsOk h at end reply → ⊥) × (IsFailed h at → ⊥)))

module _ (h : List Event) (at : ℕ) where
  ended : (end : ℕ) (ending : Event) → IsEnd h at end ending → Outcome h at
  ended end ending is = by ending.body refl
    where
      same_body : (other : ℕ) (last : Event) → IsEnd h at other last → last.body ≡ ending.body
      same_body other last it = ap (λ (e : Event). e.body) (one_ending h at other end last ending it is)

      not_ok : (body : Body) → ending.body ≡ body → ((name : Name) (reply : Reply) → body ≡ Ok name reply → ⊥) → (other : ℕ) (reply : Reply) → IsOk h at other reply → ⊥
      not_ok body ends never other reply ok = never ok.2 reply (sym ends ∙ sym (same_body other ok.0 ok.1) ∙ ok.3)

      not_failed : (body : Body) → ending.body ≡ body → ((name : Name) → body ≡ Fail name → ⊥) → IsFailed h at → ⊥
      not_failed body ends never failed = never failed.3 (sym ends ∙ sym (same_body failed.0 failed.1 failed.2) ∙ failed.4)

      by : (body : Body) → ending.body ≡ body → Outcome h at
      by (Ok name reply) ends = inl (end, reply, (ending, is, name, ends))
      by (Fail name) ends = inr (inl (end, ending, is, name, ends))
      by (Invoke call) ends = inr (inr (not_ok (Invoke call) ends (λ name reply e. cc), not_failed (Invoke call) ends (λ name e. cc)))
      by (Info name) ends = inr (inr (not_ok (Info name) ends (λ other reply e. cc), not_failed (Info name) ends (λ other e. cc)))

  pub outcome : (call : Call) → IsCall h at call → Outcome h at
  outcome call is = elim (first_between h is.0 at (length h)) [
    | inl none ↦
        let never : (end : ℕ) (ending : Event) → IsEnd h at end ending → ⊥ =
        λ end ending it. none end it.later (slice_get_within h end ending it.ends)
        (ending, it.ends, it.same ∙ one_process h at it.process is.0 (record { process = it.process; key = it.key; body = Invoke it.call }, it.begins, refl) here) in
        inr (inr ((λ end reply ok. never end ok.0 ok.1), λ failed. never failed.0 failed.1 failed.2))
    | inr found ↦
        ended found.0 found.3.0
        (record { process = is.0; key = is.1; call = call; begins = is.2; later = found.1; ends = found.3.1; same = found.3.2; least = found.4 })
  ]
    where
      here : IsOf h is.0 at
      here = (record { process = is.0; key = is.1; body = Invoke call }, is.2, refl)

  -- so what isn't known not to have failed has failed
  pub failed : (call : Call) → IsCall h at call → ((IsFailed h at → ⊥) → ⊥) → IsFailed h at
  failed call is counts = elim (outcome call is) [
    | inl ok ↦ absurd (counts (λ fails. both ok fails))
    | inr other ↦ elim other [
      | inl fails ↦ fails
      | inr still ↦ absurd (counts still.1)
    ]
  ]
    where
      both : (end : ℕ) × (reply : Reply) × IsOk h at end reply → IsFailed h at → ⊥
      both ok fails =
          let same = ap (λ (e : Event). e.body) (one_ending h at ok.0 fails.0 ok.2.0 fails.1 ok.2.1 fails.2) in
          let bodies = sym ok.2.3 ∙ same ∙ fails.4 in
          apart bodies
        where
          apart : {name other : Name} {reply : Reply} → Ok name reply ≡ Fail other → ⊥
          apart e = cc

-- what can only be added past the place isn't added up to and with it
pub not_added : (h : List Event) (n : Item) (place : ℕ) → ((at : ℕ) → CanAdd h n at → place < at) → IsNotAddedBy h n place
not_added h n place later at call upto is adds = failed h at call is (λ counts. let past = later at (call, is, counts, adds) in omega (arith, past, upto))
