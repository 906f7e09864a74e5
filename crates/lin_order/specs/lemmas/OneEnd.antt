-- Where operations end.
use Rattle.std.proofs.Common.{◌≡◌, ℕ, List, inl, inr, refl, sym, ap, subst, ◌∙◌, Some}
use Rattle.std.proofs.lemmas.Bool.{cases_order}
use Rattle.lin_events.specs.declared.items.Item.{Item}
use Rattle.lin_events.specs.declared.events.Event.{Event}
use Rattle.lin_events.specs.declared.events.Body.TheVariants.{Invoke}
use Rattle.lin_events.specs.declared.calls.Call.{Call}
use Rattle.lin_events.specs.declared.calls.Reply.{Reply}
use Rattle.lin_events.specs.Operations.{IsEvent, IsOf, IsOperation, IsEnd, IsOk}
use Rattle.lin_order.specs.Orders.{IsCall}
use Rattle.lin_order.specs.Tables.{IsCallOn, IsNext, IsLast}

-- one event stands at a position
pub one_event : (h : List Event) (k : ℕ) (a b : Event) → IsEvent h k a → IsEvent h k b → a ≡ b
one_event h k a b at_a at_b = some_same (sym at_a ∙ at_b)
  where
    some_same : Some a ≡ Some b → a ≡ b
    some_same e = cc

-- an event is of one process
pub one_process : (h : List Event) (k p q : ℕ) → IsOf h p k → IsOf h q k → p ≡ q
one_process h k p q a b = sym a.2 ∙ ap (λ (e : Event). e.process) (one_event h k a.0 b.0 a.1 b.1) ∙ b.2

module _ (h : List Event) (at : ℕ) where
  begins_of : (end : ℕ) (ending : Event) (e : IsEnd h at end ending) → IsOf h e.process at
  begins_of end ending e = (record { process = e.process; key = e.key; body = Invoke e.call }, e.begins, refl)

  -- an operation has one end
  pub one_end : (a b : ℕ) (x y : Event) → IsEnd h at a x → IsEnd h at b y → a ≡ b
  one_end a b x y e f =
      let p = one_process h at e.process f.process (begins_of a x e) (begins_of b y f) in
      elim (cases_order a b) [
        | inl same ↦ same
        | inr differ ↦ elim differ [
          | inl below ↦ absurd (f.least a e.later below (x, e.ends, e.same ∙ p))
          | inr above ↦ absurd (e.least b f.later above (y, f.ends, f.same ∙ sym p))
        ]
      ]

  pub one_ending : (a b : ℕ) (x y : Event) → IsEnd h at a x → IsEnd h at b y → x ≡ y
  one_ending a b x y e f = one_event h b x y (subst (λ k. IsEvent h k x) (one_end a b x y e f) e.ends) f.ends

  -- the next position of its process is an operation's end
  pub end_from_next : (process : ℕ) (key : Item) (call : Call) → IsOperation h at process key call → (next : ℕ) (event : Event) → IsNext h at next → IsEvent h next event → IsEnd h at next event
  end_from_next process key call begins next event is there =
      let p : is.process ≡ process = one_process h at is.process process is.here (record { process = process; key = key; body = Invoke call }, begins, refl) in
      record {
        process = process;
        key = key;
        call = call;
        begins = begins;
        later = is.later;
        ends = there;
        same = one_process h next event.process process (event, there, refl) (subst (λ q. IsOf h q next) p is.there);
        least = λ k after before of_it. is.least k after before (subst (λ q. IsOf h q k) (sym p) of_it);
      }

  -- without a later position of its process, it has none
  pub no_end : IsLast h at → (end : ℕ) (ending : Event) → IsEnd h at end ending → ⊥
  no_end last end ending e = last e.process (begins_of end ending e) end e.later (ending, e.ends, e.same)

  -- what is no invocation has no end
  pub no_end_of : (event : Event) → IsEvent h at event → ((call : Call) → event.body ≡ Invoke call → ⊥) → (end : ℕ) (ending : Event) → IsEnd h at end ending → ⊥
  no_end_of event there other end ending e = other e.call (ap (λ (x : Event). x.body) (one_event h at event _ there e.begins))

  -- the reply of an ok operation is one
  pub one_ok : (a b : ℕ) (r s : Reply) → IsOk h at a r → IsOk h at b s → (a ≡ b) × (r ≡ s)
  one_ok a b r s x y =
      let bodies = sym x.3 ∙ ap (λ (e : Event). e.body) (one_ending a b x.0 y.0 x.1 y.1) ∙ y.3 in
      (one_end a b x.0 y.0 x.1 y.1, cc)

  -- an operation has one call
  pub one_call : (a b : Call) → IsCall h at a → IsCall h at b → a ≡ b
  one_call a b x y = let bodies = ap (λ (e : Event). e.body) (one_event h at _ _ x.2 y.2) in cc

  -- an event that is an invocation is an operation on its key, and no other event is one
  pub call_since : (event : Event) → IsEvent h at event → (call : Call) → event.body ≡ Invoke call → IsCallOn h at event.key call
  call_since event there call is = (event.process, there ∙ ap (λ b. Some (record event { body = b })) is)

  pub no_call : (event : Event) → IsEvent h at event → ((call : Call) → event.body ≡ Invoke call → ⊥) → (call : Call) → IsCall h at call → ⊥
  no_call event there other call is = other call (ap (λ (e : Event). e.body) (one_event h at event _ there is.2))

  -- an operation is on the key of its event
  pub call_on : (event : Event) → IsEvent h at event → (call : Call) → IsCall h at call → IsCallOn h at event.key call
  call_on event there call is = (is.0, subst (λ k. IsOperation h at is.0 k call) (sym (ap (λ (e : Event). e.key) (one_event h at event _ there is.2))) is.2)

  pub body_of : (event : Event) → IsEvent h at event → (call : Call) → IsCall h at call → event.body ≡ Invoke call
  body_of event there call is = ap (λ (e : Event). e.body) (one_event h at event _ there is.2)
