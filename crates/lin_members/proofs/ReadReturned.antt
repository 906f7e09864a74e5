-- A write and a read at once, of which the read returns: the history is well-formed.
use Rattle.std.proofs.Common.{◌≡◌, ℕ, zero, suc, ◌<◌, true, pos, ◌⊎◌, inl, inr, refl, ap, subst, arith}
use Rattle.lin_events.specs.declared.items.Item.{Item}
use Rattle.lin_events.specs.declared.items.Item.TheVariants.{Int}
use Rattle.lin_events.specs.declared.calls.Call.{Call}
use Rattle.lin_events.specs.declared.calls.Call.TheVariants.{Read, Write}
use Rattle.lin_events.specs.declared.calls.Name.{Name}
use Rattle.lin_events.specs.declared.calls.Name.TheVariants as Named
use Rattle.lin_events.specs.declared.calls.Reply.TheVariants as Replied
use Rattle.lin_events.specs.declared.calls.Val.{Val}
use Rattle.lin_events.specs.declared.calls.Val.TheVariants.{Nil}
use Rattle.lin_events.specs.declared.events.Body.TheVariants.{Invoke, Ok}
use Rattle.lin_events.specs.declared.events.Event.{Event}
use Rattle.lin_events.specs.Alternation.{IsReturn, IsAlternating}
use Rattle.lin_events.specs.Names.{name_of}
use Rattle.lin_events.specs.Operations.{IsEvent, IsOperation, IsEnd}
use Rattle.lin_events.specs.WellFormed.{Completes}
use Rattle.lin_order.specs.ConfigurationExamples.{of_registers, event}
use Rattle.lin_members.specs.MemberExamples.{read_returned}
use Rattle.lin_members.proofs.Searching.{one_event}

module _ (v : Val) where
  read_ends : IsEnd (read_returned v) 1 2 (event 1 (Ok Named.Read (Replied.Value Nil)))
  read_ends = record { process = 1; key = Int (pos 0); call = Read; begins = refl; later = omega arith; ends = refl; same = refl; least = λ k after before of_it. omega arith }

  -- the invocations
  module _ (process : ℕ) (key : Item) (call : Call) where
    is_at : (k : ℕ) (e : Event) → IsEvent (read_returned v) k e → IsOperation (read_returned v) k process key call → e ≡ record { process = process; key = key; body = Invoke call }
    is_at k e there is = one_event (read_returned v) k e _ there is

    calls : (k : ℕ) → IsOperation (read_returned v) k process key call
        → ((k ≡ 0) × (event 0 (Invoke (Write v)) ≡ record { process = process; key = key; body = Invoke call })) ⊎ ((k ≡ 1) × (event 1 (Invoke Read) ≡ record { process = process; key = key; body = Invoke call }))
    calls zero is = inl (refl, is_at 0 _ refl is)
    calls (suc zero) is = inr (refl, is_at 1 _ refl is)
    calls (suc (suc zero)) is = absurd (let bodies = ap (λ (x : Event). x.body) (is_at 2 (event 1 (Ok Named.Read (Replied.Value Nil))) refl is) in cc)
    calls (suc (suc (suc k))) is = cc

    allowed : (k : ℕ) → IsOperation (read_returned v) k process key call → of_registers key (name_of call) ≡ true
    allowed k is = elim (calls k is) [
      | inl first ↦ by (Write v) first.1 refl
      | inr second ↦ by Read second.1 refl
    ]
      where
        same_call : {a b : Call} → Invoke a ≡ Invoke b → a ≡ b
        same_call e = cc

        by : (a : Call) {p : ℕ} → event p (Invoke a) ≡ record { process = process; key = key; body = Invoke call } → of_registers key (name_of a) ≡ true → of_registers key (name_of call) ≡ true
        by a same yes' = subst (λ c. of_registers key (name_of c) ≡ true) (same_call (ap (λ (x : Event). x.body) same)) yes'

  returned : (at later process : ℕ) (key other : Item) (call again : Call) → at < later → IsOperation (read_returned v) at process key call → IsOperation (read_returned v) later process other again
      → (end : ℕ) × (end < later) × IsReturn (read_returned v) at end
  returned at later process key other call again below is then = absurd (elim (calls process key call at is) [
    | inl first ↦ elim (calls process other again later then) [
      | inl same ↦ omega (arith, first.0, same.0)
      | inr second ↦ omega (arith, ap (λ (x : Event). x.process) first.1, ap (λ (x : Event). x.process) second.1)
    ]
    | inr second ↦ elim (calls process other again later then) [
      | inl first ↦ omega (arith, second.0, first.0)
      | inr same ↦ omega (arith, second.0, same.0)
    ]
  ])

  -- the operation that the event completes
  abbrev Ended : ℕ → Event → Name → Type 0
  Ended end ending name = (at : ℕ) × (call : Call) × IsOperation (read_returned v) at ending.process ending.key call × (name_of call ≡ name) × IsEnd (read_returned v) at end ending

  completed : (end : ℕ) (ending : Event) (name : Name) → IsEvent (read_returned v) end ending → Completes ending.body name → Ended end ending name
  completed end ending name there is = by end there
    where
      is_it : (k : ℕ) (e : Event) → IsEvent (read_returned v) k e → IsEvent (read_returned v) k ending → (Completes e.body name → Ended k e name) → Ended k ending name
      is_it k e here at_k ended = subst (λ x. Completes x.body name → Ended k x name) (one_event (read_returned v) k e ending here at_k) ended is

      by : (k : ℕ) → IsEvent (read_returned v) k ending → Ended k ending name
      by zero at_k = is_it 0 (event 0 (Invoke (Write v))) refl at_k (λ none. absurd none)
      by (suc zero) at_k = is_it 1 (event 1 (Invoke Read)) refl at_k (λ none. absurd none)
      by (suc (suc zero)) at_k = is_it 2 (event 1 (Ok Named.Read (Replied.Value Nil))) refl at_k (λ named. (1, Read, refl, named, read_ends))
      by (suc (suc (suc k))) at_k = cc

  pub read_alternates : IsAlternating of_registers (read_returned v)
  read_alternates = record { allowed = λ at process key call is. allowed process key call at is; returned = returned; completed = completed }
