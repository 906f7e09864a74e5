-- A history with each kind of completion is well-formed.
use Rattle.std.proofs.Common.{◌≡◌, ℕ, zero, suc, ◌<◌, true, pos, List, ◌⊎◌, inl, inr, refl, sym, ap, subst, ◌∙◌, arith, take}
use Rattle.lin_events.specs.declared.items.Item.{Item}
use Rattle.lin_events.specs.declared.items.Item.TheVariants.{Int}
use Rattle.lin_events.specs.declared.calls.Call.{Call}
use Rattle.lin_events.specs.declared.calls.Call.TheVariants.{Read, Write}
use Rattle.lin_events.specs.declared.calls.Name.{Name}
use Rattle.lin_events.specs.declared.calls.Name.TheVariants as Named
use Rattle.lin_events.specs.declared.calls.Reply.TheVariants.{Done}
use Rattle.lin_events.specs.declared.calls.Val.TheVariants.{Item as Held}
use Rattle.lin_events.specs.declared.events.Body.TheVariants.{Invoke, Ok, Fail, Info}
use Rattle.lin_events.specs.declared.events.Event.{Event}
use Rattle.lin_events.specs.Alternation.{IsReturn, IsAlternating}
use Rattle.lin_events.specs.Names.{name_of}
use Rattle.lin_events.specs.Operations.{IsEvent, IsOf, IsOperation, IsEnd, IsOk}
use Rattle.lin_events.specs.WellFormed.{Completes}
use Rattle.lin_order.specs.ConfigurationExamples.{of_registers, event, two_writes, each_completion}
use Rattle.lin_order.specs.lemmas.OneEnd.{one_event}
use Rattle.lin_events.specs.lemmas.OneMore.{alternates_before}

not_of : (h : List Event) (k process : ℕ) (e : Event) → IsEvent h k e → (e.process ≡ process → ⊥) → IsOf h process k → ⊥
not_of h k process e there other of_it = other (ap (λ (x : Event). x.process) (one_event h k e of_it.0 there of_it.1) ∙ of_it.2)

first_ends : IsEnd each_completion 0 2 (event 0 (Ok Named.Write Done))
first_ends = record { process = 0; key = Int (pos 0); call = Write (Held (Int (pos 1))); begins = refl; later = omega arith; ends = refl; same = refl; least = least }
  where
    least : (k : ℕ) → 0 < k → k < 2 → IsOf each_completion 0 k → ⊥
    least zero after before of_it = omega arith
    least (suc zero) after before of_it = not_of each_completion 1 0 (event 1 (Invoke (Write (Held (Int (pos 2)))))) refl (λ e. omega arith) of_it
    least (suc (suc k)) after before of_it = omega arith

second_ends : IsEnd each_completion 1 3 (event 1 (Fail Named.Write))
second_ends = record { process = 1; key = Int (pos 0); call = Write (Held (Int (pos 2))); begins = refl; later = omega arith; ends = refl; same = refl; least = least }
  where
    least : (k : ℕ) → 1 < k → k < 3 → IsOf each_completion 1 k → ⊥
    least zero after before of_it = omega arith
    least (suc zero) after before of_it = omega arith
    least (suc (suc zero)) after before of_it = not_of each_completion 2 1 (event 0 (Ok Named.Write Done)) refl (λ e. omega arith) of_it
    least (suc (suc (suc k))) after before of_it = omega arith

last_ends : IsEnd each_completion 4 5 (event 0 (Info Named.Read))
last_ends = record { process = 0; key = Int (pos 0); call = Read; begins = refl; later = omega arith; ends = refl; same = refl; least = λ k after before of_it. omega arith }

-- the invocations, with their processes
module _ (process : ℕ) (key : Item) (call : Call) where
  is_at : (k : ℕ) (e : Event) → IsEvent each_completion k e → IsOperation each_completion k process key call → e ≡ record { process = process; key = key; body = Invoke call }
  is_at k e there is = one_event each_completion k e _ there is

  calls : (k : ℕ) → IsOperation each_completion k process key call → ((k ≡ 0) × (process ≡ 0)) ⊎ (((k ≡ 1) × (process ≡ 1)) ⊎ ((k ≡ 4) × (process ≡ 0)))
  calls zero is = inl (refl, sym (ap (λ (x : Event). x.process) (is_at 0 _ refl is)))
  calls (suc zero) is = inr (inl (refl, sym (ap (λ (x : Event). x.process) (is_at 1 _ refl is))))
  calls (suc (suc zero)) is = absurd (let bodies = ap (λ (x : Event). x.body) (is_at 2 (event 0 (Ok Named.Write Done)) refl is) in cc)
  calls (suc (suc (suc zero))) is = absurd (let bodies = ap (λ (x : Event). x.body) (is_at 3 (event 1 (Fail Named.Write)) refl is) in cc)
  calls (suc (suc (suc (suc zero)))) is = inr (inr (refl, sym (ap (λ (x : Event). x.process) (is_at 4 _ refl is))))
  calls (suc (suc (suc (suc (suc zero))))) is = absurd (let bodies = ap (λ (x : Event). x.body) (is_at 5 (event 0 (Info Named.Read)) refl is) in cc)
  calls (suc (suc (suc (suc (suc (suc k)))))) is = cc

  allowed : (k : ℕ) → IsOperation each_completion k process key call → of_registers key (name_of call) ≡ true
  allowed k is = elim (calls k is) [
    | inl first ↦ by (Write (Held (Int (pos 1)))) 0 refl (subst (λ j. IsOperation each_completion j process key call) first.0 is) refl
    | inr other ↦ elim other [
      | inl second ↦ by (Write (Held (Int (pos 2)))) 1 refl (subst (λ j. IsOperation each_completion j process key call) second.0 is) refl
      | inr last ↦ by Read 4 refl (subst (λ j. IsOperation each_completion j process key call) last.0 is) refl
    ]
  ]
    where
      same_call : {a b : Call} → Invoke a ≡ Invoke b → a ≡ b
      same_call e = cc

      by : (a : Call) (k : ℕ) {p : ℕ} → IsOperation each_completion k p (Int (pos 0)) a → IsOperation each_completion k process key call → of_registers key (name_of a) ≡ true
          → of_registers key (name_of call) ≡ true
      by a k there is yes' = subst (λ c. of_registers key (name_of c) ≡ true) (same_call (ap (λ (x : Event). x.body) (is_at k _ there is))) yes'

returned : (at later process : ℕ) (key other : Item) (call again : Call) → at < later → IsOperation each_completion at process key call → IsOperation each_completion later process other again
    → (end : ℕ) × (end < later) × IsReturn each_completion at end
returned at later process key other call again below is then = elim (calls process key call at is) [
  | inl first ↦ elim (calls process other again later then) [
    | inl same ↦ absurd (omega (arith, first.0, same.0))
    | inr others ↦ elim others [
      | inl second ↦ absurd (omega (arith, first.1, second.1))
      | inr last ↦ (2, omega (arith, last.0), inl (Done, subst (λ k. IsOk each_completion k 2 Done) (sym first.0) (event 0 (Ok Named.Write Done), first_ends, Named.Write, refl)))
    ]
  ]
  | inr others ↦ elim (calls process other again later then) [
    | inl first ↦ absurd (not_first others first.0)
    | inr lasts ↦ absurd (not_later others lasts)
  ]
]
  where
    not_first : ((at ≡ 1) × (process ≡ 1)) ⊎ ((at ≡ 4) × (process ≡ 0)) → later ≡ 0 → ⊥
    not_first x e = omega arith

    not_later : ((at ≡ 1) × (process ≡ 1)) ⊎ ((at ≡ 4) × (process ≡ 0)) → ((later ≡ 1) × (process ≡ 1)) ⊎ ((later ≡ 4) × (process ≡ 0)) → ⊥
    not_later (inl a) (inl b) = omega (arith, a.0, b.0)
    not_later (inl a) (inr b) = omega (arith, a.1, b.1)
    not_later (inr a) (inl b) = omega (arith, a.0, b.0)
    not_later (inr a) (inr b) = omega (arith, a.0, b.0)

-- the operation that the event completes
abbrev Ended : ℕ → Event → Name → Type 0
Ended end ending name = (at : ℕ) × (call : Call) × IsOperation each_completion at ending.process ending.key call × (name_of call ≡ name) × IsEnd each_completion at end ending

completed : (end : ℕ) (ending : Event) (name : Name) → IsEvent each_completion end ending → Completes ending.body name → Ended end ending name
completed end ending name there is = by end there
  where
    is_it : (k : ℕ) (e : Event) → IsEvent each_completion k e → IsEvent each_completion k ending → (Completes e.body name → Ended k e name) → Ended k ending name
    is_it k e here at_k ended = subst (λ x. Completes x.body name → Ended k x name) (one_event each_completion k e ending here at_k) ended is

    by : (k : ℕ) → IsEvent each_completion k ending → Ended k ending name
    by zero at_k = is_it 0 (event 0 (Invoke (Write (Held (Int (pos 1)))))) refl at_k (λ none. absurd none)
    by (suc zero) at_k = is_it 1 (event 1 (Invoke (Write (Held (Int (pos 2)))))) refl at_k (λ none. absurd none)
    by (suc (suc zero)) at_k = is_it 2 (event 0 (Ok Named.Write Done)) refl at_k (λ named. (0, Write (Held (Int (pos 1))), refl, named, first_ends))
    by (suc (suc (suc zero))) at_k = is_it 3 (event 1 (Fail Named.Write)) refl at_k (λ named. (1, Write (Held (Int (pos 2))), refl, named, second_ends))
    by (suc (suc (suc (suc zero)))) at_k = is_it 4 (event 0 (Invoke Read)) refl at_k (λ none. absurd none)
    by (suc (suc (suc (suc (suc zero))))) at_k = is_it 5 (event 0 (Info Named.Read)) refl at_k (λ named. (4, Read, refl, named, last_ends))
    by (suc (suc (suc (suc (suc (suc k)))))) at_k = cc

pub each_alternates : IsAlternating of_registers each_completion
each_alternates = record { allowed = λ at process key call is. allowed process key call at is; returned = returned; completed = completed }

pub writes_alternate : IsAlternating of_registers two_writes
writes_alternate =
    alternates_before (take 2 each_completion) (event 0 (Ok Named.Write Done)) of_registers
    (alternates_before (take 3 each_completion) (event 1 (Fail Named.Write)) of_registers
    (alternates_before (take 4 each_completion) (event 0 (Invoke Read)) of_registers
    (alternates_before (take 5 each_completion) (event 0 (Info Named.Read)) of_registers each_alternates)))
