-- The operations that the processes called last, and what an ok tells of its operation.
use Rattle.std.proofs.Common.{◌≡◌, ℕ, Bool, true, false, cond, List, ◌⊎◌, Some, Option, length, nat_eq, inl, inr, sym, ap, subst, ◌∙◌, arith}
use Rattle.std.proofs.lemmas.Bool.{cases_Bool}
use Rattle.std.proofs.lemmas.Bool.Decides.{Decides-eqb}
use Rattle.std.proofs.lemmas.Option.{slice_get_within}
use Rattle.lin_events.specs.declared.items.Item.{Item}
use Rattle.lin_events.specs.declared.calls.Call.{Call}
use Rattle.lin_events.specs.declared.calls.Name.{Name}
use Rattle.lin_events.specs.declared.calls.Reply.{Reply}
use Rattle.lin_events.specs.declared.calls.Reply.TheVariants.{Done}
use Rattle.lin_events.specs.declared.events.Body.TheVariants.{Invoke, Ok}
use Rattle.lin_events.specs.declared.events.Event.{Event}
use Rattle.lin_events.specs.Alternation.{IsAlternating}
use Rattle.lin_events.specs.Operations.{IsOpen}
use Rattle.lin_events.specs.WellFormed.{Completes, IsWellFormed}
use Rattle.lin_events.specs.WellFormedLaws.{WellFormedIsAlternating}
use Rattle.lin_events.specs.lemmas.OneMore.{completes, one_open}
use Rattle.lin_objects.specs.declared.kinds.Kind.TheVariants.{Mutex}
use Rattle.lin_objects.specs.Steps.{Step, start}
use Rattle.lin_order.specs.Linearizable.{IsLinearizableAs}
use Rattle.lin_order.specs.ConfigurationLaws.{with_event}
use Rattle.lin_order.specs.lemmas.Ending.{ends}
use Rattle.lin_order.specs.lemmas.Opening.{open_back, opens}
use Rattle.lin_locks.specs.declared.latest.Running.{Running}
use Rattle.lin_locks.specs.inner.Debts.{Config, IsOfLock, lock_call}
use Rattle.lin_locks.specs.inner.Turns.{AreRunning, IsEnding}
use Rattle.lin_locks.proofs.Passing.{ok_step, was_open}
use Rattle.lin_locks.proofs.Placing.{says_done, turns}

-- where there is a legal order there is a configuration
pub ended : (functions : Item → Name → Bool) (h : List Event) → IsAlternating functions h → IsLinearizableAs Mutex h → (c : Config) × IsOfLock h c
ended functions h alternates legal = let all = ends functions h alternates (start Mutex) (Step Mutex) legal.0 legal.1 in (all.0, (legal.0, all.1))

module _ (functions : Item → Name → Bool) (h : List Event) (event : Event) (law : WellFormedIsAlternating) (formed : IsWellFormed functions (with_event h event)) where
  pub alternating : IsAlternating functions (with_event h event)
  alternating = (law functions (with_event h event)).0 formed

  -- an invocation is the last of its process
  pub running_joined : (call : Call) → event.body ≡ Invoke call → (old new : ℕ → Option Running) → ((q : ℕ) → new q ≡ cond (nat_eq event.process q) (Some (record { begin = length h; call = call })) (old q))
      → AreRunning h old → AreRunning (with_event h event) new
  unfolding alternating
  running_joined call is old new updated was at process key other opened = updated process ∙ elim (open_back h event at process key other opened) [
    | inl before ↦ elim (cases_Bool (nat_eq event.process process)) [
      | inl same ↦
          let process_is = (Decides-eqb event.process process).0 same in
          let here = one_open functions (with_event h event) alternating at (length h) event.process key event.key other call
          (subst (λ p. IsOpen (with_event h event) at p key other) (sym process_is) opened) (opens h event call is) in
          let inside = slice_get_within h at _ before.begins in
          absurd (omega (arith, here, inside))
      | inr differs ↦ ap (λ b. cond b (Some (record { begin = length h; call = call })) (old process)) differs ∙ was at process key other before
    ]
    | inr new_one ↦
        let process_is : event.process ≡ process = ap (λ (e : Event). e.process) new_one.1 in
        let call_is : Invoke call ≡ Invoke other = sym is ∙ ap (λ (e : Event). e.body) new_one.1 in
        let it = (Decides-eqb event.process process).1 process_is in
        ap (λ b. cond b (Some (record { begin = length h; call = call })) (old process)) it ∙ ap (λ (n : ℕ). Some (record { begin = n; call = call })) (sym new_one.0) ∙ ap (λ (x : Call). Some (record { begin = at; call = x })) (same_call call_is)
  ]
    where
      same_call : {a b : Call} → Invoke a ≡ Invoke b → a ≡ b
      same_call e = cc

  module _ (name : Name) (completing : Completes event.body name) where
    -- a completion changes nothing of them
    pub running_stays : (running : ℕ → Option Running) → AreRunning h running → AreRunning (with_event h event) running
    unfolding alternating
    running_stays running was at process key call opened = was at process key call (was_open functions h event name alternating completing at process key call opened)

    -- it ends the one of its process
    pub known : (running : ℕ → Option Running) → AreRunning h running → (found : Option Running) → found ≡ running event.process
        → (it : Running) × (found ≡ Some it) × IsEnding functions h event it.begin it.call
    unfolding alternating
    known running was found is =
        let one = completes h event functions alternating name completing in (
          record { begin = one.0; call = one.2 },
          is ∙ was one.0 event.process one.1 one.2 one.3,
          record { well_formed = formed; key = one.1; is_open = one.3 },
        )

-- an ok of a lock's operation says that it is done, and is of one of its calls
module _ (functions : Item → Name → Bool) (h : List Event) (event : Event) (law : WellFormedIsAlternating) (name : Name) (reply : Reply) (is : event.body ≡ Ok name reply) (begin : ℕ) (call : Call) (ending : IsEnding functions h event begin call)
    (legal : IsLinearizableAs Mutex (with_event h event)) where
  formed_so : IsAlternating functions (with_event h event)
  formed_so = (law functions (with_event h event)).0 ending.well_formed

  pub tells_done : reply ≡ Done
  unfolding formed_so
  tells_done =
      let c = ended functions (with_event h event) formed_so legal in
      let step = ok_step functions h event name formed_so reply is begin ending.key call ending.is_open c.0 c.1 in
      says_done step.0 step.1 call reply step.2

  pub of_lock_call : (call ≡ lock_call true) ⊎ (call ≡ lock_call false)
  unfolding formed_so
  of_lock_call =
      let c = ended functions (with_event h event) formed_so legal in
      let step = ok_step functions h event name formed_so reply is begin ending.key call ending.is_open c.0 c.1 in
      elim (turns true step.0 step.1 call reply step.2) [
        | inl acquires ↦ inl acquires.0
        | inr releases ↦ inr releases.0
      ]
