-- What a completion leaves of a lock's configurations.
use Rattle.std.proofs.Common.{◌≡◌, ◌≢◌, ℕ, Bool, List, Contains, length, inl, inr, refl, sym, ap, subst}
use Rattle.lin_events.specs.declared.items.Item.{Item}
use Rattle.lin_events.specs.declared.calls.Call.{Call}
use Rattle.lin_events.specs.declared.calls.Name.{Name}
use Rattle.lin_events.specs.declared.calls.Reply.{Reply}
use Rattle.lin_events.specs.declared.events.Body.{Body}
use Rattle.lin_events.specs.declared.events.Body.TheVariants.{Ok, Fail, Info}
use Rattle.lin_events.specs.declared.events.Event.{Event}
use Rattle.lin_events.specs.Alternation.{IsAlternating}
use Rattle.lin_events.specs.Operations.{IsEnd, IsOpen, IsOperation}
use Rattle.lin_events.specs.WellFormed.{Completes}
use Rattle.lin_events.specs.lemmas.OneMore.{alternates_before, completes, one_caller, one_open, open_kept, open_other}
use Rattle.lin_objects.specs.declared.kinds.Kind.TheVariants.{Mutex}
use Rattle.lin_objects.specs.declared.states.State.{State}
use Rattle.lin_objects.specs.Steps.{Step, start}
use Rattle.lin_order.specs.declared.placed.Placed.{Placed}
use Rattle.lin_order.specs.ConfigurationLaws.{with_event}
use Rattle.lin_order.specs.lemmas.Completing.{fail_completes, fail_lem, info_completes, info_lem, ok_completes, ok_lem}
use Rattle.lin_order.specs.lemmas.OneEnd.{one_call}
use Rattle.lin_order.specs.lemmas.Opening.{open_back}
use Rattle.lin_order.specs.lemmas.Quiet.{info_quiet}
use Rattle.lin_certificates.specs.lemmas.Standing.{place_of, step_there}
use Rattle.lin_locks.specs.inner.Debts.{Config, IsOfLock, IsPlacedOpen}

-- the one configuration places just what the other does, and has its state
pub record IsSame (h after : List Event) (c d : Config) : Type 0 where
  pub state : c.0 ≡ d.0
  pub to : (call : Call) (at : ℕ) → IsPlacedOpen after c.1 call at → IsPlacedOpen h d.1 call at
  pub from : (call : Call) (at : ℕ) → IsPlacedOpen h d.1 call at → IsPlacedOpen after c.1 call at

-- or all but one operation
pub record IsLess (h after : List Event) (i : ℕ) (call : Call) (c d : Config) : Type 0 where
  pub state : c.0 ≡ d.0
  pub here : IsPlacedOpen h d.1 call i
  pub to : (other : Call) (at : ℕ) → IsPlacedOpen after c.1 other at → IsPlacedOpen h d.1 other at × (at ≢ i)
  pub from : (other : Call) (at : ℕ) → IsPlacedOpen h d.1 other at → at ≢ i → IsPlacedOpen after c.1 other at

abbrev pub AreSame : List Event → List Event → Type 0
AreSame h after = (c : Config) → IsOfLock after c → (d : Config) × IsOfLock h d × IsSame h after c d

abbrev pub AreLess : List Event → List Event → ℕ → Call → Type 0
AreLess h after i call = (c : Config) → IsOfLock after c → (d : Config) × IsOfLock h d × IsLess h after i call c d

module _ (functions : Item → Name → Bool) (h : List Event) (event : Event) (name : Name) (alternates : IsAlternating functions (with_event h event)) where
  -- what is open behind a completion was so before
  pub was_open : Completes event.body name → (at process : ℕ) (key : Item) (call : Call) → IsOpen (with_event h event) at process key call → IsOpen h at process key call
  was_open completing at process key call now = elim (open_back h event at process key call now) [
    | inl old ↦ old
    | inr new ↦ absurd (subst (λ (b : Body). Completes b name) (ap (λ (e : Event). e.body) new.1) completing)
  ]

  -- the operation that it ends
  pub ends_it : Completes event.body name → (i : ℕ) (key : Item) (call : Call) → IsOpen h i event.process key call → IsEnd (with_event h event) i (length h) event
  ends_it completing i key call is_open =
      let ended = completes h event functions alternates name completing in
      let same = one_open functions h (alternates_before h event functions alternates) ended.0 i event.process ended.1 key ended.2 call ended.3 is_open in
      subst (λ k. IsEnd (with_event h event) k (length h) event) same ended.4

  pub info_same : event.body ≡ Info name → AreSame h (with_event h event)
  info_same is c of_lock = (
    c,
    (of_lock.0, (info_lem (start Mutex) (Step Mutex) functions h event name is of_lock.0 c).0 of_lock.1),
    record {
      state = refl;
      to = λ call at now. (now.0, now.1, now.2, was_open (info_completes event.body name is) at now.0 now.1 call now.3, now.4);
      from = λ call at was. (was.0, was.1, was.2, open_kept h event (info_quiet event.body name is).0 (info_quiet event.body name is).1 at was.0 was.1 call was.3, was.4);
    },
  )

  pub fail_same : event.body ≡ Fail name → AreSame h (with_event h event)
  fail_same is c of_lock =
      let was_of = (fail_lem (start Mutex) (Step Mutex) functions h event name alternates is of_lock.0 c).0 of_lock.1 in (
        c,
        (of_lock.0, was_of.0),
        record {
          state = refl;
          to = λ call at now. (now.0, now.1, now.2, was_open (fail_completes event.body name is) at now.0 now.1 call now.3, now.4);
          from = λ call at was. (was.0, was.1, was.2, open_other h event at was.0 was.1 call (λ same. was_of.1 was.2 (subst (λ q. Contains c.1 (q, was.2)) same was.4)) was.3, was.4);
        },
      )

  module _ (reply : Reply) (is : event.body ≡ Ok name reply) (i : ℕ) (key : Item) (call : Call) (is_open : IsOpen h i event.process key call) where
    pub ok_less : AreLess h (with_event h event) i call
    ok_less c of_lock =
        let was_of = (ok_lem (start Mutex) (Step Mutex) functions h event name reply alternates is).was of_lock.0 c of_lock.1 in
        let added = was_of.2 in (
          (c.0, was_of.0),
          (of_lock.0, was_of.1),
          record {
            state = refl;
            here = (event.process, key, reply, is_open, added.has);
            to = λ other at now.
                let old = was_open (ok_completes event.body name reply is) at now.0 now.1 other now.3 in (
                  (now.0, now.1, now.2, old, added.kept (now.0, now.2) now.4),
                  λ same.
                      let process = one_caller h i now.0 event.process now.1 key other call (subst (λ k. IsOperation h k now.0 now.1 other) same old.begins) is_open.begins in
                      added.absent now.2 (subst (λ q. Contains c.1 (q, now.2)) process now.4),
                );
            from = λ other at was differ.
                let not_it = λ (same : was.0 ≡ event.process). differ (one_open functions h (alternates_before h event functions alternates) at i event.process was.1 key other call (subst (λ q. IsOpen h at q was.1 other) same was.3) is_open) in (
                  was.0,
                  was.1,
                  was.2,
                  open_other h event at was.0 was.1 other not_it was.3,
                  elim (added.was (was.0, was.2) was.4) [
                    | inl old ↦ old
                    | inr new ↦ absurd (not_it (sym (ap (λ (x : ℕ × Reply). x.0) new)))
                  ],
                );
          },
        )

    -- the lock took a step by its call, with its reply
    pub ok_step : (c : Config) → IsOfLock (with_event h event) c → (s : State) × (next : State) × Step Mutex s call next reply
    ok_step c of_lock =
        let was_of = (ok_lem (start Mutex) (Step Mutex) functions h event name reply alternates is).was of_lock.0 c of_lock.1 in
        let there = was_of.1.placed.sound event.process reply was_of.2.has in
        let same = one_open functions h (alternates_before h event functions alternates) there.0 i event.process there.1 key there.2 call there.3 is_open in
        let p : Placed = record { at = there.0; reply = reply } in
        let place = place_of of_lock.0 p there.4 in
        let step = step_there Mutex h (start Mutex) c.0 of_lock.0 place.0 p was_of.1.runs place.1 in
        let one = one_call h i step.0 call (subst (λ k. (q : ℕ) × (x : Item) × IsOperation h k q x step.0) same step.3) (event.process, key, is_open.begins) in
        (step.1, step.2, subst (λ x. Step Mutex step.1 x step.2 reply) one step.4)
