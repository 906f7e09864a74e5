-- Which operations are open, and which have crashed, after one more event.
use Rattle.std.proofs.Common.{◌≡◌, ◌≢◌, ◌<◌, ℕ, Bool, List, length, ◌⊎◌, Some, inl, inr, sym, ap, ◌∙◌, subst, arith, slice_get}
use Rattle.std.proofs.lemmas.Bool.{cases_order}
use Rattle.std.proofs.lemmas.Option.{slice_get_within}
use Rattle.lin_events.specs.declared.items.Item.{Item}
use Rattle.lin_events.specs.declared.events.Event.{Event}
use Rattle.lin_events.specs.declared.events.Body.TheVariants.{Invoke, Ok, Fail, Info}
use Rattle.lin_events.specs.declared.calls.Call.{Call}
use Rattle.lin_events.specs.declared.calls.Name.{Name}
use Rattle.lin_events.specs.declared.calls.Reply.{Reply}
use Rattle.lin_events.specs.Operations.{IsOperation, IsEnd, IsOk, IsCrashed, IsOpen}
use Rattle.lin_events.specs.WellFormed.{Completes}
use Rattle.lin_events.specs.WellFormedLaws.{EndsAreUnique}
use Rattle.lin_events.specs.Alternation.{IsAlternating}
use Rattle.lin_order.specs.ConfigurationLaws.{with_event}
use Rattle.lin_lists.specs.lemmas.Lists.{get_left, get_cases, get_last}

module _ (h : List Event) (event : Event) where
  -- ends stay, and a new one is with the event
  pub end_kept : (at end : ℕ) (ending : Event) → IsEnd h at end ending → IsEnd (with_event h event) at end ending
  end_kept at end ending e = record {
    process = e.process;
    key = e.key;
    call = e.call;
    begins = get_left h event at _ e.begins;
    later = e.later;
    ends = get_left h event end ending e.ends;
    same = e.same;
    least = λ k after before of_it. elim (get_cases h event k of_it.0 of_it.1) [
      | inl old ↦ e.least k after before (of_it.0, old, of_it.2)
      | inr new ↦ (let inside = slice_get_within h end ending e.ends in omega (arith, new.0))
    ];
  }

  pub end_back : (at end : ℕ) (ending : Event) → IsEnd (with_event h event) at end ending → IsEnd h at end ending ⊎ ((end ≡ length h) × (event ≡ ending))
  end_back at end ending e = elim (get_cases h event end ending e.ends) [
    | inr new ↦ inr new
    | inl old ↦
        let inside = slice_get_within h end ending old in
        inl (record {
          process = e.process;
          key = e.key;
          call = e.call;
          begins = begun inside (get_cases h event at _ e.begins);
          later = e.later;
          ends = old;
          same = e.same;
          least = λ k after before of_it. e.least k after before (of_it.0, get_left h event k of_it.0 of_it.1, of_it.2);
        })
  ]
    where
      begun : end < length h → (slice_get h at ≡ Some (record { process = e.process; key = e.key; body = Invoke e.call })) ⊎ ((at ≡ length h) × (event ≡ record { process = e.process; key = e.key; body = Invoke e.call })) → IsOperation h at e.process e.key e.call
      begun inside (inl old) = old
      begun inside (inr new) = let later = e.later in absurd (omega (arith, new.0))

  pub crashed_kept : (at : ℕ) → IsCrashed h at → IsCrashed (with_event h event) at
  crashed_kept at crashed = (crashed.0, crashed.1, end_kept at crashed.0 crashed.1 crashed.2, crashed.3, crashed.4)

  -- what is open stays so, but for what the event ends
  pub open_kept : (at process : ℕ) (key : Item) (call : Call)
      → (IsEnd (with_event h event) at (length h) event → (name : Name) (reply : Reply) → event.body ≡ Ok name reply → ⊥)
      → (IsEnd (with_event h event) at (length h) event → (name : Name) → event.body ≡ Fail name → ⊥)
      → IsOpen h at process key call → IsOpen (with_event h event) at process key call
  open_kept at process key call no_ok no_fail open' = record {
    begins = get_left h event at _ open'.begins;
    no_ok = λ end reply ok. elim (end_back at end ok.0 ok.1) [
      | inl old ↦ open'.no_ok end reply (ok.0, old, ok.2, ok.3)
      | inr new ↦ no_ok (here end ok.0 ok.1 new) ok.2 reply (ap (λ (e : Event). e.body) new.1 ∙ ok.3)
    ];
    no_fail = λ failed. elim (end_back at failed.0 failed.1 failed.2) [
      | inl old ↦ open'.no_fail (failed.0, failed.1, old, failed.3, failed.4)
      | inr new ↦ no_fail (here failed.0 failed.1 failed.2 new) failed.3 (ap (λ (e : Event). e.body) new.1 ∙ failed.4)
    ];
  }
    where
      here : (end : ℕ) (ending : Event) → IsEnd (with_event h event) at end ending → (end ≡ length h) × (event ≡ ending) → IsEnd (with_event h event) at (length h) event
      here end ending e new = subst (λ k. IsEnd (with_event h event) at k event) new.0 (subst (λ x. IsEnd (with_event h event) at end x) (sym new.1) e)

  -- what is open then was so, or is invoked by the event
  pub open_back : (at process : ℕ) (key : Item) (call : Call) → IsOpen (with_event h event) at process key call
      → IsOpen h at process key call ⊎ ((at ≡ length h) × (event ≡ record { process = process; key = key; body = Invoke call }))
  open_back at process key call open' = elim (get_cases h event at _ open'.begins) [
    | inr new ↦ inr new
    | inl old ↦ inl (record {
      begins = old;
      no_ok = λ end reply ok. open'.no_ok end reply (ok.0, end_kept at end ok.0 ok.1, ok.2, ok.3);
      no_fail = λ failed. open'.no_fail (failed.0, failed.1, end_kept at failed.0 failed.1 failed.2, failed.3, failed.4);
    })
  ]

  -- no operation ends that is invoked by the event
  pub no_end_of_last : (end : ℕ) (ending : Event) → IsEnd (with_event h event) (length h) end ending → ⊥
  no_end_of_last end ending e = elim (end_back (length h) end ending e) [
    | inl old ↦ (let inside = slice_get_within h (length h) _ old.begins in omega arith)
    | inr new ↦ (let later = e.later in omega (arith, new.0))
  ]

  -- an invocation opens its operation, and leaves all others
  module _ (call : Call) (is : event.body ≡ Invoke call) where
    pub opens : IsOpen (with_event h event) (length h) event.process event.key call
    opens = record {
      begins = get_last h event ∙ ap (λ b. Some (record event { body = b })) is;
      no_ok = λ end reply ok. no_end_of_last end ok.0 ok.1;
      no_fail = λ failed. no_end_of_last failed.0 failed.1 failed.2;
    }

    pub open_beside : (at process : ℕ) (key : Item) (other : Call) → IsOpen h at process key other → IsOpen (with_event h event) at process key other
    open_beside at process key other open' = open_kept at process key other (λ _ name reply ok. no_ok name reply (sym is ∙ ok)) (λ _ name fail. no_fail name (sym is ∙ fail)) open'
      where
        no_ok : (name : Name) (reply : Reply) → Invoke call ≡ Ok name reply → ⊥
        no_ok name reply e = cc

        no_fail : (name : Name) → Invoke call ≡ Fail name → ⊥
        no_fail name e = cc

    pub crashed_before : (at : ℕ) → IsCrashed (with_event h event) at → IsCrashed h at
    crashed_before at crashed = elim (end_back at crashed.0 crashed.1 crashed.2) [
      | inl old ↦ (crashed.0, crashed.1, old, crashed.3, crashed.4)
      | inr new ↦ absurd (no_info crashed.3 (sym is ∙ ap (λ (e : Event). e.body) new.1 ∙ crashed.4))
    ]
      where
        no_info : (name : Name) → Invoke call ≡ Info name → ⊥
        no_info name e = cc

  -- a completion ends one operation, which was open
  module _ (unique : EndsAreUnique) (functions : Item → Name → Bool) (alternates : IsAlternating functions (with_event h event)) (i : ℕ) (ends : IsEnd (with_event h event) i (length h) event) where
    none_before : (end : ℕ) (ending : Event) → IsEnd h i end ending → ⊥
    none_before end ending e =
        let one = unique (with_event h event) i end (length h) ending event (end_kept i end ending e) ends in
        let inside = slice_get_within h end ending e.ends in
        omega (arith, one.0)

    pub not_crashed : IsCrashed h i → ⊥
    not_crashed crashed = none_before crashed.0 crashed.1 crashed.2

    pub was_open : IsOpen h i event.process ends.key ends.call
    was_open = record {
      begins = subst (λ p. IsOperation h i p ends.key ends.call) (sym ends.same) (begun (get_cases h event i _ ends.begins));
      no_ok = λ end reply ok. none_before end ok.0 ok.1;
      no_fail = λ failed. none_before failed.0 failed.1 failed.2;
    }
      where
        begun : (slice_get h i ≡ Some (record { process = ends.process; key = ends.key; body = Invoke ends.call })) ⊎ ((i ≡ length h) × (event ≡ record { process = ends.process; key = ends.key; body = Invoke ends.call })) → IsOperation h i ends.process ends.key ends.call
        begun (inl old) = old
        begun (inr new) = let later = ends.later in absurd (omega (arith, new.0))

    -- it is the one operation of its process that was open
    pub one_of_process : (at : ℕ) (key : Item) (call : Call) → IsOpen h at event.process key call → at ≡ i
    one_of_process at key call open' = elim (cases_order at i) [
      | inl same ↦ same
      | inr differ ↦ elim differ [
        | inl earlier ↦
            let over = alternates.returned at i event.process key ends.key call ends.call earlier (get_left h event at _ open'.begins) (get_left h event i _ was_open.begins) in
            absurd (returned over.0 over.1 over.2)
        | inr later ↦ absurd (ends.least at later (slice_get_within h at _ open'.begins) (record { process = event.process; key = key; body = Invoke call }, get_left h event at _ open'.begins, ends.same))
      ]
    ]
      where
        returned : (end : ℕ) → end < i → ((reply : Reply) × IsOk (with_event h event) at end reply) ⊎ ((ending : Event) × IsEnd (with_event h event) at end ending × (name : Name) × (ending.body ≡ Fail name)) → ⊥
        returned end before (inl ok) = elim (end_back at end ok.1.0 ok.1.1) [
          | inl old ↦ open'.no_ok end ok.0 (ok.1.0, old, ok.1.2, ok.1.3)
          | inr new ↦ (let later = ends.later in omega (arith, new.0))
        ]
        returned end before (inr fail) = elim (end_back at end fail.0 fail.1) [
          | inl old ↦ open'.no_fail (end, fail.0, old, fail.2, fail.3)
          | inr new ↦ (let later = ends.later in omega (arith, new.0))
        ]

    -- and the one that the event ends
    pub one_ended : (at : ℕ) → IsEnd (with_event h event) at (length h) event → at ≡ i
    one_ended at e = elim (cases_order at i) [
      | inl same ↦ same
      | inr differ ↦ elim differ [
        | inl earlier ↦ absurd (e.least i earlier ends.later (_, ends.begins, sym ends.same ∙ e.same))
        | inr later ↦ absurd (ends.least at later e.later (_, e.begins, sym e.same ∙ ends.same))
      ]
    ]

    -- the others stay open, and their crashes are those from before
    pub others_open : (at process : ℕ) (key : Item) (call : Call) → at ≢ i → IsOpen h at process key call → IsOpen (with_event h event) at process key call
    others_open at process key call other open' = open_kept at process key call (λ e _ _ _. other (one_ended at e)) (λ e _ _. other (one_ended at e)) open'

    pub others_crashed : (at : ℕ) → at ≢ i → IsCrashed (with_event h event) at → IsCrashed h at
    others_crashed at other crashed = elim (end_back at crashed.0 crashed.1 crashed.2) [
      | inl old ↦ (crashed.0, crashed.1, old, crashed.3, crashed.4)
      | inr new ↦ absurd (other (one_ended at (subst (λ k. IsEnd (with_event h event) at k event) new.0 (subst (λ x. IsEnd (with_event h event) at crashed.0 x) (sym new.1) crashed.2))))
    ]

    -- what was open before and is no invocation
    pub open_before : (name : Name) → Completes event.body name → (at process : ℕ) (key : Item) (call : Call) → IsOpen (with_event h event) at process key call → IsOpen h at process key call
    open_before name completes at process key call open' = elim (open_back at process key call open') [
      | inl old ↦ old
      | inr new ↦ absurd (subst (λ b. Completes b name) (ap (λ (e : Event). e.body) new.1) completes)
    ]
