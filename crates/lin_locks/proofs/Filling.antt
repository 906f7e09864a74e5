-- What one more event makes of the order that goes with a lock.
use Rattle.std.proofs.Common.{◌≡◌, ◌≢◌, ◌<◌, ◌+◌, ℕ, zero, suc, Bool, true, false, not, List, [], ◌∷◌, ◌++◌, ◌⊎◌, AllPairs, Contains, Option, Some, None, length, set, filter, slice_get, inl, inr, refl, sym, ap, subst, ◌∙◌, arith}
use Rattle.std.proofs.lemmas.Bool.{cases_eq}
use Rattle.std.proofs.lemmas.Option.{slice_get_within}
use Rattle.std.proofs.lemmas.List.Elements.{Contains-append_cases, Contains-append_left, Contains-append_right, Contains-get_or, Contains-push, Contains-push_cases}
use Rattle.std.proofs.lemmas.List.Kept.{AllPairs-filter}
use Rattle.std.proofs.lemmas.List.Quantifiers.{all_pairs_push}
use Rattle.lin_lists.specs.lemmas.Elements.{begins_other, first_or_rest, from_filter, in_filter, nothing_in, other_from, other_true, pairs_last, pairs_left}
use Rattle.lin_lists.specs.lemmas.Lists.{get_cases, get_last, get_left, get_set_cases}
use Rattle.lin_events.specs.declared.items.Item.{Item}
use Rattle.lin_events.specs.declared.calls.Call.{Call}
use Rattle.lin_events.specs.declared.calls.Name.{Name}
use Rattle.lin_events.specs.declared.calls.Reply.{Reply}
use Rattle.lin_events.specs.declared.calls.Reply.TheVariants.{Done}
use Rattle.lin_events.specs.declared.events.Body.TheVariants.{Invoke, Ok, Fail, Info}
use Rattle.lin_events.specs.declared.events.Event.{Event}
use Rattle.lin_events.specs.Alternation.{IsAlternating}
use Rattle.lin_events.specs.Operations.{IsFailed, IsOk, IsOpen, IsOperation}
use Rattle.lin_events.specs.lemmas.OneMore.{alternates_before, ok_kept, one_call, one_open}
use Rattle.lin_objects.specs.declared.kinds.Kind.TheVariants.{Mutex}
use Rattle.lin_objects.specs.declared.states.State.TheVariants.{Held}
use Rattle.lin_objects.specs.Steps.{Step, start}
use Rattle.lin_order.specs.declared.placed.Placed.{Placed}
use Rattle.lin_order.specs.Orders.{Places}
use Rattle.lin_order.specs.Configurations.{EndsIn, IsAdded, IsRising}
use Rattle.lin_order.specs.ConfigurationLaws.{with_event}
use Rattle.lin_order.specs.lemmas.Adding.{can_add}
use Rattle.lin_order.specs.lemmas.Completing.{fail_completes, fail_lem, info_completes, info_lem, ok_completes, ok_lem}
use Rattle.lin_order.specs.lemmas.Invoking.{after_invocation}
use Rattle.lin_order.specs.lemmas.Opening.{open_back}
use Rattle.lin_order.specs.lemmas.Placing.{placing_lem}
use Rattle.lin_certificates.specs.lemmas.Conflicting.{across}
use Rattle.lin_certificates.specs.lemmas.Counting.{first_apart}
use Rattle.lin_locks.specs.declared.sides.Debt.{Debt}
use Rattle.lin_locks.specs.inner.Debts.{IsPaid, lock_call}
use Rattle.lin_locks.specs.inner.Fillings.{IsKept, IsLegalFilled, IsPayment, filled, paying}
use Rattle.lin_locks.proofs.Filled.{done, filled_named, filled_owed, filled_paid, in_filled, paid_in, pairs_known, pairs_with, paying_here, paying_other}
use Rattle.lin_locks.proofs.Lists.{pairs_without}
use Rattle.lin_locks.proofs.Passing.{ends_it, was_open}
use Rattle.lin_locks.proofs.Placing.{other_call}
use Rattle.lin_locks.proofs.Siding.{not_it}

none_before : (n : ℕ) → 0 + n ≡ n
none_before n = omega arith

turn_step : (one : Bool) → Step Mutex (Held (not one)) (lock_call one) (Held one) Done
turn_step true = (refl, refl)
turn_step false = (refl, refl)

-- entries of one process are one
one_entry : (xs : List (ℕ × Reply)) → IsRising xs → (x y : ℕ × Reply) → Contains xs x → Contains xs y → x.0 ≡ y.0 → x ≡ y
one_entry [] rising x y in_x in_y same = absurd (nothing_in x in_x)
one_entry (z ∷ xs) rising x y in_x in_y same = elim (first_or_rest z xs x in_x) [
  | inl here_x ↦ elim (first_or_rest z xs y in_y) [
    | inl here_y ↦ sym here_x ∙ here_y
    | inr later_y ↦
        let below : z.0 < y.0 = first_apart (λ (p q : ℕ × Reply). p.0 < q.0) z xs rising y later_y in
        let at_x = ap (λ (p : ℕ × Reply). p.0) here_x in
        absurd (omega (arith, below, at_x, same))
  ]
  | inr later_x ↦ elim (first_or_rest z xs y in_y) [
    | inl here_y ↦
        let below : z.0 < x.0 = first_apart (λ (p q : ℕ × Reply). p.0 < q.0) z xs rising x later_x in
        let at_y = ap (λ (p : ℕ × Reply). p.0) here_y in
        absurd (omega (arith, below, at_y, same))
    | inr later_y ↦ one_entry xs (λ i j d before within. rising (suc i) (suc j) d (omega (arith, before)) (omega (arith, within))) x y later_x later_y same
  ]
]

-- an entry is taken out
taken_out : (process : ℕ) (reply : Reply) (placed : List (ℕ × Reply)) → IsRising placed → Contains placed (process, reply) → (rest : List (ℕ × Reply)) × IsAdded process reply rest placed
taken_out process reply placed rising there = (
  filter (begins_other process) placed,
  record {
    absent = λ other found. other_from process (process, other) (from_filter (begins_other process) placed (process, other) found).1 refl;
    before = AllPairs-filter (λ a b. a.0 < b.0) (begins_other process) placed rising;
    rising = rising;
    kept = λ x found. (from_filter (begins_other process) placed x found).0;
    has = there;
    was = λ x found. elim (cases_eq x.0 process) [
      | inl same ↦ inr (sym (one_entry placed rising x (process, reply) found there same))
      | inr other ↦ inl (in_filter (begins_other process) placed x (other_true process x other) found)
    ];
  },
)

-- an open operation is placed that changes the lock
place_one : (functions : Item → Name → Bool) (h : List Event) → IsAlternating functions h → (one from : Bool) → from ≡ not one → (o : List Placed) (placed : List (ℕ × Reply)) → EndsIn (start Mutex) (Step Mutex) h o (Held from, placed)
    → (i process : ℕ) (key : Item) → IsOpen h i process key (lock_call one) → ((reply : Reply) → Places o i reply → ⊥)
    → (more : List (ℕ × Reply)) × EndsIn (start Mutex) (Step Mutex) h (o ++ done i ∷ []) (Held one, more) × IsAdded process Done placed more
place_one functions h alternates one from turned o placed ends i process key opened none =
    let more = can_add process Done placed ends.placed.rising (λ r there.
    let s = ends.placed.sound process r there in
    let same = one_open functions h alternates s.0 i process s.1 key s.2 (lock_call one) s.3 opened in
    none r (subst (λ n. Places o n r) same s.4)) in (
      more.0,
      placing_lem (start Mutex) (Step Mutex) h o (Held from, placed) (Held one, more.0) (done i) ends (record {
        process = process;
        key = key;
        call = lock_call one;
        is_open = opened;
        steps = subst (λ b. Step Mutex (Held b) (lock_call one) (Held one) Done) (sym turned) (turn_step one);
        added = more.1;
      }),
      more.1,
    )

-- an open operation that stands in the filled order pays a debt
pays_one : (h : List Event) (order : List (Option ℕ)) (own other : List Debt) → IsKept h order own other → (pays : ℕ → ℕ) → (at process : ℕ) (key : Item) (call : Call) → IsOpen h at process key call → (reply : Reply) → Places (filled pays 0 order) at reply
    → ((debt : Debt) × Contains own debt × (pays debt.slot ≡ at)) ⊎ ((debt : Debt) × Contains other debt × (pays debt.slot ≡ at))
pays_one h order own other kept pays at process key call opened reply there =
    let found = in_filled pays order 0 (record { at = at; reply = reply }) there in
    elim found.1 [
      | inl named ↦ let ok = kept.named found.0 at named in absurd (opened.no_ok ok.0 ok.1 ok.2)
      | inr owed ↦ elim (kept.each found.0 owed.0) [
        | inl mine ↦ inl (mine.0, mine.1, ap pays (mine.2 ∙ sym (none_before found.0)) ∙ sym owed.1)
        | inr theirs ↦ inr (theirs.0, theirs.1, ap pays (theirs.2 ∙ sym (none_before found.0)) ∙ sym owed.1)
      ]
    ]

-- what stands in the order is ok for good
pub kept_on : (h : List Event) (event : Event) (order : List (Option ℕ)) (own other : List Debt) → IsKept h order own other → IsKept (with_event h event) order own other
kept_on h event order own other kept = record {
  own_places = kept.own_places;
  other_places = kept.other_places;
  own_once = kept.own_once;
  other_once = kept.other_once;
  apart = kept.apart;
  each = kept.each;
  named = λ k at there. let ok = kept.named k at there in (ok.0, ok.1, ok_kept h event at ok.0 ok.1 ok.2);
}

module _ (h : List Event) (order : List (Option ℕ)) (own other : List Debt) (kept : IsKept h order own other) where
  -- one more stands last
  pub kept_named : (i end : ℕ) (reply : Reply) → IsOk h i end reply → IsKept h (order ++ Some i ∷ []) own other
  kept_named i end reply ok = record {
    own_places = λ d there. get_left order (Some i) d.slot None (kept.own_places d there);
    other_places = λ d there. get_left order (Some i) d.slot None (kept.other_places d there);
    own_once = kept.own_once;
    other_once = kept.other_once;
    apart = kept.apart;
    each = λ k there. elim (get_cases order (Some i) k None there) [
      | inl old ↦ kept.each k old
      | inr new ↦ absurd (let never = new.1 in cc)
    ];
    named = λ k at there. elim (get_cases order (Some i) k (Some at) there) [
      | inl old ↦ kept.named k at old
      | inr new ↦ (end, reply, subst (λ n. IsOk h n end reply) (some_same new.1) ok)
    ];
  }
    where
      some_same : {a b : ℕ} → Some a ≡ Some b → a ≡ b
      some_same e = cc

  -- one more is owed
  pub kept_owed : (debt : Debt) → debt.slot ≡ length order → IsKept h (order ++ None ∷ []) own (other ++ debt ∷ [])
  kept_owed debt slot = record {
    own_places = λ d there. get_left order None d.slot None (kept.own_places d there);
    other_places = λ d there. elim (Contains-push_cases other debt d there) [
      | inl old ↦ get_left order None d.slot None (kept.other_places d old)
      | inr new ↦ subst (λ (x : Debt). slice_get (order ++ None ∷ []) x.slot ≡ Some None) new (subst (λ n. slice_get (order ++ None ∷ []) n ≡ Some None) (sym slot) (get_last order None))
    ];
    own_once = kept.own_once;
    other_once = all_pairs_push (λ c d. c.slot ≢ d.slot) other debt kept.other_once (λ k d inside same.
        let within = slice_get_within order _ None (kept.other_places _ (Contains-get_or other k d inside)) in omega (arith, within, same, slot));
    apart = λ c d in_own in_other. elim (Contains-push_cases other debt d in_other) [
      | inl old ↦ kept.apart c d in_own old
      | inr new ↦ λ same. (
          let within = slice_get_within order c.slot None (kept.own_places c in_own) in
          let is : c.slot ≡ length order = same ∙ ap (λ (x : Debt). x.slot) (sym new) ∙ slot in
          omega (arith, within, is))
    ];
    each = λ k there. elim (get_cases order None k None there) [
      | inl old ↦ elim (kept.each k old) [
        | inl mine ↦ inl mine
        | inr theirs ↦ inr (theirs.0, Contains-append_left other (debt ∷ []) theirs.0 theirs.1, theirs.2)
      ]
      | inr new ↦ inr (debt, Contains-push other debt, slot ∙ sym new.0)
    ];
    named = λ k at there. elim (get_cases order None k (Some at) there) [
      | inl old ↦ kept.named k at old
      | inr new ↦ absurd (let never = new.1 in cc)
    ];
  }

  -- a debt is paid for good
  module _ (debt : Debt) (before behind now : List Debt) (was : own ≡ before ++ debt ∷ behind) (is : now ≡ before ++ behind) where
    in_own : (d : Debt) → Contains now d → Contains own d
    in_own d there = subst (λ l. Contains l d) (sym was) (elim (Contains-append_cases before behind d (subst (λ l. Contains l d) is there)) [
      | inl early ↦ Contains-append_left before (debt ∷ behind) d early
      | inr late ↦ Contains-append_right before (debt ∷ behind) d (Contains-append_right (debt ∷ []) behind d late)
    ])

    pub it_is_own : Contains own debt
    it_is_own = subst (λ l. Contains l debt) (sym was) (Contains-append_right before (debt ∷ behind) debt (0, omega arith, refl))

    once_was : AllPairs (λ c d. c.slot ≢ d.slot) (before ++ debt ∷ behind)
    once_was = subst (AllPairs (λ c d. c.slot ≢ d.slot)) was kept.own_once

    -- the others have other places
    pub slot_before : (d : Debt) → Contains before d → d.slot ≢ debt.slot
    slot_before d there = across (λ (c e : Debt). c.slot ≢ e.slot) before (debt ∷ behind) d debt once_was there (0, omega arith, refl)

    pub slot_behind : (d : Debt) → Contains behind d → d.slot ≢ debt.slot
    slot_behind d there same = (let apart = pairs_behind before once_was d there in apart (sym same))
      where
        pairs_behind : (l : List Debt) → AllPairs (λ c e. c.slot ≢ e.slot) (l ++ debt ∷ behind) → (d : Debt) → Contains behind d → debt.slot ≢ d.slot
        pairs_behind [] all d there = first_apart (λ (c e : Debt). c.slot ≢ e.slot) debt behind all d there
        pairs_behind (z ∷ l) all d there = pairs_behind l (λ i j e before within. all (suc i) (suc j) e (omega (arith, before)) (omega (arith, within))) d there

    pub slot_now : (d : Debt) → Contains now d → d.slot ≢ debt.slot
    slot_now d there = elim (Contains-append_cases before behind d (subst (λ l. Contains l d) is there)) [
      | inl early ↦ slot_before d early
      | inr late ↦ slot_behind d late
    ]

    pub kept_paid : (i end : ℕ) (reply : Reply) → IsOk h i end reply → IsKept h (set order debt.slot (Some i)) now other
    kept_paid i end reply ok = record {
      own_places = λ d there. set_other order debt.slot (Some i) d.slot None (slot_now d there) (kept.own_places d (in_own d there));
      other_places = λ d there. set_other order debt.slot (Some i) d.slot None (λ same. kept.apart debt d it_is_own there (sym same)) (kept.other_places d there);
      own_once = subst (AllPairs (λ c d. c.slot ≢ d.slot)) (sym is) (pairs_without (λ c d. c.slot ≢ d.slot) before debt behind once_was);
      other_once = kept.other_once;
      apart = λ c d there. kept.apart c d (in_own c there);
      each = λ k there. elim (get_set_cases order debt.slot (Some i) k None there) [
        | inl here ↦ absurd (let never = here.1 in cc)
        | inr else' ↦ elim (kept.each k else'.1) [
          | inl mine ↦ inl (mine.0, still mine.0 mine.1 (λ same. else'.0 (sym mine.2 ∙ same)), mine.2)
          | inr theirs ↦ inr theirs
        ]
      ];
      named = λ k at there. elim (get_set_cases order debt.slot (Some i) k (Some at) there) [
        | inl here ↦ (end, reply, subst (λ n. IsOk h n end reply) (some_same here.1) ok)
        | inr else' ↦ kept.named k at else'.1
      ];
    }
      where
        some_same : {a b : ℕ} → Some a ≡ Some b → a ≡ b
        some_same e = cc

        still : (d : Debt) → Contains own d → d.slot ≢ debt.slot → Contains now d
        still d there differ = subst (λ l. Contains l d) (sym is) (elim (Contains-append_cases before (debt ∷ behind) d (subst (λ l. Contains l d) was there)) [
          | inl early ↦ Contains-append_left before behind d early
          | inr late ↦ elim (first_or_rest debt behind d late) [
            | inl here ↦ absurd (differ (ap (λ (x : Debt). x.slot) (sym here)))
            | inr later ↦ Contains-append_right before behind d later
          ]
        ])

        set_other : {A : Type 0} (xs : List A) (s : ℕ) (y : A) (k : ℕ) (x : A) → k ≢ s → slice_get xs k ≡ Some x → slice_get (set xs s y) k ≡ Some x
        set_other [] s y k x differ there = absurd (let never = there in cc)
        set_other (z ∷ xs) zero y zero x differ there = absurd (differ refl)
        set_other (z ∷ xs) zero y (suc k) x differ there = there
        set_other (z ∷ xs) (suc s) y zero x differ there = there
        set_other (z ∷ xs) (suc s) y (suc k) x differ there = set_other xs s y k x (λ e. differ (ap suc e)) there

-- after an invocation of something
pub legal_invoked : (functions : Item → Name → Bool) (h : List Event) (event : Event) (call : Call) → event.body ≡ Invoke call → IsAlternating functions (with_event h event) → (one : Bool) (order : List (Option ℕ)) (own other : List Debt) (lock : Bool)
    → ((debt : Debt) → Contains own debt → debt.until < length h) → ((debt : Debt) → Contains other debt → debt.until < length h) → IsLegalFilled h one order own other lock → IsLegalFilled (with_event h event) one order own other lock
legal_invoked functions h event call is alternates one order own other lock own_past other_past legal pays own_pay other_pay =
    let ends = legal pays (payment_before (lock_call one) own own_past own_pay) (payment_before (lock_call (not one)) other other_past other_pay) in
    (ends.0, (after_invocation (start Mutex) (Step Mutex) functions h event call is alternates).stays (filled pays 0 order) (Held lock, ends.0) ends.1)
  where
    payment_before : (c : Call) (debts : List Debt) → ((debt : Debt) → Contains debts debt → debt.until < length h) → IsPayment (with_event h event) c debts pays → IsPayment h c debts pays
    payment_before c debts past pay = record {
      opened = λ d there. let o = pay.opened d there in (
        o.0,
        o.1,
        elim (open_back h event (pays d.slot) o.0 o.1 c o.2) [
          | inl old ↦ old
          | inr new ↦ (let soon = pay.early d there in let late = past d there in let here = new.0 in absurd (omega (arith, soon, late, here)))
        ],
      );
      early = pay.early;
      once = pay.once;
    }

module _ (functions : Item → Name → Bool) (h : List Event) (event : Event) (name : Name) (alternates : IsAlternating functions (with_event h event)) where
  -- after an info
  pub legal_informed : event.body ≡ Info name → (one : Bool) (order : List (Option ℕ)) (own other : List Debt) (lock : Bool) → IsLegalFilled h one order own other lock → IsLegalFilled (with_event h event) one order own other lock
  legal_informed is one order own other lock legal pays own_pay other_pay =
      let ends = legal pays (payment_before (lock_call one) own own_pay) (payment_before (lock_call (not one)) other other_pay) in
      (ends.0, (info_lem (start Mutex) (Step Mutex) functions h event name is (filled pays 0 order) (Held lock, ends.0)).1 ends.1)
    where
      payment_before : (c : Call) (debts : List Debt) → IsPayment (with_event h event) c debts pays → IsPayment h c debts pays
      payment_before c debts pay = record {
        opened = λ d there. let o = pay.opened d there in (o.0, o.1, was_open functions h event name alternates (info_completes event.body name is) (pays d.slot) o.0 o.1 c o.2);
        early = pay.early;
        once = pay.once;
      }

  -- after a fail
  pub legal_failed : event.body ≡ Fail name → (i : ℕ) (key : Item) (call : Call) → IsOpen h i event.process key call → (one : Bool) (order : List (Option ℕ)) (own other : List Debt) (lock : Bool) → IsKept h order own other
      → IsLegalFilled h one order own other lock → IsLegalFilled (with_event h event) one order own other lock
  legal_failed is i key call is_open one order own other lock kept legal pays own_pay other_pay =
      let ends = legal pays (payment_before (lock_call one) own own_pay).0 (payment_before (lock_call (not one)) other other_pay).0 in (
        ends.0,
        (fail_lem (start Mutex) (Step Mutex) functions h event name alternates is (filled pays 0 order) (Held lock, ends.0)).1 (
          ends.1,
          λ r there.
              let s = ends.1.placed.sound event.process r there in
              let same = one_open functions h (alternates_before h event functions alternates) s.0 i event.process s.1 key s.2 call s.3 is_open in
              elim (pays_one h order own other kept pays s.0 event.process s.1 s.2 s.3 r s.4) [
                | inl mine ↦ (payment_before (lock_call one) own own_pay).1 mine.0 mine.1 (mine.2 ∙ same)
                | inr theirs ↦ (payment_before (lock_call (not one)) other other_pay).1 theirs.0 theirs.1 (theirs.2 ∙ same)
              ],
        ),
      )
    where
      payment_before : (c : Call) (debts : List Debt) → IsPayment (with_event h event) c debts pays → IsPayment h c debts pays × ((d : Debt) → Contains debts d → pays d.slot ≢ i)
      payment_before c debts pay = (
        record {
          opened = λ d there. let o = pay.opened d there in (o.0, o.1, was_open functions h event name alternates (fail_completes event.body name is) (pays d.slot) o.0 o.1 c o.2);
          early = pay.early;
          once = pay.once;
        },
        λ d there same. (pay.opened d there).2.no_fail (subst (IsFailed (with_event h event)) (sym same) (length h, event, ends_it functions h event name alternates (fail_completes event.body name is) i key call is_open, name, is)),
      )

  -- after an ok of the one call's operation
  module _ (is : event.body ≡ Ok name Done) (i : ℕ) (key : Item) (one : Bool) (is_open : IsOpen h i event.process key (lock_call one)) where
    pub ok_now : IsOk (with_event h event) i (length h) Done
    ok_now = (event, ends_it functions h event name alternates (ok_completes event.body name Done is) i key (lock_call one) is_open, name, is)

    payment_then : (c : Call) (debts : List Debt) (pays : ℕ → ℕ) → IsPayment (with_event h event) c debts pays → IsPayment h c debts pays × ((d : Debt) → Contains debts d → pays d.slot ≢ i)
    payment_then c debts pays pay = (
      record {
        opened = λ d there. let o = pay.opened d there in (o.0, o.1, (not_it functions h event name alternates Done is i key one is_open c (pays d.slot) o.0 o.1 o.2).0);
        early = pay.early;
        once = pay.once;
      },
      λ d there. let o = pay.opened d there in (not_it functions h event name alternates Done is i key one is_open c (pays d.slot) o.0 o.1 o.2).1,
    )

    before_so : IsAlternating functions h
    before_so = alternates_before h event functions alternates

    module _ (order : List (Option ℕ)) (own other : List Debt) (kept : IsKept h order own other) where
      -- it isn't in the order
      not_there : (pays : ℕ → ℕ) → IsPayment (with_event h event) (lock_call one) own pays → IsPayment (with_event h event) (lock_call (not one)) other pays → (r : Reply) → Places (filled pays 0 order) i r → ⊥
      not_there pays own_pay other_pay r there = elim (pays_one h order own other kept pays i event.process key (lock_call one) is_open r there) [
        | inl mine ↦ (payment_then (lock_call one) own pays own_pay).1 mine.0 mine.1 mine.2
        | inr theirs ↦ (payment_then (lock_call (not one)) other pays other_pay).1 theirs.0 theirs.1 theirs.2
      ]

      pub legal_stands : (lock : Bool) → lock ≡ not one → IsLegalFilled h one order own other lock → IsLegalFilled (with_event h event) one (order ++ Some i ∷ []) own other one
      unfolding before_so
      legal_stands lock fits legal pays own_pay other_pay =
          let ends = legal pays (payment_then (lock_call one) own pays own_pay).0 (payment_then (lock_call (not one)) other pays other_pay).0 in
          let next = place_one functions h before_so one lock fits (filled pays 0 order) ends.0 ends.1 i event.process key is_open (not_there pays own_pay other_pay) in (
            ends.0,
            subst (λ l. EndsIn (start Mutex) (Step Mutex) (with_event h event) l (Held one, ends.0)) (sym (filled_named pays order 0 i))
                ((ok_lem (start Mutex) (Step Mutex) functions h event name Done alternates is).kept (filled pays 0 order ++ done i ∷ []) (Held one, ends.0) next.0 next.1 next.2),
          )

      pub legal_owes : (debt : Debt) → debt.slot ≡ length order → (lock : Bool) → lock ≡ one → IsLegalFilled h one order own other lock
          → IsLegalFilled (with_event h event) one ((order ++ None ∷ []) ++ Some i ∷ []) own (other ++ debt ∷ []) one
      unfolding before_so
      legal_owes debt slot lock fits legal pays own_pay more_pay =
          let other_pay : IsPayment (with_event h event) (lock_call (not one)) other pays = record {
            opened = λ d there. more_pay.opened d (Contains-append_left other (debt ∷ []) d there);
            early = λ d there. more_pay.early d (Contains-append_left other (debt ∷ []) d there);
            once = pairs_left (λ c d. pays c.slot ≢ pays d.slot) other (debt ∷ []) more_pay.once;
          } in
          let x = pays (0 + length order) in
          let place : pays debt.slot ≡ pays (0 + length order) = ap pays (slot ∙ sym (none_before (length order))) in
          let last = more_pay.opened debt (Contains-push other debt) in
          let late = not_it functions h event name alternates Done is i key one is_open (lock_call (not one)) (pays debt.slot) last.0 last.1 last.2 in
          let opened = subst (λ n. IsOpen h n last.0 last.1 (lock_call (not one))) place late.0 in
          let own_then = payment_then (lock_call one) own pays own_pay in
          let ends = legal pays own_then.0 (payment_then (lock_call (not one)) other pays other_pay).0 in
          let first = place_one functions h before_so (not one) lock (fits ∙ not_not one) (filled pays 0 order) ends.0 ends.1 x last.0 last.1 opened (λ r there.
          elim (pays_one h order own other kept pays (pays (0 + length order)) last.0 last.1 (lock_call (not one)) opened r there) [
            | inl mine ↦ (let o = own_then.0.opened mine.0 mine.1 in
                other_call one (one_call h (pays (0 + length order)) o.0 last.0 o.1 last.1 (lock_call one) (lock_call (not one)) (subst (λ n. IsOperation h n o.0 o.1 (lock_call one)) mine.2 o.2.begins) opened.begins))
            | inr theirs ↦ pairs_last (λ (c d : Debt). pays c.slot ≢ pays d.slot) other debt theirs.0 more_pay.once theirs.1 (theirs.2 ∙ sym place)
          ]) in
          let next = place_one functions h before_so one (not one) refl (filled pays 0 order ++ done (pays (0 + length order)) ∷ []) first.0 first.1 i event.process key is_open (λ r there.
          elim (Contains-push_cases (filled pays 0 order) (done (pays (0 + length order))) (record { at = i; reply = r }) there) [
            | inl old ↦ not_there pays own_pay other_pay r old
            | inr new ↦ late.1 (place ∙ ap (λ (p : Placed). p.at) new)
          ]) in (
            first.0,
            subst (λ l. EndsIn (start Mutex) (Step Mutex) (with_event h event) l (Held one, first.0)) (sym (filled_named pays (order ++ None ∷ []) 0 i ∙ ap (λ l. l ++ done i ∷ []) (filled_owed pays order 0)))
                ((ok_lem (start Mutex) (Step Mutex) functions h event name Done alternates is).kept ((filled pays 0 order ++ done (pays (0 + length order)) ∷ []) ++ done i ∷ []) (Held one, first.0) next.0 next.1 next.2),
          )
        where
          not_not : (b : Bool) → b ≡ not (not b)
          not_not true = refl
          not_not false = refl

      pub legal_paid : (debt : Debt) (now : List Debt) (lock : Bool) → IsPaid i own debt now → IsLegalFilled h one order own other lock → IsLegalFilled (with_event h event) one (set order debt.slot (Some i)) now other lock
      legal_paid debt now lock paid legal pays now_pay other_pay =
          let slot = debt.slot in
          let p = paying pays slot i in
          let now_then = payment_then (lock_call one) now pays now_pay in
          let other_then = payment_then (lock_call (not one)) other pays other_pay in
          let here = paying_here pays slot i in
          let mine = it_is_own h order own other kept debt paid.before paid.behind now paid.was paid.is in
          let ends = legal p (own_paying now_then.0 now_then.1) (other_paying other_then.0) in
          let there = paid_in p order 0 slot (kept.own_places debt mine) in
          let at_i : p (0 + slot) ≡ i = ap p (none_before slot) ∙ here in
          let has = ends.1.placed.complete i event.process key (lock_call one) Done is_open (subst (λ n. Contains (filled p 0 order) (done n)) at_i there) in
          let out = taken_out event.process Done ends.0 ends.1.placed.rising has in (
            out.0,
            subst (λ l. EndsIn (start Mutex) (Step Mutex) (with_event h event) l (Held lock, out.0))
                (filled_paid p pays order 0 slot i (kept.own_places debt mine) at_i (λ n differ. paying_other pays slot i n (λ same. differ (same ∙ sym (none_before slot)))))
                ((ok_lem (start Mutex) (Step Mutex) functions h event name Done alternates is).kept (filled p 0 order) (Held lock, out.0) ends.0 ends.1 out.1),
          )
        where
          other_paying : IsPayment h (lock_call (not one)) other pays → IsPayment h (lock_call (not one)) other (paying pays debt.slot i)
          other_paying pay = record {
            opened = λ d there. let o = pay.opened d there in (o.0, o.1, subst (λ n. IsOpen h n o.0 o.1 (lock_call (not one))) (sym (same d there)) o.2);
            early = λ d there. subst (λ n. n < d.until) (sym (same d there)) (pay.early d there);
            once = pairs_known (λ c d. pays c.slot ≢ pays d.slot) (λ c d. paying pays debt.slot i c.slot ≢ paying pays debt.slot i d.slot) other
                (λ c d in_c in_d differ e. differ (sym (same c in_c) ∙ e ∙ same d in_d)) pay.once;
          }
            where
              same : (d : Debt) → Contains other d → paying pays debt.slot i d.slot ≡ pays d.slot
              same d there = paying_other pays debt.slot i d.slot (λ e. kept.apart debt d (it_is_own h order own other kept debt paid.before paid.behind now paid.was paid.is) there (sym e))

          own_paying : IsPayment h (lock_call one) now pays → ((d : Debt) → Contains now d → pays d.slot ≢ i) → IsPayment h (lock_call one) own (paying pays debt.slot i)
          own_paying pay others = subst (λ l. IsPayment h (lock_call one) l (paying pays debt.slot i)) (sym paid.was) (record {
            opened = λ d there. elim (which d there) [
              | inl it ↦ (event.process, key, subst (λ n. IsOpen h n event.process key (lock_call one)) (sym (ap (λ (x : Debt). paying pays debt.slot i x.slot) (sym it) ∙ paying_here pays debt.slot i)) is_open)
              | inr rest ↦ (let o = pay.opened d rest in (o.0, o.1, subst (λ n. IsOpen h n o.0 o.1 (lock_call one)) (sym (same d rest)) o.2))
            ];
            early = λ d there. elim (which d there) [
              | inl it ↦ subst (λ (x : Debt). paying pays debt.slot i x.slot < x.until) it (subst (λ n. n < debt.until) (sym (paying_here pays debt.slot i)) paid.late)
              | inr rest ↦ subst (λ n. n < d.until) (sym (same d rest)) (pay.early d rest)
            ];
            once = pairs_with (λ c d. paying pays debt.slot i c.slot ≢ paying pays debt.slot i d.slot) paid.before debt paid.behind
                (pairs_known (λ c d. pays c.slot ≢ pays d.slot) (λ c d. paying pays debt.slot i c.slot ≢ paying pays debt.slot i d.slot) (paid.before ++ paid.behind)
                (λ c d in_c in_d differ e. differ (sym (same c (back c in_c)) ∙ e ∙ same d (back d in_d))) (subst (AllPairs (λ c d. pays c.slot ≢ pays d.slot)) paid.is pay.once))
                (λ y there e. others y (back y (Contains-append_left paid.before paid.behind y there)) (sym (same y (back y (Contains-append_left paid.before paid.behind y there))) ∙ e ∙ paying_here pays debt.slot i))
                (λ y there e. others y (back y (Contains-append_right paid.before paid.behind y there)) (sym (same y (back y (Contains-append_right paid.before paid.behind y there))) ∙ sym e ∙ paying_here pays debt.slot i));
          })
            where
              back : (d : Debt) → Contains (paid.before ++ paid.behind) d → Contains now d
              back d there = subst (λ l. Contains l d) (sym paid.is) there

              same : (d : Debt) → Contains now d → paying pays debt.slot i d.slot ≡ pays d.slot
              same d there = paying_other pays debt.slot i d.slot (slot_now h order own other kept debt paid.before paid.behind now paid.was paid.is d there)

              which : (d : Debt) → Contains (paid.before ++ debt ∷ paid.behind) d → (debt ≡ d) ⊎ Contains now d
              which d there = elim (Contains-append_cases paid.before (debt ∷ paid.behind) d there) [
                | inl early ↦ inr (back d (Contains-append_left paid.before paid.behind d early))
                | inr late ↦ elim (first_or_rest debt paid.behind d late) [
                  | inl here ↦ inl here
                  | inr later ↦ inr (back d (Contains-append_right paid.before paid.behind d later))
                ]
              ]
