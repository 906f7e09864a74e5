-- What one more event makes of a debtor that follows a legal order: which of the moves it is.
use Rattle.std.proofs.Common.{◌≡◌, ℕ, ◌<◌, ◌≤◌, zero, suc, Bool, List, [], ◌∷◌, length, Contains, ◌⊎◌, ◌↔◌, inl, inr, refl, sym, ap, subst, ◌∙◌, arith, Some}
use Rattle.std.proofs.lemmas.Bool.{cases_eq, cases_lt, cases_order}
use Rattle.std.proofs.lemmas.List.Elements.{All-contains, Contains-append_right}
use Rattle.lin_events.specs.declared.items.Item.{Item}
use Rattle.lin_events.specs.declared.events.Body.TheVariants.{Ok, Fail}
use Rattle.lin_events.specs.declared.events.Event.{Event}
use Rattle.lin_events.specs.declared.calls.Call.{Call}
use Rattle.lin_events.specs.declared.calls.Call.TheVariants.{Enqueue, Dequeue}
use Rattle.lin_events.specs.declared.calls.Name.{Name}
use Rattle.lin_events.specs.declared.calls.Reply.{Reply}
use Rattle.lin_events.specs.declared.calls.Reply.TheVariants.{Done, Value, Members}
use Rattle.lin_events.specs.declared.calls.Val.TheVariants.{Nil, Item as Held}
use Rattle.lin_events.specs.Alternation.{IsAlternating}
use Rattle.lin_events.specs.Operations.{IsOk, IsFailed, IsOpen}
use Rattle.lin_objects.specs.declared.states.State.{State}
use Rattle.lin_order.specs.declared.placed.Placed.{Placed}
use Rattle.lin_order.specs.Orders.{IsBefore, IsCall, IsOrder, Places}
use Rattle.lin_order.specs.ConfigurationLaws.{with_event}
use Rattle.lin_order.specs.lemmas.OneEnd.{one_call}
use Rattle.lin_order.specs.lemmas.Completing.{ok_completes, fail_completes}
use Rattle.lin_lists.specs.lemmas.Elements.{nothing_in, first_or_rest}
use Rattle.lin_queues.specs.Debts.{Debtor, IsWhole, Stands, Takes, IsAhead, IsOkWithin, IsOpenDequeue, Owes, Follows, IsEnqueued, was_early, put, put_alone, IsDequeued, paid, taken, taken_early, FoundNothing, stays, emptied}
use Rattle.lin_queues.specs.Laws.{BeginningLaw, StartLaw, NoneLaw}
use Rattle.lin_queues.proofs.DebtLists.{some_same, one_there, contains, contains_or_not}
use Rattle.lin_queues.proofs.Queue.{IsStep, puts_one, gets_none, gets_one, behind}
use Rattle.lin_queues.proofs.DebtsTaking.{one_place, one_dequeue, one_element, stands_before, taken_ahead, call_of_got, takes_one, taken_ahead_of_none}
use Rattle.lin_queues.proofs.Events.{one_longer, begins_earlier, whole_itself, event_on, before_on, call_back, opened, ok_cases, not_yet, invoked_earlier, invoked_ahead, ends_there, event_now}
use Rattle.lin_queues.proofs.Stepping.{places_stands, one_answer, taken_as, idle_done, idle_nil, follows_quiet}
use Rattle.lin_queues.proofs.Moves.{done_no_nil, move_early, move_put, move_paid, move_taken, move_taken_early, move_emptied, move_stays}

pub beginning_lem : BeginningLaw
beginning_lem h event whole order is = begins_earlier h event whole order is

pub start_lem : StartLaw
start_lem whole order = record {
  each = λ e placed ok. absurd (never e ok);
  inside_ok = λ e inside. absurd (nothing_in e inside);
  inside_left = λ e z inside ok takes. nothing_in e inside;
  inside_free = λ e t inside owed. nothing_in e inside;
  debts_once = λ i j p before within. absurd (omega arith);
  debts_ok = λ e t owed. absurd (nothing_in (e, t) owed);
  debts_owed = λ e t owed. absurd (nothing_in (e, t) owed);
  early_taken = λ e early. absurd (nothing_in e early);
  early_each = λ e z not_ok ok takes. absurd (never z ok);
  found_nothing = λ y below placed. absurd (omega arith);
  returned_nothing = λ y ok placed. absurd (never y ok);
}
  where
    never : (e : ℕ) → IsOkWithin whole 0 e → ⊥
    never e ok = let below : ok.0 < 0 = ok.3 in omega arith

pub none_lem : NoneLaw
none_lem h debts lin = let d = debts h lin.0 (whole_itself h lin.0 lin.1) in nothing_in d.0 d.1

-- whether an element is owed
owed_or_not : (e : ℕ) (l : List (ℕ × ℕ)) → ((t : ℕ) × Contains l (e, t)) ⊎ ((t : ℕ) → Contains l (e, t) → ⊥)
owed_or_not e [] = inr (λ t there. nothing_in (e, t) there)
owed_or_not e (p ∷ l) = elim (cases_eq p.0 e) [
  | inl same ↦ inl (p.1, (0, omega arith, λ i. (same i, p.1)))
  | inr other ↦ elim (owed_or_not e l) [
    | inl rest ↦ inl (rest.0, Contains-append_right (p ∷ []) l (e, rest.0) rest.1)
    | inr absent ↦ inr (λ t there. elim (first_or_rest p l (e, t) there) [
      | inl here ↦ other (ap (λ (q : ℕ × ℕ). q.0) here)
      | inr later ↦ absent t later
    ])
  ]
]

-- whether a dequeue stands up to a place that found nothing, and was invoked from a time on
nothing_up_to : (o : List Placed) (j since : ℕ)
    → ((i : ℕ) × (y : ℕ) × (i < j) × Stands o i y (Value Nil) × (since ≤ y)) ⊎ ((i y : ℕ) → i < j → Stands o i y (Value Nil) → y < since)
nothing_up_to [] j since = inr (λ i y below there. absurd (no_more i y there))
  where
    no_more : (i y : ℕ) → Stands [] i y (Value Nil) → ⊥
    no_more i y there = cc
nothing_up_to (p ∷ o) zero since = inr (λ i y below there. absurd (omega arith))
nothing_up_to (p ∷ o) (suc j) since = elim (nothing_up_to o j since) [
  | inl found ↦ inl (suc found.0, found.1, omega (arith, found.2), found.3, found.4)
  | inr none ↦ by p.reply refl none
]
  where
    other : (p.reply ≡ Value Nil → ⊥) → ((i y : ℕ) → i < j → Stands o i y (Value Nil) → y < since) → (i y : ℕ) → i < suc j → Stands (p ∷ o) i y (Value Nil) → y < since
    other differ none zero y below there = absurd (differ (ap (λ (q : Placed). q.reply) (some_same there)))
    other differ none (suc i) y below there = none i y (omega arith) there

    by : (r : Reply) → p.reply ≡ r → ((i y : ℕ) → i < j → Stands o i y (Value Nil) → y < since)
        → ((i : ℕ) × (y : ℕ) × (i < suc j) × Stands (p ∷ o) i y (Value Nil) × (since ≤ y)) ⊎ ((i y : ℕ) → i < suc j → Stands (p ∷ o) i y (Value Nil) → y < since)
    by (Value Nil) said none = elim (cases_lt p.at since) [
      | inl less ↦ inr (early less none)
      | inr more ↦ inl (0, p.at, omega arith, ap (λ r. Some (record { at = p.at; reply = r })) said, more)
    ]
      where
        early : p.at < since → ((i y : ℕ) → i < j → Stands o i y (Value Nil) → y < since) → (i y : ℕ) → i < suc j → Stands (p ∷ o) i y (Value Nil) → y < since
        early less none zero y below there = let same : p.at ≡ y = ap (λ (q : Placed). q.at) (some_same there) in omega (arith, less, same)
        early less none (suc i) y below there = none i y (omega arith) there
    by (Value (Held item)) said none = inr (other (λ e. let differ = sym said ∙ e in cc) none)
    by Done said none = inr (other (λ e. let differ = sym said ∙ e in cc) none)
    by (Members s) said none = inr (other (λ e. let differ = sym said ∙ e in cc) none)

module _ {q : List Item} {next : State} where
  put_reply : (call : Call) (reply : Reply) (item : Item) → IsStep q next call reply → call ≡ Enqueue item → reply ≡ Done
  put_reply _ _ item (puts_one other e) given = refl
  put_reply _ _ item (gets_none none e) given = cc
  put_reply _ _ item (gets_one other rest full e) given = cc

  got_reply : (call : Call) (reply : Reply) → IsStep q next call reply → call ≡ Dequeue → (reply ≡ Value Nil) ⊎ ((item : Item) × (reply ≡ Value (Held item)))
  got_reply _ _ (puts_one other e) given = cc
  got_reply _ _ (gets_none none e) given = inl refl
  got_reply _ _ (gets_one other rest full e) given = inr (other, refl)

  calls : (call : Call) (reply : Reply) → IsStep q next call reply → ((item : Item) × (call ≡ Enqueue item)) ⊎ (call ≡ Dequeue)
  calls _ _ (puts_one other e) = inl (other, refl)
  calls _ _ (gets_none none e) = inr refl
  calls _ _ (gets_one other rest full e) = inr refl

module _ (h : List Event) (event : Event) (whole : List Event) (order : List Placed) (is : IsWhole (with_event h event) whole order) where
  is_h : IsWhole h whole order
  is_h = begins_earlier h event whole order is

  order_of : IsOrder whole order
  order_of = is.legal.order_of

  up : (d : Debtor) → Follows whole order (suc (length h)) d → Follows whole order (length (with_event h event)) d
  up d follows = subst (λ k. Follows whole order k d) (sym (one_longer h event)) follows

  -- an event that makes nothing ok
  pub quiet : ((name : Name) (reply : Reply) → event.body ≡ Ok name reply → ⊥) → (d : Debtor) → Follows whole order (length h) d → Follows whole order (length (with_event h event)) d
  quiet never d follows = up d (follows_quiet whole order order_of (length h) d follows event (event_now h event whole order is) never)

  -- the completion of x
  module _ (functions : Item → Name → Bool) (alternates : IsAlternating functions (with_event h event)) (x : ℕ) (key : Item) (call : Call) (is_open : IsOpen h x event.process key call) (name : Name) where
    pub fails : event.body ≡ Fail name → (d : Debtor) → Follows whole order (length h) d → Follows whole order (length (with_event h event)) d × (Contains d.early x → ⊥)
    fails is_fail d follows = (
      quiet (λ other reply e. let both = sym is_fail ∙ e in cc) d follows,
      λ early.
          let was = (follows.early_taken x early).1 in
          All-contains (λ p. IsFailed whole p.at → ⊥) order (record { at = x; reply = Done }) order_of.none_failed (taken_as whole order order_of was.0 x was.2)
          (length h, event, ends_there functions h event x key call name alternates is_open (fail_completes event.body name is_fail) whole order is, name, is_fail),
    )

    module _ (reply : Reply) (is_ok : event.body ≡ Ok name reply) where
      ok : IsOk whole x (length h) reply
      ok = (event, ends_there functions h event x key call name alternates is_open (ok_completes event.body name reply is_ok) whole order is, name, is_ok)

      there : Places order x reply
      there = order_of.each_ok x (length h) reply tt ok

      called : IsCall whole x call
      called = (event.process, key, event_on h whole order is_h x _ is_open.begins)

      -- a queue takes this step
      step : (q : List Item) × (next : State) × IsStep q next call reply
      step =
          let at = places_stands order x reply there in
          let b = behind whole order is.legal at.0 _ at.1 in
          (b.q, b.next, subst (λ k. IsStep b.q b.next k reply) (one_call whole x b.call call b.is_call called) b.steps)

      pub no_other_call : ((item : Item) → call ≡ Enqueue item → ⊥) → (call ≡ Dequeue → ⊥) → ⊥
      no_other_call no_put no_get = elim (calls call reply step.2) [
        | inl puts ↦ no_put puts.0 puts.1
        | inr gets ↦ no_get gets
      ]

      pub done : (item : Item) → call ≡ Enqueue item → reply ≡ Done
      done item given = put_reply call reply item step.2 given

      pub no_other_reply : call ≡ Dequeue → ((item : Item) → reply ≡ Value (Held item) → ⊥) → (reply ≡ Value Nil → ⊥) → ⊥
      no_other_reply given no_item no_nil = elim (got_reply call reply step.2 given) [
        | inl none ↦ no_nil none
        | inr some ↦ no_item some.0 some.1
      ]

      module _ (d : Debtor) (follows : Follows whole order (length h) d) where
        -- what is inside and was taken ahead of x, by another, is owed
        owes : (f : ℕ) → Contains d.inside f → (z : ℕ) (s : Takes order z f) (j : ℕ) → Stands order j x reply → s.taken < j → (z ≡ x → ⊥)
            → Owes whole order (length (with_event h event)) f (length h)
        owes f inside z s j at_x ahead other =
            let early = invoked_ahead whole (length h) x reply ok order order_of s.taken j z _ reply s.dequeued at_x ahead in
            subst (λ k. Owes whole order k f (length h)) (sym (one_longer h event)) (
              z,
              s,
              early,
              omega (arith, early),
              λ within. elim (ok_cases whole (length h) x reply ok z within) [
                | inl was ↦ follows.inside_left f z inside was s
                | inr same ↦ other same
              ],
            )

        open_dequeue : (y : ℕ) → y < length h → Places order y (Value Nil) → (IsOkWithin whole (suc (length h)) y → ⊥) → IsOpenDequeue (with_event h event) y
        open_dequeue y early none not_ok =
            let at = places_stands order y (Value Nil) none in
            opened (with_event h event) whole order is y (Value Nil) Dequeue none (let long = one_longer h event in omega (arith, early, long))
            (λ within. not_ok (subst (λ k. IsOkWithin whole k y) (one_longer h event) within)) (call_of_got whole order is.legal at.0 y Nil at.1)

        pub enqueued : reply ≡ Done → IsEnqueued whole order h (with_event h event) x d
        enqueued said = elim (contains_or_not x d.early) [
          | inl was ↦ was_early was (λ next m. up next (move_early whole order order_of (length h) x reply ok d next follows done_x was m))
          | inr late ↦ elim (nothing_up_to order at_x.0 d.emptied) [
            | inl found ↦ alone late found.0 found.1 found.2 found.3 found.4
            | inr none ↦ put late (λ next m. up next (move_put whole order order_of (length h) x reply ok d next follows done_x d.emptied (omega arith) late (ahead_of none next m.inside) m))
          ]
        ]
          where
            done_x : Places order x Done
            done_x = subst (Places order x) said there

            at_x : (i : ℕ) × Stands order i x Done
            at_x = places_stands order x Done done_x

            stands_x : Stands order at_x.0 x reply
            stands_x = subst (Stands order at_x.0 x) (sym said) at_x.1

            ahead_of : ((i y : ℕ) → i < at_x.0 → Stands order i y (Value Nil) → y < d.emptied) → (next : Debtor) → ((f : ℕ) → Contains next.inside f ↔ (Contains d.inside f ⊎ (f ≡ x)))
                → (y : ℕ) → y < length h → Places order y (Value Nil) → (y < d.emptied) ⊎ ((f : ℕ) → Contains next.inside f → IsAhead order f y)
            ahead_of none next inside y below none_y =
                let at_y = places_stands order y (Value Nil) none_y in
                elim (cases_order at_y.0 at_x.0) [
                  | inl here ↦ absurd (done_no_nil (ap (λ (p : Placed). p.reply) (one_there order at_x.0 at_y.0 _ _ (sym here) at_x.1 at_y.1)))
                  | inr differ ↦ elim differ [
                    | inl before ↦ inl (none at_y.0 y before at_y.1)
                    | inr behind_x ↦ elim (follows.found_nothing y below none_y) [
                      | inl less ↦ inl less
                      | inr all ↦ inr (λ f there_f. elim ((inside f).0 there_f) [
                        | inl old ↦ all f old
                        | inr new ↦ subst (λ k. IsAhead order k y) (sym new)
                            (record { first_at = at_x.0; then_at = at_y.0; first_reply = Done; then_reply = Value Nil; first_stands = at_x.1; then_stands = at_y.1; ahead = behind_x })
                      ])
                    ]
                  ]
                ]

            alone : (Contains d.early x → ⊥) → (i y : ℕ) → i < at_x.0 → Stands order i y (Value Nil) → d.emptied ≤ y → IsEnqueued whole order h (with_event h event) x d
            alone late i y ahead stands_y since =
                let early = invoked_ahead whole (length h) x reply ok order order_of i at_x.0 y (Value Nil) reply stands_y stands_x ahead in
                let none_y = contains order i _ stands_y in
                put_alone late y early since none_y
                (open_dequeue y early none_y (λ within. elim (ok_cases whole (length h) x reply ok y within) [
                  | inl was ↦ (let less = follows.returned_nothing y was none_y in omega (arith, less, since))
                  | inr same ↦ done_no_nil (one_answer whole order order_of x Done (Value Nil) done_x (subst (λ k. Places order k (Value Nil)) same none_y))
                ]))
                (λ f inside. elim (follows.found_nothing y early none_y) [
                  | inl less ↦ absurd (omega (arith, less, since))
                  | inr all ↦ owed_alone f inside i y ahead stands_y (all f inside)
                ])
                (λ next m. up next (move_put whole order order_of (length h) x reply ok d next follows done_x (length h) (omega (arith, early, since)) late (λ other below none_other. inl below) m))
              where
                owed_alone : (f : ℕ) → Contains d.inside f → (i y : ℕ) → i < at_x.0 → Stands order i y (Value Nil) → IsAhead order f y → Owes whole order (length (with_event h event)) f (length h)
                owed_alone f inside i y ahead stands_y a =
                    let first = subst (Stands order a.first_at f) (one_answer whole order order_of f a.first_reply Done (contains order a.first_at _ a.first_stands) (follows.inside_ok f inside).1) a.first_stands in
                    let place = one_place whole order order_of a.then_at i y y a.then_reply (Value Nil) a.then_stands stands_y refl in
                    let took = taken_ahead_of_none whole order is.legal a.first_at f i y first stands_y (let before = a.ahead in omega (arith, before, place)) in
                    owes f inside took.0 took.1 at_x.0 stands_x (omega (arith, took.2, ahead)) (λ same. idle_done whole order order_of x done_x f (subst (λ k. Takes order k f) same took.1))

        pub dequeued : (item : Item) → reply ≡ Value (Held item) → IsDequeued whole order h (with_event h event) x item d
        dequeued item said = elim (contains_or_not e d.inside) [
          | inl inside ↦ taken e inside call_e owed_ahead (λ next m. up next (move_taken whole order order_of (length h) x reply ok d next follows e takes inside m))
          | inr not_inside ↦ elim (owed_or_not e d.debts) [
            | inl owed ↦
                let o = follows.debts_owed e owed.0 owed.1 in
                let same = one_dequeue whole order order_of o.0 x e o.1 takes in
                paid e owed.0 owed.1 (omega (arith, same, o.2)) call_e (λ before behind_it next m. up next (move_paid whole order order_of (length h) x reply ok d next follows e takes owed.0 before behind_it m))
            | inr not_owed ↦ of_open (λ within. elim (follows.each e (taken_as whole order order_of x e takes) within) [
              | inl inside ↦ not_inside inside
              | inr rest ↦ elim rest [
                | inl owed ↦ not_owed owed.0 owed.1
                | inr took ↦ by_other took.0 took.1 took.2
              ]
            ])
          ]
        ]
          where
            at_x : (i : ℕ) × Stands order i x (Value (Held item))
            at_x = places_stands order x (Value (Held item)) (subst (Places order x) said there)

            stands_x : Stands order at_x.0 x reply
            stands_x = subst (Stands order at_x.0 x) (sym said) at_x.1

            one : (e : ℕ) × (t : Takes order x e) × IsCall whole e (Enqueue item) × (t.put < at_x.0) × (t.taken ≡ at_x.0)
            one = takes_one whole order is.legal at_x.0 x item at_x.1

            e : ℕ
            e = one.0

            takes : Takes order x e
            takes = one.1

            early_e : e < length h
            early_e = invoked_ahead whole (length h) x reply ok order order_of one.1.put at_x.0 e Done reply one.1.enqueued stands_x one.3

            call_e : IsCall h e (Enqueue item)
            call_e = call_back h whole order is_h e (Enqueue item) early_e one.2

            by_other : (z : ℕ) → IsOkWithin whole (length h) z → Takes order z e → ⊥
            by_other z within took = not_yet whole (length h) x reply ok (subst (IsOkWithin whole (length h)) (one_dequeue whole order order_of z x e took takes) within)

            owed_ahead : (f : ℕ) → Contains d.inside f → IsBefore h f e → Owes whole order (length (with_event h event)) f (length h)
            owed_ahead f inside before =
                let at_f = places_stands order f Done (follows.inside_ok f inside).1 in
                let first = stands_before whole order order_of at_f.0 takes.put f e Done Done at_f.1 takes.enqueued (before_on h whole order is_h f e before) in
                let took = taken_ahead whole order order_of at_f.0 f x e takes at_f.1 first in
                owes f inside took.0 took.1 at_x.0 stands_x (omega (arith, took.2, one.4)) (λ same.
                let f_is_e = one_element whole order order_of x f e (subst (λ k. Takes order k f) same took.1) takes in
                let later : f < before.0 = before.2.1.later in
                omega (arith, f_is_e, later, before.3))

            of_open : (IsOkWithin whole (length h) e → ⊥) → IsDequeued whole order h (with_event h event) x item d
            of_open not_ok =
                let o = opened h whole order is_h e Done (Enqueue item) (taken_as whole order order_of x e takes) early_e not_ok one.2 in
                taken_early e o.0 o.1 o.2 (λ early. let was = (follows.early_taken e early).1 in by_other was.0 was.1 was.2) owed_ahead
                (λ next m. up next (move_taken_early whole order order_of (length h) x reply ok d next follows e takes not_ok m))

        pub nothing : reply ≡ Value Nil → FoundNothing whole order h (with_event h event) x d
        nothing said = elim (cases_lt x d.emptied) [
          | inl less ↦ stays less (up d (move_stays whole order order_of (length h) x reply ok d follows none less))
          | inr more ↦ emptied more (λ f inside. elim (follows.found_nothing x (invoked_earlier whole (length h) x reply ok) none) [
            | inl less ↦ absurd (omega (arith, less, more))
            | inr all ↦ owed_ahead f inside (all f inside)
          ]) (λ next m. up next (move_emptied whole order order_of (length h) x reply ok d next follows none m))
        ]
          where
            none : Places order x (Value Nil)
            none = subst (Places order x) said there

            owed_ahead : (f : ℕ) → Contains d.inside f → IsAhead order f x → Owes whole order (length (with_event h event)) f (length h)
            owed_ahead f inside a =
                let first = subst (Stands order a.first_at f) (one_answer whole order order_of f a.first_reply Done (contains order a.first_at _ a.first_stands) (follows.inside_ok f inside).1) a.first_stands in
                let answer = one_answer whole order order_of x a.then_reply (Value Nil) (contains order a.then_at _ a.then_stands) none in
                let took = taken_ahead_of_none whole order is.legal a.first_at f a.then_at x first (subst (Stands order a.then_at x) answer a.then_stands) a.ahead in
                owes f inside took.0 took.1 a.then_at (subst (Stands order a.then_at x) (answer ∙ sym said) a.then_stands) took.2
                (λ same. idle_nil whole order order_of x none f (subst (λ k. Takes order k f) same took.1))
