-- What an ok makes of a member, by the laws of debtors.
use Rattle.std.proofs.Common.{◌≡◌, ◌<◌, ◌≤◌, ◌==◌, ℕ, Bool, not, List, [], ◌∷◌, ◌++◌, length, filter, ◌⊎◌, Some, inl, inr, refl, sym, ap, ◌∙◌, subst, arith, slice_get, Contains}
use Rattle.std.proofs.lemmas.Option.{slice_get_within, get_or_from_slice_get}
use Rattle.std.proofs.lemmas.List.Elements.{Contains-append_left}
use Rattle.lin_events.specs.declared.items.Item.{Item}
use Rattle.lin_events.specs.declared.events.Event.{Event}
use Rattle.lin_events.specs.declared.calls.Call.{Call}
use Rattle.lin_events.specs.declared.calls.Call.TheVariants.{Enqueue, Dequeue}
use Rattle.lin_events.specs.declared.calls.Name.{Name}
use Rattle.lin_events.specs.declared.calls.Reply.{Reply}
use Rattle.lin_events.specs.declared.calls.Reply.TheVariants.{Value}
use Rattle.lin_events.specs.declared.calls.Val.TheVariants.{Item as Held, Nil}
use Rattle.lin_order.specs.declared.placed.Placed.{Placed}
use Rattle.lin_order.specs.ConfigurationLaws.{with_event}
use Rattle.lin_order.specs.Orders.{IsBefore}
use Rattle.lin_lists.specs.lemmas.Lists.{get_left, get_cases, get_last}
use Rattle.lin_queues.specs.Debts.{Owes, IsPut, IsEmptied, LosesEarly, IsEnqueued, FoundNothing, IsDequeued}
use Rattle.lin_queues.specs.Debts.IsEnqueued.{was_early, put, put_alone}
use Rattle.lin_queues.specs.Debts.FoundNothing.{stays, emptied}
use Rattle.lin_queues.specs.Debts.IsDequeued.{paid, taken, taken_early}
use Rattle.lin_queues.specs.Debts.{IsPaid, IsTaken}
use Rattle.lin_queues.specs.Laws.{EnqueuedLaw, NothingLaw, DequeuedLaw}
use Rattle.lin_events.specs.Operations.{IsOperation, IsOpen, IsEnd}
use Rattle.lin_events.specs.WellFormed.{Completes}
use Rattle.lin_events.specs.Alternation.{IsAlternating}
use Rattle.lin_events.specs.WellFormedLaws.{EndsAreUnique, WellFormedIsAlternating}
use Rattle.lin_events.specs.lemmas.OneMore.{one_call}
use Rattle.lin_order.specs.Orders.{IsCall}
use Rattle.lin_order.specs.lemmas.Opening.{end_back, one_of_process, others_open}
use Rattle.lin_queues.specs.declared.elements.Element.{Element}
use Rattle.lin_queues.specs.declared.opens.OpenCall.{OpenCall}
use Rattle.lin_queues.specs.Gathering.{IsReturning, MayPay, MayTake, MayTakeEarly}
use Rattle.lin_queues.specs.Opens.{AreOpen}
use Rattle.lin_queues.specs.Members.{View, Told, IsInside, AreOwed, owed}
use Rattle.lin_queues.proofs.Lists.{one_there, get_appended, get_from_contains, get_map}
use Rattle.lin_queues.proofs.Telling.{told_on, told_emptied, told_put, told_lost, told_paid, told_taken, told_gained}

module _ (functions : Item → Name → Bool) (h : List Event) (event : Event) (place : ℕ) (whole : List Event) (order : List Placed) (time : ℕ) (now : time ≡ length h) (v : View) where
  -- after an ok of a dequeue that found nothing
  module _ (law : NothingLaw) (all : List Element) (returning : IsReturning functions h event place Dequeue (Value Nil) whole order all) (told : Told whole order (length h) all v) where
    found : FoundNothing whole order h (with_event h event) place told.debtor
    found = law functions h event place returning.name whole order told.debtor returning.completes returning.body returning.is_whole told.follows

    pub nothing_same : place < v.emptied → Told whole order (length (with_event h event)) all v
    nothing_same before = elim found [
      | stays _ follows ↦ told_on whole order (length h) all v told (length (with_event h event)) follows
      | emptied later _ _ ↦ (let e = told.emptied in absurd (omega (arith, later)))
    ]

    pub nothing_emptied : v.emptied ≤ place → Told whole order (length (with_event h event)) all (record v { emptied = time }) × AreOwed whole order (length (with_event h event)) all (record v { emptied = time }) time time
    nothing_emptied after = elim found [
      | stays before _ ↦ (let e = told.emptied in absurd (omega (arith, before)))
      | emptied _ owes follows ↦ (
        told_emptied whole order (length h) all v told (length (with_event h event)) time (λ next is. follows next (subst (λ t. IsEmptied t told.debtor next) now is)),
        λ i x at by inside. subst (Owes whole order (length (with_event h event)) x.place) (sym now) (owes x.place ((told.inside x.place).1 inside)),
      )
    ]

  -- after an ok of an enqueue
  module _ (law : EnqueuedLaw) (all before : List Element) (new : Element) (is : all ≡ before ++ new ∷ []) (at : ℕ) (last : at ≡ length before) (named : new.place ≡ place) (reply : Reply)
      (returning : IsReturning functions h event place (Enqueue new.item) reply whole order all) (ended : new.returned ≡ time) (told : Told whole order (length h) before v) where
    after : List Event
    after = with_event h event

    enqueued : IsEnqueued whole order h (with_event h event) place told.debtor
    enqueued = law functions h event place new.item returning.name reply whole order told.debtor returning.completes returning.body returning.is_whole told.follows

    is_early : Contains v.early place → Contains told.debtor.early place
    is_early c = subst (λ l. Contains l place) (sym told.early) c

    was_early' : Contains told.debtor.early place → Contains v.early place
    was_early' c = subst (λ l. Contains l place) told.early c

    pub put_early : Contains v.early place → Told whole order (length (with_event h event)) all (record v { gone = v.gone ++ at ∷ []; early = filter (λ f. not (f == place)) v.early })
    put_early early = elim enqueued [
      | was_early _ follows ↦
          let m = length (with_event h event) in
          let lost = told_lost whole order (length h) before v told m new (λ next loses. follows next (subst (λ x. LosesEarly x told.debtor next) named loses)) in
          let first = subst (λ x. Told whole order m (before ++ new ∷ []) (record v { gone = v.gone ++ length before ∷ []; early = filter (λ f. not (f == x)) v.early })) named lost in
          let second = subst (λ k. Told whole order m (before ++ new ∷ []) (record v { gone = v.gone ++ k ∷ []; early = filter (λ f. not (f == place)) v.early })) (sym last) first in
          subst (λ l. Told whole order m l (record v { gone = v.gone ++ at ∷ []; early = filter (λ f. not (f == place)) v.early })) (sym is) second
      | put absent _ ↦ absurd (absent (is_early early))
      | put_alone absent _ _ _ _ _ _ _ ↦ absurd (absent (is_early early))
    ]

    inside_before : (i : ℕ) (x : Element) → slice_get all i ≡ Some x → x.returned < time → IsInside all v x.place → IsInside before v x.place
    inside_before i x at_i by inside = elim (get_cases before new inside.0 inside.1 (subst (λ l. slice_get l inside.0 ≡ Some inside.1) is inside.3)) [
      | inl old ↦ (inside.0, inside.1, inside.2, old, inside.4, inside.5)
      | inr here ↦
          let same = returning.enqueues.once i inside.0 x inside.1 at_i inside.3 (sym inside.4) in
          let x_is = one_there all inside.0 x inside.1 (subst (λ k. slice_get all k ≡ Some x) same at_i) inside.3 in
          let e = ap (λ (y : Element). y.returned) x_is in
          let f = ap (λ (y : Element). y.returned) here.1 in
          absurd (omega (arith, ended))
    ]

    -- it is in the queue, or alone in it
    pub put_either : (Contains v.early place → ⊥)
        → Told whole order (length (with_event h event)) all v ⊎ (Told whole order (length (with_event h event)) all (record v { emptied = time }) × AreOwed whole order (length (with_event h event)) all (record v { emptied = time }) time time)
    put_either absent = elim enqueued [
      | was_early early _ ↦ absurd (absent (was_early' early))
      | put _ follows ↦
          let m = length (with_event h event) in
          let told' = told_put whole order (length h) before v told m told.debtor.emptied new (λ next is_put. follows next (subst (λ x. IsPut x told.debtor.emptied told.debtor next) named is_put)) in
          let same = subst (λ t. Told whole order m (before ++ new ∷ []) (record v { emptied = t })) told.emptied told' in
          inl (subst (λ l. Told whole order m l v) (sym is) same)
      | put_alone _ _ _ _ _ _ owes follows ↦
          let m = length (with_event h event) in
          let told' = told_put whole order (length h) before v told m time new (λ next is_put. follows next (subst (λ t. IsPut place t told.debtor next) now (subst (λ x. IsPut x time told.debtor next) named is_put))) in
          inr (
            subst (λ l. Told whole order m l (record v { emptied = time })) (sym is) told',
            λ i x at_i by inside. subst (Owes whole order m x.place) (sym now) (owes x.place ((told.inside x.place).1 (inside_before i x at_i by inside))),
          )
    ]

  -- after an ok of a dequeue with an item
  module _ (law : DequeuedLaw) (unique : EndsAreUnique) (alternating : WellFormedIsAlternating) (all : List Element) (item : Item) (end : ℕ)
      (ends : (i : ℕ) (x : Element) → slice_get all i ≡ Some x → x.item ≡ item → i < end) (open' : List OpenCall) (are_open : AreOpen (with_event h event) open')
      (returning : IsReturning functions h event place Dequeue (Value (Held item)) whole order all) (told : Told whole order (length h) all v) where
    -- a call of the events so far is one of the whole
    lifted : (at : ℕ) (call : Call) → IsCall h at call → IsCall whole at call
    lifted at call found = (
      found.0,
      found.1,
      subst (λ l. IsOperation l at found.0 found.1 call) (sym returning.is_whole.whole_is) (get_appended (with_event h event) returning.is_whole.more at _ (get_left h event at _ found.2)),
    )

    one_item : (at : ℕ) (a b : Item) → IsCall whole at (Enqueue a) → IsCall whole at (Enqueue b) → a ≡ b
    one_item at a b x y = let e = one_call whole at x.0 y.0 x.1 y.1 (Enqueue a) (Enqueue b) x.2 y.2 in cc

    call_within : (at : ℕ) (call : Call) → IsCall h at call → at < length h
    call_within at call found = slice_get_within h at _ found.2

    -- those that returned ahead of an element are owed
    are_ahead : (element : ℕ) → element < length h
        → ((other : ℕ) → Contains told.debtor.inside other → IsBefore h other element → Owes whole order (length (with_event h event)) other (length h))
        → (i : ℕ) (x : Element) → slice_get all i ≡ Some x → x.returned < element → IsInside all v x.place → Owes whole order (length (with_event h event)) x.place time
    are_ahead element within owes i x at before inside =
        let ok = returning.returned i x at in
        subst (Owes whole order (length (with_event h event)) x.place) (sym now)
        (owes x.place ((told.inside x.place).1 inside) (elim (end_back h event x.place x.returned ok.1.0 ok.1.1) [
          | inl old ↦ (x.returned, ok.0, (ok.1.0, old, ok.1.2, ok.1.3), before)
          | inr new ↦ (let e = new.0 in absurd (omega (arith, before, within)))
        ]))

    dequeued : IsDequeued whole order h (with_event h event) place item told.debtor
    dequeued = law functions h event place item returning.name whole order told.debtor returning.completes returning.body returning.is_whole told.follows

    -- the operation that the event completes
    alternates : IsAlternating functions (with_event h event)
    alternates = (alternating functions (with_event h event)).0 returning.completes.well_formed

    ended : (i : ℕ) × IsEnd (with_event h event) i (length h) event
    ended =
        let completes : Completes event.body returning.name = subst (λ b. Completes b returning.name) (sym returning.body) refl in
        let found = alternates.completed (length h) event returning.name (get_last h event) completes in
        (found.0, found.4)

    still_open : (element process : ℕ) (key : Item) → IsOpen h element process key (Enqueue item) → IsOpen (with_event h event) element process key (Enqueue item)
    still_open element process key is_open = others_open h event unique functions alternates ended.0 ended.1 element process key (Enqueue item) apart is_open
      where
        apart : element ≡ ended.0 → ⊥
        apart same =
            let own = returning.completes.is_open in
            let e = one_of_process h event unique functions alternates ended.0 ended.1 place returning.completes.key Dequeue own in
            let f = one_call h element process event.process key returning.completes.key (Enqueue item) Dequeue is_open.begins (subst (λ k. IsOperation h k event.process returning.completes.key Dequeue) (e ∙ sym same) own.begins) in
            cc

    pub may_be : ((at : ℕ) × MayPay whole order (length (with_event h event)) all v place item at) ⊎ (((at : ℕ) × (at < end) × MayTake whole order (length (with_event h event)) all v time item at)
        ⊎ ((k : ℕ) × (o : OpenCall) × (slice_get open' k ≡ Some o) × (o.call ≡ Enqueue item) × MayTakeEarly whole order (length (with_event h event)) all v time o.place))
    may_be = elim dequeued [
      | paid element due there before call follows ↦
          let m = length (with_event h event) in
          let at = get_from_contains told.debtor.debts (element, due) there in
          let b = get_map owed v.debts at.0 (element, due) (subst (λ l. slice_get l at.0 ≡ Some (element, due)) told.debts at.1) in
          let own = told.items b.0 (at.0, slice_get_within v.debts at.0 b.0 b.1, get_or_from_slice_get v.debts at.0 b.0 b.0 b.1) in
          let e = ap (λ (p : ℕ × ℕ). p.0) b.2 in
          inl (
            at.0,
            record {
              debt = b.0;
              stands = b.1;
              item_is = one_item element b.0.item item (subst (λ k. IsCall whole k (Enqueue b.0.item)) e own) (lifted element (Enqueue item) call);
              before = subst (λ k. place < k) (sym (ap (λ (p : ℕ × ℕ). p.1) b.2)) before;
              told = told_paid whole order (length h) all v told m at.0 b.0 b.1 (λ first behind next is. follows first behind next (subst (λ (p : ℕ × ℕ). IsPaid p.0 p.1 first behind told.debtor next) b.2 is));
            },
          )
      | taken element inside call owes follows ↦
          let m = length (with_event h event) in
          let s = (told.inside element).0 inside in
          let item_is = one_item element s.1.item item (subst (λ k. IsCall whole k (Enqueue s.1.item)) s.4 (returning.enqueues.called s.0 s.1 s.3)) (lifted element (Enqueue item) call) in
          inr (inl (
            s.0,
            ends s.0 s.1 s.3 item_is,
            record {
              element = s.1;
              stands = s.3;
              item_is = item_is;
              from_low = s.2;
              kept = s.5;
              told = told_taken whole order (length h) all v told m s.0 s.1 returning.enqueues s.3 (λ next is. follows next (subst (λ e. IsTaken e told.debtor next) s.4 is));
              ahead = λ j y at before still. are_ahead element (call_within element (Enqueue item) call) owes j y at (subst (λ k. y.returned < k) s.4 before)
                  (still.0, still.1, still.2, still.3, still.4, λ c. still.5 (Contains-append_left v.gone (s.0 ∷ []) still.0 c));
            },
          ))
      | taken_early element process key is_open absent owes follows ↦
          let m = length (with_event h event) in
          let found = are_open.complete element process key (Enqueue item) (still_open element process key is_open) in
          let own = are_open.sound found.0 found.1 found.2 in
          let call = one_call (with_event h event) element found.1.process process own.0 key found.1.call (Enqueue item) (subst (λ k. IsOperation (with_event h event) k found.1.process own.0 found.1.call) found.3 own.1.begins) (still_open element process key is_open).begins in
          inr (inr (
            found.0,
            found.1,
            found.2,
            call,
            subst (MayTakeEarly whole order m all v time) (sym found.3) (record {
              absent = λ c. absent (subst (λ l. Contains l element) (sym told.early) c);
              told = told_gained whole order (length h) all v told m element follows;
              ahead = λ j y at before still. are_ahead element (call_within element (Enqueue item) (process, key, is_open.begins)) owes j y at before still;
            }),
          ))
    ]
