-- What one more event makes of the sides of a lock.
use Rattle.std.proofs.Common.{◌≡◌, ◌≢◌, ◌<◌, ◌≤◌, ◌+◌, ℕ, zero, suc, Bool, true, false, not, List, [], ◌∷◌, ◌++◌, AllPairs, Contains, length, take, get_or, inl, inr, refl, sym, ap, subst, ◌∙◌, arith, length-append}
use Rattle.std.specs.Bool.{if◌then◌else◌}
use Rattle.std.proofs.lemmas.Bool.{cases_lt}
use Rattle.std.proofs.lemmas.List.{get_or-take, length-take, length_push}
use Rattle.std.proofs.lemmas.List.Elements.{Contains-append_cases, Contains-append_left, Contains-append_right, Contains-get_or, Contains-push, Contains-push_cases}
use Rattle.std.proofs.lemmas.List.Quantifiers.{all_pairs_push}
use Rattle.std.proofs.lemmas.Option.{slice_get_within, slice_get-get_or}
use Rattle.lin_lists.specs.lemmas.Elements.{nothing_in}
use Rattle.lin_events.specs.declared.items.Item.{Item}
use Rattle.lin_events.specs.declared.calls.Call.{Call}
use Rattle.lin_events.specs.declared.calls.Name.{Name}
use Rattle.lin_events.specs.declared.calls.Reply.{Reply}
use Rattle.lin_events.specs.declared.events.Body.TheVariants.{Invoke, Ok, Fail, Info}
use Rattle.lin_events.specs.declared.events.Event.{Event}
use Rattle.lin_events.specs.Alternation.{IsAlternating}
use Rattle.lin_events.specs.Operations.{IsFailed, IsOk, IsOpen}
use Rattle.lin_objects.specs.declared.kinds.Kind.TheVariants.{Mutex}
use Rattle.lin_objects.specs.Steps.{Step, start}
use Rattle.lin_order.specs.ConfigurationLaws.{with_event}
use Rattle.lin_order.specs.lemmas.Ending.{start_lem}
use Rattle.lin_order.specs.lemmas.Completing.{fail_completes, info_completes, ok_completes}
use Rattle.lin_order.specs.lemmas.Opening.{open_back}
use Rattle.lin_locks.specs.declared.sides.Debt.{Debt}
use Rattle.lin_locks.specs.inner.Known.{Part}
use Rattle.lin_locks.specs.inner.Debts.{AreAll, AreOwed, AreRising, Config, IsBalanced, IsOfLock, IsPaid, IsPlacedOpen, lock_call, agrees}
use Rattle.lin_locks.specs.inner.Sides.{AreEarly, AreSides, IsClosed, IsOwing, IsPaying, IsSide, IsStanding, IsUnpayable}
use Rattle.lin_locks.proofs.Lists.{least_fits, pairs_without}
use Rattle.lin_locks.proofs.Passing.{AreLess, AreSame, ends_it, fail_same, info_same, ok_less, was_open}
use Rattle.lin_locks.proofs.Placing.{agrees_other, agrees_same, invoked_balanced, invoked_owed, other_call, turn_round}
use Rattle.lin_locks.proofs.Turning.{balanced_less, balanced_same, one_more, owed_beside, owed_more, owed_paid, owed_same, owed_still}

-- the same told of the other call first
pub round : (h : List Event) (one : Bool) (own other : Part) (lock : Bool) → AreSides h one own other lock → AreSides h (not one) other own lock
round h true own other lock is = record {
  own_side = is.other_side;
  other_side = is.own_side;
  balanced = λ c of_lock. turn_round h true (length own.debts) (length other.debts) lock c (is.balanced c of_lock);
}
round h false own other lock is = record {
  own_side = is.other_side;
  other_side = is.own_side;
  balanced = λ c of_lock. turn_round h false (length own.debts) (length other.debts) lock c (is.balanced c of_lock);
}

-- a placed operation is one of the events
placed_inside : (h : List Event) (c : Config) (call : Call) (at : ℕ) → IsPlacedOpen h c.1 call at → at < length h
placed_inside h c call at is = slice_get_within h at _ is.3.begins

-- where a debt can't be paid there is no configuration
pub unpayable : (h : List Event) (call : Call) (side : Part) → IsSide h call side → IsUnpayable side → (c : Config) → IsOfLock h c → ⊥
unpayable h call side is unpaid c of_lock =
    let opens = side.opens in
    let k = unpaid.0 in
    let debt = unpaid.1 in
    let fits = least_fits (k + 1) (λ at. IsPlacedOpen h c.1 call at × (at < debt.until)) (take k opens) (λ at early. first at early.1 (is.listed at early.0.0 early.0.1 early.0.3)) (is.owed c of_lock k debt unpaid.2) in
    let few = at_most k opens in
    omega (arith, fits, few)
  where
    at_most : (n : ℕ) (xs : List ℕ) → length (take n xs) ≤ n
    at_most zero xs = omega arith
    at_most (suc n) [] = omega arith
    at_most (suc n) (x ∷ xs) = let rest = at_most n xs in omega (arith, rest)

    first : (at : ℕ) → at < unpaid.1.until → Contains side.opens at → Contains (take unpaid.0 side.opens) at
    first at early there = elim (cases_lt there.0 unpaid.0) [
      | inl before ↦
          let j = there.0 in
          let inside : j < length side.opens = there.1 in
          (j, within before inside, get_or-take unpaid.0 side.opens j at before ∙ there.2)
      | inr behind ↦
          let j = there.0 in
          let k = unpaid.0 in
          let inside : j < length side.opens = there.1 in
          let begin = get_or side.opens k at in
          let late : unpaid.1.until ≤ begin = unpaid.3 begin (slice_get-get_or side.opens k at (omega (arith, inside, behind))) in
          absurd (sooner j inside behind there.2 late)
    ]
      where
        within : {j : ℕ} → j < unpaid.0 → j < length side.opens → j < length (take unpaid.0 side.opens)
        within {j} before inside = let many = length-take unpaid.0 side.opens in omega (arith, many, before, inside)

        sooner : (j : ℕ) → j < length side.opens → unpaid.0 ≤ j → get_or side.opens j at ≡ at → unpaid.1.until ≤ get_or side.opens unpaid.0 at → ⊥
        sooner j inside behind is_at late = elim (cases_lt unpaid.0 j) [
          | inl less ↦
              let rises : get_or side.opens unpaid.0 at < get_or side.opens j at = is.rising unpaid.0 j at less inside in
              omega (arith, rises, is_at, late, early)
          | inr same ↦
              let one : unpaid.0 ≡ j = omega (arith, same, behind) in
              let here : get_or side.opens unpaid.0 at ≡ at = ap (λ n. get_or side.opens n at) one ∙ is_at in
              omega (arith, here, late, early)
        ]

-- nothing is closed
pub closed_none : (i : ℕ) (xs ys : List ℕ) → ys ≡ xs → IsClosed i xs ys
closed_none i xs ys same = record {
  kept = λ at there other. subst (λ l. Contains l at) (sym same) there;
  rising = λ rising. subst (AllPairs ◌<◌) (sym same) rising;
  none_new = λ at there. subst (λ l. Contains l at) same there;
}

module _ (h : List Event) (event : Event) where
  -- a side behind an event that invokes nothing
  side_after : (i : ℕ) (call : Call) (side now : Part) → IsSide h call side → IsClosed i side.opens now.opens
      → ((at process : ℕ) (key : Item) → IsOpen (with_event h event) at process key call → IsOpen h at process key call × (at ≢ i))
      → AreRising now.debts → ((debt : Debt) → Contains now.debts debt → debt.until < length (with_event h event)) → AreOwed (with_event h event) call now.debts → IsSide (with_event h event) call now
  side_after i call side now is closed was ordered past owed = record {
    rising = closed.rising is.rising;
    within = λ at there. let inside = is.within at (closed.none_new at there) in let many = length_push h event in omega (arith, inside, many);
    listed = λ at process key opened. let old = was at process key opened in closed.kept at (is.listed at process key old.0) old.1;
    ordered = ordered;
    past = past;
    owed = owed;
  }

  still_past : (debts : List Debt) → ((debt : Debt) → Contains debts debt → debt.until < length h) → (debt : Debt) → Contains debts debt → debt.until < length (with_event h event)
  still_past debts past debt there = let before = past debt there in let many = length_push h event in omega (arith, before, many)

-- after an invocation
module _ (functions : Item → Name → Bool) (h : List Event) (event : Event) (call : Call) (is : event.body ≡ Invoke call) (alternates : IsAlternating functions (with_event h event)) where
  -- the side of its call
  side_joined : (side now : Part) → now.opens ≡ side.opens ++ length h ∷ [] → now.debts ≡ side.debts → IsSide h call side → IsSide (with_event h event) call now
  side_joined side now joined debts was =
      let many = length_push h event in
      record {
        rising = subst (AllPairs ◌<◌) (sym joined) (all_pairs_push ◌<◌ side.opens (length h) was.rising (λ k d inside. was.within (get_or side.opens k d) (Contains-get_or side.opens k d inside)));
        within = λ at there. elim (Contains-push_cases side.opens (length h) at (subst (λ l. Contains l at) joined there)) [
          | inl old ↦ let inside = was.within at old in omega (arith, inside, many)
          | inr new ↦ omega (arith, new, many)
        ];
        listed = λ at process key opened. subst (λ l. Contains l at) (sym joined) (elim (open_back h event at process key call opened) [
          | inl old ↦ Contains-append_left side.opens (length h ∷ []) at (was.listed at process key old)
          | inr new ↦ subst (Contains (side.opens ++ length h ∷ [])) (sym new.0) (Contains-push side.opens (length h))
        ]);
        ordered = subst AreRising (sym debts) was.ordered;
        past = λ debt there. still_past h event side.debts was.past debt (subst (λ l. Contains l debt) debts there);
        owed = subst (AreOwed (with_event h event) call) (sym debts) (invoked_owed functions h event call is alternates call side.debts was.owed);
      }

  -- and of another one
  side_beside : (other : Call) → call ≢ other → (side : Part) → IsSide h other side → IsSide (with_event h event) other side
  side_beside other differ side was =
      let many = length_push h event in
      record {
        rising = was.rising;
        within = λ at there. let inside = was.within at there in omega (arith, inside, many);
        listed = λ at process key opened. elim (open_back h event at process key other opened) [
          | inl old ↦ was.listed at process key old
          | inr new ↦ absurd (differ (same_call (sym is ∙ ap (λ (e : Event). e.body) new.1)))
        ];
        ordered = was.ordered;
        past = still_past h event side.debts was.past;
        owed = invoked_owed functions h event call is alternates other side.debts was.owed;
      }
    where
      same_call : {a b : Call} → Invoke a ≡ Invoke b → a ≡ b
      same_call e = cc

  pub sides_joined : (one : Bool) (own now other : Part) (lock : Bool) → call ≡ lock_call one → now.opens ≡ own.opens ++ length h ∷ [] → now.debts ≡ own.debts
      → AreSides h one own other lock → AreSides (with_event h event) one now other lock
  sides_joined one own now other lock same joined debts was = record {
    own_side = subst (λ x. IsSide (with_event h event) x now) same (side_joined own now joined debts (subst (λ x. IsSide h x own) (sym same) was.own_side));
    other_side = side_beside (lock_call (not one)) (λ e. other_call one (sym same ∙ e)) other was.other_side;
    balanced = invoked_balanced functions h event call is alternates one (length now.debts) (length other.debts) lock
        (subst (λ n. (c : Config) → IsOfLock h c → IsBalanced h one n (length other.debts) lock c) (ap length (sym debts)) was.balanced);
  }

  pub sides_beside : (own other : Part) (lock : Bool) → call ≢ lock_call true → call ≢ lock_call false → AreSides h true own other lock → AreSides (with_event h event) true own other lock
  sides_beside own other lock differ differs was = record {
    own_side = side_beside (lock_call true) differ own was.own_side;
    other_side = side_beside (lock_call false) differs other was.other_side;
    balanced = invoked_balanced functions h event call is alternates true (length own.debts) (length other.debts) lock was.balanced;
  }

module _ (functions : Item → Name → Bool) (h : List Event) (event : Event) (name : Name) (alternates : IsAlternating functions (with_event h event)) where
  -- after an info
  pub sides_informed : event.body ≡ Info name → (own other : Part) (lock : Bool) → AreSides h true own other lock → AreSides (with_event h event) true own other lock
  sides_informed is own other lock was =
      let each = info_same functions h event name alternates is in
      let side = λ (call : Call) (s : Part) (it : IsSide h call s). side_same each call s it in
      record {
        own_side = side (lock_call true) own was.own_side;
        other_side = side (lock_call false) other was.other_side;
        balanced = balanced_same h (with_event h event) each true (length own.debts) (length other.debts) lock was.balanced;
      }
    where
      side_same : AreSame h (with_event h event) → (call : Call) (s : Part) → IsSide h call s → IsSide (with_event h event) call s
      side_same each call s it = side_after h event (length h) call s s it (closed_none (length h) s.opens s.opens refl)
          (λ at process key opened. let old = was_open functions h event name alternates (info_completes event.body name is) at process key call opened in let inside = slice_get_within h at _ old.begins in (old, λ same. omega (arith, inside, same)))
          it.ordered (still_past h event s.debts it.past) (owed_same h (with_event h event) each call s.debts it.owed)

  -- after a fail
  module _ (is : event.body ≡ Fail name) (i : ℕ) (key : Item) (call : Call) (is_open : IsOpen h i event.process key call) where
    side_failed : (other : Call) (side now : Part) → IsClosed i side.opens now.opens → now.debts ≡ side.debts → IsSide h other side → IsSide (with_event h event) other now
    side_failed other side now closed debts it = side_after h event i other side now it closed
        (λ at process k opened. (
          was_open functions h event name alternates (fail_completes event.body name is) at process k other opened,
          λ same. opened.no_fail (subst (IsFailed (with_event h event)) (sym same) (length h, event, ends_it functions h event name alternates (fail_completes event.body name is) i key call is_open, name, is)),
        ))
        (subst AreRising (sym debts) it.ordered) (λ debt there. still_past h event side.debts it.past debt (subst (λ l. Contains l debt) debts there))
        (subst (AreOwed (with_event h event) other) (sym debts) (owed_same h (with_event h event) (fail_same functions h event name alternates is) other side.debts it.owed))

    pub sides_failed : (one : Bool) (own now other : Part) (lock : Bool) → IsClosed i own.opens now.opens → now.debts ≡ own.debts → AreSides h one own other lock → AreSides (with_event h event) one now other lock
    sides_failed one own now other lock closed debts was = record {
      own_side = side_failed (lock_call one) own now closed debts was.own_side;
      other_side = side_failed (lock_call (not one)) other other (closed_none i other.opens other.opens refl) refl was.other_side;
      balanced = balanced_same h (with_event h event) (fail_same functions h event name alternates is) one (length now.debts) (length other.debts) lock
          (subst (λ n. (c : Config) → IsOfLock h c → IsBalanced h one n (length other.debts) lock c) (ap length (sym debts)) was.balanced);
    }

  -- after an ok of the one call's operation
  module _ (reply : Reply) (is : event.body ≡ Ok name reply) (i : ℕ) (key : Item) (one : Bool) (is_open : IsOpen h i event.process key (lock_call one)) where
    each_less : AreLess h (with_event h event) i (lock_call one)
    each_less = ok_less functions h event name alternates reply is i key (lock_call one) is_open

    pub not_it : (other : Call) (at process : ℕ) (k : Item) → IsOpen (with_event h event) at process k other → IsOpen h at process k other × (at ≢ i)
    not_it other at process k opened = (
      was_open functions h event name alternates (ok_completes event.body name reply is) at process k other opened,
      λ same. opened.no_ok (length h) reply (subst (λ n. IsOk (with_event h event) n (length h) reply) (sym same) (event, ends_it functions h event name alternates (ok_completes event.body name reply is) i key (lock_call one) is_open, name, is)),
    )

    -- the side of the other call stays
    side_stays : (other : Part) → IsSide h (lock_call (not one)) other → IsSide (with_event h event) (lock_call (not one)) other
    unfolding each_less
    side_stays other it = side_after h event i (lock_call (not one)) other other it (closed_none i other.opens other.opens refl) (not_it (lock_call (not one))) it.ordered
        (still_past h event other.debts it.past) (owed_beside h (with_event h event) i one each_less other.debts it.owed)

    pub sides_paid : (own now other : Part) (lock : Bool) → IsPaying i own now → AreSides h one own other lock → AreSides (with_event h event) one now other lock
    unfolding each_less
    sides_paid own now other lock paying was =
        let paid = paying.paid in
        let kept = parts own.debts paying.debt now.debts paid in
        record {
          own_side = side_after h event i (lock_call one) own now was.own_side paying.closed (not_it (lock_call one)) (kept.1 was.own_side.ordered)
              (λ debt there. still_past h event own.debts was.own_side.past debt (kept.2 debt there))
              (owed_paid h (with_event h event) i one each_less own.debts paying.debt now.debts was.own_side.ordered paid was.own_side.owed);
          other_side = side_stays other was.other_side;
          balanced = balanced_less h (with_event h event) i one each_less (length own.debts) (length other.debts) lock (length now.debts) (length other.debts) lock
              (let many = kept.0 in omega (arith, many)) was.balanced;
        }
      where
        parts : (old : List Debt) (debt : Debt) (new : List Debt) → IsPaid i old debt new → (length new + 1 ≡ length old) × (AreRising old → AreRising new) × ((d : Debt) → Contains new d → Contains old d)
        parts old debt new paid =
            let was_is = paid.was in
            let now_is = paid.is in
            let a = ap length paid.was ∙ length-append paid.before (debt ∷ paid.behind) in
            let b = ap length paid.is ∙ length-append paid.before paid.behind in (
              omega (arith, a, b),
              λ rising. subst AreRising (sym paid.is) (pairs_without (λ c d. c.until ≤ d.until) paid.before debt paid.behind (subst AreRising paid.was rising)),
              λ d there. subst (λ l. Contains l d) (sym paid.was) (elim (Contains-append_cases paid.before paid.behind d (subst (λ l. Contains l d) paid.is there)) [
                | inl early ↦ Contains-append_left paid.before (debt ∷ paid.behind) d early
                | inr late ↦ Contains-append_right paid.before (debt ∷ paid.behind) d (Contains-append_right (debt ∷ []) paid.behind d late)
              ]),
            )

    -- the side of its own call, where it stands last
    side_stands : (own now : Part) → IsStanding i own now → IsSide h (lock_call one) own → IsSide (with_event h event) (lock_call one) now
    unfolding each_less
    side_stands own now standing it = side_after h event i (lock_call one) own now it standing.closed (not_it (lock_call one)) (subst AreRising (sym standing.debts) it.ordered)
        (λ debt there. still_past h event own.debts it.past debt (subst (λ l. Contains l debt) standing.debts there))
        (subst (AreOwed (with_event h event) (lock_call one)) (sym standing.debts) (owed_still h (with_event h event) i one each_less own.debts (standing.early it.ordered) it.owed))

    pub sides_stand : (own now other : Part) (lock : Bool) → lock ≡ not one → IsStanding i own now → AreSides h one own other lock → AreSides (with_event h event) one now other one
    unfolding each_less
    sides_stand own now other lock fits standing was = record {
      own_side = side_stands own now standing was.own_side;
      other_side = side_stays other was.other_side;
      balanced = balanced_less h (with_event h event) i one each_less (length own.debts) (length other.debts) lock (length now.debts) (length other.debts) one
          (let many = ap length standing.debts in let zero_is : agrees one lock ≡ 0 = ap (agrees one) fits ∙ agrees_other one in let one_is = agrees_same one in omega (arith, many, zero_is, one_is)) was.balanced;
    }

    pub sides_owe : (own now other later : Part) (lock : Bool) → lock ≡ one → IsStanding i own now → IsOwing (length h) other later → AreSides h one own other lock → AreSides (with_event h event) one now later one
    unfolding each_less
    sides_owe own now other later lock fits standing owing was =
        let many = length_push other.debts owing.debt in
        let size = length_push h event in
        let more = one_more h (with_event h event) i one each_less own.debts (length other.debts) lock fits (standing.early was.own_side.ordered) was.own_side.owed was.balanced in
        let stays = side_stays other was.other_side in
        record {
          own_side = side_stands own now standing was.own_side;
          other_side = record {
            rising = subst (AllPairs ◌<◌) (sym owing.open_same) stays.rising;
            within = λ at there. stays.within at (subst (λ l. Contains l at) owing.open_same there);
            listed = λ at process k opened. subst (λ l. Contains l at) (sym owing.open_same) (stays.listed at process k opened);
            ordered = subst AreRising (sym owing.debts) (all_pairs_push (λ c d. c.until ≤ d.until) other.debts owing.debt was.other_side.ordered
                (λ k d inside. let before = was.other_side.past (get_or other.debts k d) (Contains-get_or other.debts k d inside) in let time = owing.time in omega (arith, before, time)));
            past = λ debt there. elim (Contains-push_cases other.debts owing.debt debt (subst (λ l. Contains l debt) owing.debts there)) [
              | inl old ↦ stays.past debt old
              | inr new ↦ let time : debt.until ≡ length h = ap (λ (d : Debt). d.until) (sym new) ∙ owing.time in omega (arith, time, size)
            ];
            owed = subst (AreOwed (with_event h event) (lock_call (not one))) (sym owing.debts) (owed_more h (with_event h event) i one each_less other.debts owing.debt more
                (λ at c placed. let inside = inside_before at c placed in let time = owing.time in omega (arith, inside, time)) was.other_side.owed);
          };
          balanced = balanced_less h (with_event h event) i one each_less (length own.debts) (length other.debts) lock (length now.debts) (length later.debts) one
              (let same = ap length standing.debts in let next = ap length owing.debts in let one_is : agrees one lock ≡ agrees one one = ap (agrees one) fits in omega (arith, same, next, many, one_is)) was.balanced;
        }
      where
        inside_before : (at : ℕ) (c : Config) → IsPlacedOpen (with_event h event) c.1 (lock_call (not one)) at → at < length h
        inside_before at c placed = slice_get_within h at _ (was_open functions h event name alternates (ok_completes event.body name reply is) at placed.0 placed.1 (lock_call (not one)) placed.3).begins

    -- or the debt can't be paid
    pub sides_fail : (own other : Part) (lock : Bool) → lock ≡ one → AreEarly i own.debts → length other.opens ≤ length other.debts → AreSides h one own other lock → (c : Config) → IsOfLock (with_event h event) c → ⊥
    unfolding each_less
    sides_fail own other lock fits early few was c of_lock =
        let more = one_more h (with_event h event) i one each_less own.debts (length other.debts) lock fits (early was.own_side.ordered) was.own_side.owed was.balanced c of_lock in
        let stays = side_stays other was.other_side in
        let many = least_fits (length other.debts + 1) (IsPlacedOpen (with_event h event) c.1 (lock_call (not one))) other.opens (λ at placed. stays.listed at placed.0 placed.1 placed.3) more in
        omega (arith, many, few)

    -- where it stands last, whether the lock allows it or one of the other call is owed
    pub sides_turned : (own now other later : Part) (lock fits : Bool) (end : ℕ) → end ≡ length h → lock ≡ (if fits then not one else one) → (fits ≡ true → IsStanding i own now × (later ≡ other))
        → (fits ≡ false → IsStanding i own now × IsOwing end other later) → AreSides h one own other lock → AreSides (with_event h event) one now later one
    sides_turned own now other later lock true end at allows stands owes was =
        let kept = stands refl in
        subst (λ s. AreSides (with_event h event) one now s one) (sym kept.1) (sides_stand own now other lock allows kept.0 was)
    sides_turned own now other later lock false end at allows stands owes was =
        let kept = owes refl in
        sides_owe own now other later lock allows kept.0 (subst (λ n. IsOwing n other later) at kept.1) was

-- before any event
side_begins : (call : Call) (side : Part) → side.opens ≡ [] → side.debts ≡ [] → IsSide [] call side
side_begins call side opens debts = record {
  rising = subst (AllPairs ◌<◌) (sym opens) (λ i j d before within. absurd (omega (arith, within)));
  within = λ at there. absurd (nothing_in at (subst (λ l. Contains l at) opens there));
  listed = λ at process key opened. absurd (let inside = slice_get_within [] at _ opened.begins in omega (arith, inside));
  ordered = subst AreRising (sym debts) (λ i j d before within. absurd (omega (arith, within)));
  past = λ debt there. absurd (nothing_in debt (subst (λ l. Contains l debt) debts there));
  owed = subst (AreOwed [] call) (sym debts) (λ c of_lock k debt there. absurd (let inside = slice_get_within [] k debt there in omega (arith, inside)));
}

pub sides_begin : (own other : Part) → own.opens ≡ [] → own.debts ≡ [] → other.opens ≡ [] → other.debts ≡ [] → AreSides [] true own other false
sides_begin own other own_opens own_debts other_opens other_debts = record {
  own_side = side_begins (lock_call true) own own_opens own_debts;
  other_side = side_begins (lock_call false) other other_opens other_debts;
  balanced = λ c of_lock.
      let same = (start_lem (start Mutex) (Step Mutex)).1 c of_lock in
      let a = ap length own_debts in
      let b = ap length other_debts in
      record {
        held = false;
        state = ap (λ (x : Config). x.0) same;
        own = [];
        other = [];
        own_all = nothing_open c (lock_call true);
        other_all = nothing_open c (lock_call false);
        sum = omega (arith, a, b);
      };
}
  where
    nothing_open : (c : Config) (call : Call) → AreAll (IsPlacedOpen [] c.1 call) []
    nothing_open c call = record {
      apart = λ i j d before within. absurd (omega (arith, within));
      are = λ at there. absurd (nothing_in at there);
      all = λ at is. absurd (let inside = slice_get_within [] at _ is.3.begins in omega (arith, inside));
    }
