-- The list of open operations after one more event.
use Rattle.std.proofs.Common.{◌≡◌, ◌≢◌, ◌<◌, ◌≤◌, suc, ℕ, Bool, true, false, List, [], ◌∷◌, ◌++◌, length, ◌⊎◌, ◌↔◌, Some, inl, inr, refl, sym, ap, ◌∙◌, subst, arith, set, slice_get, take, All, IsTrue}
use Rattle.std.specs.List.{remove, swap}
use Rattle.std.proofs.lemmas.Bool.{cases_lt, cases_order}
use Rattle.std.proofs.lemmas.List.{length-take-le, get_or-take}
use Rattle.std.proofs.lemmas.Option.{slice_get_within, get_or_from_slice_get}
use Rattle.lin_events.specs.declared.items.Item.{Item}
use Rattle.lin_events.specs.declared.events.Event.{Event}
use Rattle.lin_events.specs.declared.events.Body.TheVariants.{Invoke, Ok, Fail, Info}
use Rattle.lin_events.specs.declared.calls.Call.{Call}
use Rattle.lin_events.specs.declared.calls.Name.{Name}
use Rattle.lin_events.specs.declared.calls.Reply.{Reply}
use Rattle.lin_events.specs.Operations.{IsOperation, IsEnd, IsCrashed, IsOpen}
use Rattle.lin_events.specs.WellFormed.{Completes}
use Rattle.lin_events.specs.WellFormedLaws.{EndsAreUnique, WellFormedIsAlternating}
use Rattle.lin_events.specs.Alternation.{IsAlternating}
use Rattle.lin_order.specs.ConfigurationLaws.{with_event}
use Rattle.lin_order.specs.lemmas.Opening.{crashed_kept, open_kept, no_end_of_last, opens, open_back, open_beside, crashed_before, not_crashed, was_open, one_of_process, others_open, others_crashed, open_before}
use Rattle.lin_frontier.specs.declared.pending.Open.{Open}
use Rattle.lin_frontier.specs.Frontiers.{IsNextEvent, IsPending}
use Rattle.lin_lists.specs.lemmas.Lists.{get_left, get_cases, get_last}
use Rattle.lin_frontier.specs.lemmas.Lists.{get_remove_cases, get_removed, get_moved_cases, get_moved, get_moved_new, one_there, contains_from_get, get_from_contains, places_from_pairs, pairs_from_places}

-- exactly the open operations, told by their places in the list
record IsListed (h : List Event) (xs : List Open) : Type 0 where
  distinct : (j k : ℕ) (o p : Open) → slice_get xs j ≡ Some o → slice_get xs k ≡ Some p → o.at ≡ p.at → j ≡ k
  sound : (k : ℕ) (o : Open) → slice_get xs k ≡ Some o → (key : Item) × IsOpen h o.at o.process key o.call
  complete : (at process : ℕ) (key : Item) (call : Call) → IsOpen h at process key call → (k : ℕ) × (o : Open) × (slice_get xs k ≡ Some o) × (o.at ≡ at)
  crashed : (k : ℕ) (o : Open) → slice_get xs k ≡ Some o → IsTrue o.crashed ↔ IsCrashed h o.at

listed_from_pending : (h : List Event) (xs : List Open) → IsPending h xs → IsListed h xs
listed_from_pending h xs pending = record {
  distinct = places_from_pairs (λ o. o.at) xs pending.once;
  sound = λ k o there. pending.sound o (contains_from_get xs k o there);
  complete = λ at process key call is_open.
      let found = pending.complete at process key call is_open in
      let place = get_from_contains xs found.0 found.1 in
      (place.0, found.0, place.1, found.2);
  crashed = λ k o there. pending.crashed o (contains_from_get xs k o there);
}

pending_from_listed : (h : List Event) (xs : List Open) → IsListed h xs → IsPending h xs
pending_from_listed h xs listed = record {
  once = pairs_from_places (λ o. o.at) xs listed.distinct;
  sound = λ o there. let place = get_from_contains xs o there in listed.sound place.0 o place.1;
  complete = λ at process key call is_open.
      let found = listed.complete at process key call is_open in
      (found.1, contains_from_get xs found.0 found.1 found.2, found.3);
  crashed = λ o there. let place = get_from_contains xs o there in listed.crashed place.0 o place.1;
}

-- an invocation puts its operation last
pub pending_invoked : (h : List Event) (event : Event) (xs : List Open) (call : Call) (new : Open) → event.body ≡ Invoke call
    → new ≡ record { process = event.process; at = length h; call = call; crashed = false } → IsPending h xs → IsPending (with_event h event) (xs ++ new ∷ [])
pending_invoked h event xs call new is made pending = pending_from_listed (with_event h event) (xs ++ new ∷ []) (record {
  distinct = λ j k o p at_j at_k same. elim (get_cases xs new j o at_j) [
    | inl left ↦ elim (get_cases xs new k p at_k) [
      | inl right ↦ listed.distinct j k o p left right same
      | inr last ↦ absurd (apart j o left (same ∙ ap (λ (x : Open). x.at) (sym last.1)))
    ]
    | inr last ↦ elim (get_cases xs new k p at_k) [
      | inl right ↦ absurd (apart k p right (sym same ∙ ap (λ (x : Open). x.at) (sym last.1)))
      | inr other ↦ last.0 ∙ sym other.0
    ]
  ];
  sound = λ k o there. elim (get_cases xs new k o there) [
    | inl old ↦ (let was = listed.sound k o old in (was.0, open_beside h event call is o.at o.process was.0 o.call was.1))
    | inr last ↦ (event.key, subst (λ (x : Open). IsOpen (with_event h event) x.at x.process event.key x.call) (sym made ∙ last.1) (opens h event call is))
  ];
  complete = λ at process key other is_open. elim (open_back h event at process key other is_open) [
    | inl old ↦ (let found = listed.complete at process key other old in (found.0, found.1, get_left xs new found.0 found.1 found.2, found.3))
    | inr here ↦ (length xs, new, get_last xs new, ap (λ (x : Open). x.at) made ∙ sym here.0)
  ];
  crashed = λ k o there. elim (get_cases xs new k o there) [
    | inl old ↦ (
      λ yes'. crashed_kept h event o.at ((listed.crashed k o old).0 yes'),
      λ crashed. (listed.crashed k o old).1 (crashed_before h event call is o.at crashed),
    )
    | inr last ↦ (
      λ yes'. absurd (differ (sym (ap (λ (x : Open). x.crashed) (sym last.1 ∙ made)) ∙ yes')),
      λ crashed. absurd (no_end_of_last h event crashed.0 crashed.1 (subst (λ n. IsEnd (with_event h event) n crashed.0 crashed.1) (ap (λ (x : Open). x.at) (sym last.1 ∙ made)) crashed.2)),
    )
  ];
})
  where
    listed : IsListed h xs
    listed = listed_from_pending h xs pending

    apart : (j : ℕ) (o : Open) → slice_get xs j ≡ Some o → o.at ≡ new.at → ⊥
    apart j o there same =
        let inside = slice_get_within h o.at _ (listed.sound j o there).1.begins in
        let at_end = ap (λ (x : Open). x.at) made in
        omega (arith, same, at_end)

    differ : false ≡ true → ⊥
    differ e = cc

module _ (alternating : WellFormedIsAlternating) (unique : EndsAreUnique) (functions : Item → Name → Bool) (h : List Event) (event : Event) (xs : List Open) (at : ℕ) (next : IsNextEvent functions h xs at event)
    (name : Name) (completes : Completes event.body name) where
  alternates : IsAlternating functions (with_event h event)
  alternates = (alternating functions (with_event h event)).0 next.well_formed

  -- the operation that the event completes
  ended : (i : ℕ) × IsEnd (with_event h event) i (length h) event
  ended = let found = alternates.completed (length h) event name (get_last h event) completes in (found.0, found.4)

  listed : IsListed h xs
  listed = listed_from_pending h xs next.opened

  -- it is listed, behind those that had crashed
  pub completed_listed : (crashed : ℕ) → crashed ≤ length xs → All (λ o. IsTrue o.crashed) (take crashed xs) → (k : ℕ) × (o : Open) × (crashed ≤ k) × (slice_get xs k ≡ Some o) × (o.process ≡ event.process)
  completed_listed crashed fits front =
      let was = was_open h event unique functions alternates ended.0 ended.1 in
      let found = listed.complete ended.0 event.process ended.1.key ended.1.call was in
      (found.0, found.1, behind found.0 found.1 found.2 found.3, found.2, process_of found.0 found.1 found.2 found.3)
    where
      process_of : (k : ℕ) (o : Open) → slice_get xs k ≡ Some o → o.at ≡ ended.0 → o.process ≡ event.process
      process_of k o there same =
          let begins = (was_open h event unique functions alternates ended.0 ended.1).begins in
          let own = (listed.sound k o there).1.begins in
          ap (λ (e : Event). e.process) (one_there h ended.0 _ _ (subst (λ n. IsOperation h n o.process (listed.sound k o there).0 o.call) same own) begins)

      behind : (k : ℕ) (o : Open) → slice_get xs k ≡ Some o → o.at ≡ ended.0 → crashed ≤ k
      behind k o there same = elim (cases_lt k crashed) [
        | inr after ↦ after
        | inl before ↦
            let len = length-take-le crashed xs fits in
            let is : IsTrue o.crashed = subst (λ (x : Open). IsTrue x.crashed) (get_or-take crashed xs k o before ∙ get_or_from_slice_get xs k o o there) (front k o (omega arith)) in
            absurd (not_crashed h event unique functions alternates ended.0 ended.1 (subst (IsCrashed h) same ((listed.crashed k o there).0 is)))
      ]

  module _ (place : ℕ) (o : Open) (there : slice_get xs place ≡ Some o) (same : o.process ≡ event.process) where
    is_ended : o.at ≡ ended.0
    is_ended =
        let was = listed.sound place o there in
        one_of_process h event unique functions alternates ended.0 ended.1 o.at was.0 o.call (subst (λ p. IsOpen h o.at p was.0 o.call) same was.1)

    other : (k : ℕ) (x : Open) → slice_get xs k ≡ Some x → k ≢ place → x.at ≢ ended.0
    other k x there_x differ e = differ (listed.distinct k place x o there_x there (e ∙ sym is_ended))

    -- after an ok or a fail it is listed no longer
    pub pending_returned : (((n : Name) × (reply : Reply) × (event.body ≡ Ok n reply)) ⊎ ((n : Name) × (event.body ≡ Fail n))) → IsPending (with_event h event) (remove xs place)
    pending_returned returned = pending_from_listed (with_event h event) (remove xs place) (record {
      distinct = λ j k x y at_j at_k e.
          let a = source j x at_j in
          let b = source k y at_k in
          one j k a.0 b.0 (listed.distinct a.0 b.0 x y a.2 b.2 e) a.3 b.3;
      sound = λ k x at_k.
          let s = source k x at_k in
          let was = listed.sound s.0 x s.2 in
          (was.0, others_open h event unique functions alternates ended.0 ended.1 x.at x.process was.0 x.call (other s.0 x s.2 s.1) was.1);
      complete = λ n process key call is_open.
          let found = listed.complete n process key call (open_before h event unique functions alternates ended.0 ended.1 name completes n process key call is_open) in
          let left = get_removed xs place found.0 found.1 (λ e. gone n process key call is_open (sym found.3 ∙ ap (λ (x : Open). x.at) (one_there xs place found.1 o (subst (λ k. slice_get xs k ≡ Some found.1) e found.2) there) ∙ is_ended)) found.2 in
          (left.0, found.1, left.1, found.3);
      crashed = λ k x at_k.
          let s = source k x at_k in (
            λ yes'. crashed_kept h event x.at ((listed.crashed s.0 x s.2).0 yes'),
            λ crashed. (listed.crashed s.0 x s.2).1 (others_crashed h event unique functions alternates ended.0 ended.1 x.at (other s.0 x s.2 s.1) crashed),
          );
    })
      where
        IsSource : ℕ → ℕ → Type 0
        IsSource k s = ((k < place) × (s ≡ k)) ⊎ ((place ≤ k) × (s ≡ suc k))

        source : (k : ℕ) (x : Open) → slice_get (remove xs place) k ≡ Some x → (s : ℕ) × (s ≢ place) × (slice_get xs s ≡ Some x) × IsSource k s
        source k x at_k = elim (get_remove_cases xs place k x at_k) [
          | inl before ↦ (k, (λ e. omega (arith, e, before.0)), before.1, inl (before.0, refl))
          | inr after ↦ (suc k, (λ e. omega (arith, e, after.0)), after.1, inr (after.0, refl))
        ]

        one : (j k s t : ℕ) → s ≡ t → IsSource j s → IsSource k t → j ≡ k
        one j k s t e (inl a) (inl b) = omega (arith, a.1, b.1)
        one j k s t e (inl a) (inr b) = omega (arith, a.1, b.1)
        one j k s t e (inr a) (inl b) = omega (arith, a.1, b.1)
        one j k s t e (inr a) (inr b) = omega (arith, a.1, b.1)

        gone : (n process : ℕ) (key : Item) (call : Call) → IsOpen (with_event h event) n process key call → n ≡ ended.0 → ⊥
        gone n process key call is_open e = elim returned [
          | inl ok ↦ is_open.no_ok (length h) ok.1 (event, subst (λ m. IsEnd (with_event h event) m (length h) event) (sym e) ended.1, ok.0, ok.2)
          | inr fail ↦ is_open.no_fail (length h, event, subst (λ m. IsEnd (with_event h event) m (length h) event) (sym e) ended.1, fail.0, fail.1)
        ]

    -- after an info it has crashed, and has the place of the first that had not
    pub pending_crashed : (n : Name) → event.body ≡ Info n → (c : ℕ) → c ≤ place → (ys : List Open) → ys ≡ swap (set xs place (record o { crashed = true })) c place → IsPending (with_event h event) ys
    pending_crashed n is c before ys made = pending_from_listed (with_event h event) ys (record {
      distinct = λ j k x y at_j at_k e.
          let a = source j x at_j in
          let b = source k y at_k in
          one j k a.0 b.0 (listed.distinct a.0 b.0 a.1 b.1 a.2 b.2 (a.3 ∙ e ∙ sym b.3)) a.4 b.4;
      sound = λ k x at_k. elim (cases k x at_k) [
        | inl new ↦ (let was = listed.sound place o there in (was.0, subst (λ (y : Open). IsOpen (with_event h event) y.at y.process was.0 y.call) new.1 (stays o.at o.process was.0 o.call was.1)))
        | inr old ↦ (let was = listed.sound old.0 x old.2 in (was.0, stays x.at x.process was.0 x.call was.1))
      ];
      complete = λ at' process key call is_open.
          let found = listed.complete at' process key call (open_before h event unique functions alternates ended.0 ended.1 name completes at' process key call is_open) in
          elim (cases_order found.0 place) [
            | inl here ↦ (
              c,
              crashed_one,
              ap (λ l. slice_get l c) made ∙ get_moved_new xs c place crashed_one (omega (arith, inside)) inside,
              ap (λ (x : Open). x.at) (one_there xs place o found.1 there (subst (λ k. slice_get xs k ≡ Some found.1) here found.2)) ∙ found.3,
            )
            | inr differ ↦
                let left = get_moved xs c place crashed_one found.0 found.1 (omega (arith, inside)) inside (apart differ) found.2 in
                (left.0, found.1, ap (λ l. slice_get l left.0) made ∙ left.1, found.3)
          ];
      crashed = λ k x at_k. elim (cases k x at_k) [
        | inl new ↦ (
          λ yes'. subst (λ (y : Open). IsCrashed (with_event h event) y.at) new.1 (length h, event, subst (λ m. IsEnd (with_event h event) m (length h) event) (sym is_ended) ended.1, n, is),
          λ crashed. ap (λ (y : Open). y.crashed) (sym new.1),
        )
        | inr old ↦ (
          λ yes'. crashed_kept h event x.at ((listed.crashed old.0 x old.2).0 yes'),
          λ crashed. (listed.crashed old.0 x old.2).1 (others_crashed h event unique functions alternates ended.0 ended.1 x.at (other old.0 x old.2 old.1) crashed),
        )
      ];
    })
      where
        inside : place < length xs
        inside = slice_get_within xs place o there

        crashed_one : Open
        crashed_one = record o { crashed = true }

        apart : {j k : ℕ} → (j < k) ⊎ (k < j) → j ≢ k
        apart differ e = elim differ [ inl l ↦ omega (arith, e, l) | inr l ↦ omega (arith, e, l) ]

        stays : (m process : ℕ) (key : Item) (call : Call) → IsOpen h m process key call → IsOpen (with_event h event) m process key call
        stays m process key call was = open_kept h event m process key call (λ _ b reply ok. no_ok b reply (sym is ∙ ok)) (λ _ b fail. no_fail b (sym is ∙ fail)) was
          where
            no_ok : (b : Name) (reply : Reply) → Info n ≡ Ok b reply → ⊥
            no_ok b reply e = cc

            no_fail : (b : Name) → Info n ≡ Fail b → ⊥
            no_fail b e = cc

        cases : (k : ℕ) (x : Open) → slice_get ys k ≡ Some x → ((k ≡ c) × (crashed_one ≡ x)) ⊎ ((s : ℕ) × (s ≢ place) × (slice_get xs s ≡ Some x) × (k ≢ c) × (((k ≡ place) × (s ≡ c)) ⊎ ((k ≢ place) × (s ≡ k))))
        cases k x at_k = elim (get_moved_cases xs c place crashed_one k x (omega (arith, inside)) inside (ap (λ l. slice_get l k) (sym made) ∙ at_k)) [
          | inl new ↦ inl new
          | inr old ↦ elim old [
            | inl there_c ↦ inr (c, (λ e. there_c.1 (there_c.0 ∙ sym e)), there_c.2, there_c.1, inl (there_c.0, refl))
            | inr rest ↦ inr (k, rest.0, rest.2, rest.1, inr (rest.0, refl))
          ]
        ]

        IsSource : ℕ → ℕ → Type 0
        IsSource k s = ((k ≡ c) × (s ≡ place)) ⊎ ((k ≢ c) × (s ≢ place) × (((k ≡ place) × (s ≡ c)) ⊎ ((k ≢ place) × (s ≡ k))))

        source : (k : ℕ) (x : Open) → slice_get ys k ≡ Some x → (s : ℕ) × (y : Open) × (slice_get xs s ≡ Some y) × (y.at ≡ x.at) × IsSource k s
        source k x at_k = elim (cases k x at_k) [
          | inl new ↦ (place, o, there, ap (λ (y : Open). y.at) new.1, inl (new.0, refl))
          | inr old ↦ (old.0, x, old.2, refl, inr (old.3, old.1, old.4))
        ]

        one : (j k s t : ℕ) → s ≡ t → IsSource j s → IsSource k t → j ≡ k
        one j k s t e (inl a) (inl b) = a.0 ∙ sym b.0
        one j k s t e (inl a) (inr b) = absurd (b.1 (sym e ∙ a.1))
        one j k s t e (inr a) (inl b) = absurd (a.1 (e ∙ b.1))
        one j k s t e (inr a) (inr b) = elim a.2 [
          | inl moved ↦ elim b.2 [
            | inl again ↦ moved.0 ∙ sym again.0
            | inr again ↦ absurd (b.0 (sym again.1 ∙ sym e ∙ moved.1))
          ]
          | inr stayed ↦ elim b.2 [
            | inl again ↦ absurd (a.0 (sym stayed.1 ∙ e ∙ again.1))
            | inr again ↦ sym stayed.1 ∙ e ∙ again.1
          ]
        ]
