use Rattle.std.proofs.Common.{◌≡◌, ◌<◌, ◌+◌, ◌++◌, ◌∷◌, [], ℕ, List, Some, slice_get, get_or, refl, ap, sym, subst, inl, inr, arith, length, ◌∙◌}
use Rattle.std.proofs.lemmas.Bool.{cases_lt, false≢true}
use Rattle.std.proofs.lemmas.Option.{slice_get_within, slice_get-get_or}
use Rattle.lin_events.specs.declared.calls.Call.TheVariants.{Read, Dequeue}
use Rattle.lin_events.specs.lemmas.OneMore.{one_call}
use Rattle.lin_events.specs.Operations.{IsOpen, IsOperation}
use Rattle.lin_lists.specs.lemmas.Lists.{get_left, get_cases, get_last}
use Rattle.lin_queues.specs.declared.opens.OpenCall.{OpenCall}
use Rattle.lin_queues.proofs.Lists.{one_there}
use Rattle.lin_queues.proofs.opens.dequeues_of.Goals as goal
use Rattle.lin_queues.proofs.opens.dequeues_of.Goals.{then-is_dequeue+in_ok-push, else-is_dequeue}

-- the dequeues of the first so many open operations
record AreFirst (open' : List OpenCall) (n : ℕ) (dequeues : List ℕ) : Type 0 where
  from : (j x : ℕ) → slice_get dequeues j ≡ Some x → (k : ℕ) × (o : OpenCall) × (k < n) × (slice_get open' k ≡ Some o) × (o.place ≡ x) × (o.call ≡ Dequeue)
  rising : ((j k : ℕ) (o p : OpenCall) → j < k → slice_get open' j ≡ Some o → slice_get open' k ≡ Some p → o.place < p.place)
      → (j k x y : ℕ) → j < k → slice_get dequeues j ≡ Some x → slice_get dequeues k ≡ Some y → x < y
  complete : (k : ℕ) (o : OpenCall) → k < n → slice_get open' k ≡ Some o → o.call ≡ Dequeue → (j : ℕ) × (slice_get dequeues j ≡ Some o.place)

with_one : (open' : List OpenCall) (n : ℕ) (dequeues : List ℕ) (here : OpenCall) → slice_get open' n ≡ Some here → here.call ≡ Dequeue → AreFirst open' n dequeues → AreFirst open' (n + 1) (dequeues ++ here.place ∷ [])
with_one open' n dequeues here at dequeue first = record {
  from = λ j x at_j. elim (get_cases dequeues here.place j x at_j) [
    | inl old ↦ (let was = first.from j x old in (was.0, was.1, (let l = was.2 in omega arith), was.3, was.4, was.5))
    | inr last ↦ (n, here, omega arith, at, last.1, dequeue)
  ];
  rising = λ places j k x y before at_j at_k. elim (get_cases dequeues here.place k y at_k) [
    | inl old_k ↦ elim (get_cases dequeues here.place j x at_j) [
      | inl old_j ↦ first.rising places j k x y before old_j old_k
      | inr last_j ↦ (let l = slice_get_within dequeues k y old_k in let e = last_j.0 in absurd (omega arith))
    ]
    | inr last ↦ elim (get_cases dequeues here.place j x at_j) [
      | inl old_j ↦ (let was = first.from j x old_j in subst (λ m. x < m) last.1 (subst (λ m. m < here.place) was.4 (places was.0 n was.1 here was.2 was.3 at)))
      | inr last_j ↦ (let e = last.0 in let f = last_j.0 in absurd (omega arith))
    ]
  ];
  complete = λ k o before at_k is. elim (cases_lt k n) [
    | inl earlier ↦ (let was = first.complete k o earlier at_k is in (was.0, get_left dequeues here.place was.0 o.place was.1))
    | inr later ↦ (
        let same : k ≡ n = omega arith in
        (length dequeues, get_last dequeues here.place ∙ ap (λ (p : OpenCall). Some p.place) (one_there open' n here o at (subst (λ i. slice_get open' i ≡ Some o) same at_k))))
  ];
}

without_one : (open' : List OpenCall) (n : ℕ) (dequeues : List ℕ) (here : OpenCall) → slice_get open' n ≡ Some here → (here.call ≡ Dequeue → ⊥) → AreFirst open' n dequeues → AreFirst open' (n + 1) dequeues
without_one open' n dequeues here at other first = record {
  from = λ j x at_j. (let was = first.from j x at_j in (was.0, was.1, (let l = was.2 in omega arith), was.3, was.4, was.5));
  rising = first.rising;
  complete = λ k o before at_k is. elim (cases_lt k n) [
    | inl earlier ↦ first.complete k o earlier at_k is
    | inr later ↦ (
        let same : k ≡ n = omega arith in
        absurd (other (ap (λ (p : OpenCall). p.call) (one_there open' n here o at (subst (λ i. slice_get open' i ≡ Some o) same at_k)) ∙ is)))
  ];
}

pub loop-operation-preserved : goal.loop-operation-preserved
loop-operation-preserved c =
    let open' = c.args.open.now in
    let n = c.loop-operation.operation-index in
    let inv = c.loop-operation.invariant in
    let none : OpenCall = record { process = 0; place = 0; call = Read } in
    let here = get_or open' n (record { process = 0; place = 0; call = Read }) in
    let at = slice_get-get_or open' n (record { process = 0; place = 0; call = Read }) c.loop-operation-test.true in
    let first : AreFirst open' n c.loop-operation.dequeues.items = record { from = inv.from; rising = inv.rising; complete = inv.complete } in
    elim c.if-is_dequeue.branch [
      | then-is_dequeue+in_ok-push w ↦ (
          let next = subst (AreFirst open' (n + 1)) (sym w.in_ok-push.ensures.items ∙ ap (λ v. v.items) (sym w.dequeues-is)) (with_one open' n c.loop-operation.dequeues.items here at (w.if-is_dequeue.ensures.0 refl) first) in
          record { from = next.from; rising = next.rising; complete = next.complete })
      | else-is_dequeue w ↦ (
          let next = subst (AreFirst open' (n + 1)) (ap (λ v. v.items) (sym w.dequeues-is)) (without_one open' n c.loop-operation.dequeues.items here at (λ is. false≢true (w.if-is_dequeue.ensures.1 is)) first) in
          record { from = next.from; rising = next.rising; complete = next.complete })
    ]

pub returns : goal.returns
returns c = λ h open'. record {
  rising = c.loop-operation.invariant.rising open'.rising;
  sound = λ k place at.
      let from = c.loop-operation.invariant.from k place at in
      let own = open'.sound from.0 from.1 from.3 in
      (from.1.process, own.0, subst (λ call. IsOpen h place from.1.process own.0 call) from.5 (subst (λ n. IsOpen h n from.1.process own.0 from.1.call) from.4 own.1));
  complete = λ place is_open.
      let found = open'.complete place is_open.0 is_open.1 Dequeue is_open.2 in
      let own = open'.sound found.0 found.1 found.2 in
      let same = one_call h place found.1.process is_open.0 own.0 is_open.1 found.1.call Dequeue (subst (λ n. IsOperation h n found.1.process own.0 found.1.call) found.3 own.1.begins) is_open.2.begins in
      let l = slice_get_within c.args.open.now found.0 found.1 found.2 in
      let all = c.loop-operation-test.false in
      let at = c.loop-operation.invariant.complete found.0 found.1 (omega arith) found.2 same in
      (at.0, at.1 ∙ ap Some found.3);
}
