-- Queues, ordered or not, have no legal order of operations that a certificate holds of.
use Rattle.std.proofs.Common.{◌≡◌, ◌≢◌, ◌⊎◌, ◌<◌, ◌+◌, ℕ, List, [], ◌∷◌, ◌++◌, AllPairs, Contains, length, inl, inr, refl, sym, ap, subst, ◌∙◌, arith}
use Rattle.std.proofs.lemmas.List.Kept.{AllPairs-cons}
use Rattle.lin_events.specs.declared.items.Item.{Item}
use Rattle.lin_lists.specs.lemmas.Elements.{all_of, first_or_rest, nothing_in, pairs_left}
use Rattle.lin_events.specs.declared.calls.Call.{Call}
use Rattle.lin_events.specs.declared.calls.Call.TheVariants.{Enqueue, Dequeue}
use Rattle.lin_events.specs.declared.calls.Reply.{Reply}
use Rattle.lin_events.specs.declared.calls.Reply.TheVariants as Replied
use Rattle.lin_events.specs.declared.calls.Val.TheVariants.{Nil, Item as Held}
use Rattle.lin_events.specs.declared.events.Event.{Event}
use Rattle.lin_events.specs.Operations.{IsOk}
use Rattle.lin_objects.specs.declared.kinds.Kind.{Kind}
use Rattle.lin_objects.specs.declared.kinds.Kind.TheVariants.{Fifo, Bag}
use Rattle.lin_objects.specs.declared.states.State.{State}
use Rattle.lin_objects.specs.declared.states.State.TheVariants.{Queue}
use Rattle.lin_objects.specs.Steps.{Step, start}
use Rattle.lin_order.specs.declared.placed.Placed.{Placed}
use Rattle.lin_order.specs.Linearizable.{IsLegalOrderAs, Runs}
use Rattle.lin_order.specs.Orders.{IsBefore, IsCall}
use Rattle.lin_order.specs.lemmas.OneEnd.{one_call, one_ok}
use Rattle.lin_order.specs.lemmas.Running.{runs_split}
use Rattle.lin_certificates.specs.Adding.{Adds, IsAddedOnce}
use Rattle.lin_certificates.specs.Numbers.{AtLeast}
use Rattle.lin_certificates.specs.QueueConflicts.{IsNotTakenBy, IsPassing, PutAt, Takes}
use Rattle.lin_certificates.specs.lemmas.BagConflicting.{changes, empties, in_decides, inside, no_item, no_put, no_take, one, one_in, one_out, times}
use Rattle.lin_certificates.specs.lemmas.Conflicting.{parted}
use Rattle.lin_certificates.specs.lemmas.Counting.{Changes, Puts, TakesOut, chosen_least, chosen_most, counted}
use Rattle.lin_certificates.specs.lemmas.QueueConflicting.{one_alone, passed_later, passed_over, takes_call}
use Rattle.lin_certificates.specs.Words.{Exactly, Returned, StaysOpen}
use Rattle.lin_certificates.specs.Certificates.{CanAdd, IsInside, IsPassed, IsRemaining, IsSurplus, IsTaken, Stays, TookOut}
use Rattle.lin_certificates.proofs.CountLaws.{remaining_of, surplus_of}
use Rattle.lin_certificates.proofs.Numbers.{at_least, at_most, the_one}
use Rattle.lin_certificates.proofs.Outcomes.{not_added, outcome}
use Rattle.lin_certificates.specs.lemmas.Standing.{At, at_here, at_left, at_within, left_at, not_failed, ok_there, one_place, place_of, reply_there, stands_ahead, stands_in}

-- how many of the items wait in the queue
abbrev waiting : State → List Item → ℕ
waiting (Queue q) ns = times ns q
waiting _ ns = 0

pub times_behind : (ns q : List Item) (x : Item) → times ns (q ++ x ∷ []) ≡ one ns x + times ns q
times_behind ns [] x = refl
times_behind ns (y ∷ q) x = let rest = times_behind ns q x in omega (arith, rest)

-- how a step changes how many of the items wait
moves : (s next : State) (call : Call) (reply : Reply) (ns : List Item) → Step Fifo s call next reply → Changes (waiting s ns) (waiting next ns) call reply ns
moves (Queue q) next (Enqueue x) reply ns step =
    let many : waiting next ns ≡ one ns x + times ns q = ap (λ s. waiting s ns) step.0 ∙ times_behind ns q x in
    elim (in_decides ns x) [
      | inl there ↦ let one_more = one_in ns x there.0 in inl ((x, there.1, refl), no_take x ns reply, omega (arith, many, one_more))
      | inr none ↦ let no_more = one_out ns x none.0 in inr (inr ((λ adds. none.1 (subst (Contains ns) (sym adds.2) adds.1)), no_take x ns reply, omega (arith, many, no_more)))
    ]
moves (Queue (x ∷ q)) next Dequeue reply ns step =
    let many : waiting next ns ≡ times ns q = ap (λ s. waiting s ns) step.0 in
    elim (in_decides ns x) [
      | inl there ↦ let one_less = one_in ns x there.0 in inr (inl ((x, there.1, subst (λ r. Takes Dequeue r x) (sym step.1) refl), no_put ns, omega (arith, many, one_less)))
      | inr none ↦
          let no_less = one_out ns x none.0 in
          inr (inr (no_put ns, (λ takes. none.1 (subst (Contains ns) (sym (subst (λ r. Takes Dequeue r takes.0) step.1 takes.2)) takes.1)), omega (arith, many, no_less)))
    ]
moves (Queue []) next Dequeue reply ns step = inr (inr (no_put ns, no_item ns reply step.1, ap (λ s. waiting s ns) step.0))
moves (Queue q) next call reply ns step = absurd step
moves s next call reply ns step = absurd step

none_waits : (s next : State) (ns : List Item) → Step Fifo s Dequeue next (Replied.Value Nil) → waiting s ns ≡ 0
none_waits (Queue []) next ns step = refl
none_waits (Queue (x ∷ q)) next ns step = absurd (apart step.1)
  where
    apart : Replied.Value Nil ≡ Replied.Value (Held x) → ⊥
    apart e = cc
none_waits s next ns step = absurd step

-- what takes an item out is a dequeue that found it
pub took_it : (call : Call) (reply : Reply) (n : Item) → Takes call reply n → (call ≡ Dequeue) × (reply ≡ Replied.Value (Held n))
took_it Dequeue (Replied.Value (Held x)) n takes = (refl, ap (λ y. Replied.Value (Held y)) takes)
took_it Dequeue reply n takes = absurd takes
took_it call reply n takes = absurd takes

module _ (kind : Kind) (inside : State → List Item → ℕ) (each : (s next : State) (call : Call) (reply : Reply) (ns : List Item) → Step kind s call next reply → Changes (inside s ns) (inside next ns) call reply ns)
    (begins : (ns : List Item) → inside (start kind) ns ≡ 0) (empty : (s next : State) (ns : List Item) → Step kind s Dequeue next (Replied.Value Nil) → inside s ns ≡ 0)
    (h : List Event) (order : List Placed) (legal : IsLegalOrderAs kind h order) where
  taken_of : (n : Item) → IsTaken h n → ⊥
  taken_of n is =
      let ns = n ∷ [] in
      let all = counted kind inside each h (start kind) legal.legal.0 ns order legal.order_of.once legal.legal.1 in
      let none = begins ns in
      let sum = all.4 in
      let few = chosen_most (Puts h ns) order all.0 all.2 (CanAdd h n)
      (λ p there put. let place = place_of order p there in (put.0, put.1, not_failed kind h order legal place.0 p place.1, subst (Adds put.0) (sym (one_alone n put.2.0 put.2.1)) put.2.2))
      is.puts (at_most (CanAdd h n) is.puts is.all_puts) in
      let many = chosen_least (TakesOut h ns) order all.1 all.3 (TookOut h n)
      (λ at took. (record { at = at; reply = took.2 }, legal.order_of.each_ok at took.1 took.2 tt took.4, (took.0, took.3, (n, (0, omega arith, refl), took.5)), refl))
      is.takes (at_least (TookOut h n) is.takes is.all_takes) in
      let fewer = is.fewer in
      omega (arith, none, sum, few, many, fewer)

  -- it takes the item out
  abbrev TakesAt : Item → Placed → Type 0
  TakesAt n p = (call : Call) × IsCall h p.at call × Takes call p.reply n

  -- two don't take out what one puts in
  one_taker : (n : Item) → Exactly 1 (CanAdd h n) → (p q : Placed) → Contains order p → Contains order q → TakesAt n p → TakesAt n q → p.at ≢ q.at → ⊥
  one_taker n once p q in_p in_q takes again differ =
      let ns = n ∷ [] in
      let all = counted kind inside each h (start kind) legal.legal.0 ns order legal.order_of.once legal.legal.1 in
      let none = begins ns in
      let sum = all.4 in
      let few = chosen_most (Puts h ns) order all.0 all.2 (CanAdd h n)
      (λ r there is. let place = place_of order r there in (is.0, is.1, not_failed kind h order legal place.0 r place.1, subst (Adds is.0) (sym (one_alone n is.2.0 is.2.1)) is.2.2))
      1 (once.0, once.1, λ at it. (once.3 at).0 it) in
      let many = chosen_least (TakesOut h ns) order all.1 all.3 (λ at. (at ≡ p.at) ⊎ (at ≡ q.at))
      (λ at is. elim is [
        | inl same ↦ (p, in_p, (takes.0, takes.1, (n, (0, omega arith, refl), takes.2)), sym same)
        | inr same ↦ (q, in_q, (again.0, again.1, (n, (0, omega arith, refl), again.2)), sym same)
      ])
      2 (both differ) in
      omega (arith, none, sum, few, many)
    where
      both : p.at ≢ q.at → AtLeast 2 (λ at. (at ≡ p.at) ⊎ (at ≡ q.at))
      both differ = (
        p.at ∷ q.at ∷ [],
        refl,
        AllPairs-cons ◌≢◌ p.at (q.at ∷ []) (all_of (λ at. p.at ≢ at) (q.at ∷ []) (λ at there same. differ (same ∙ alone at there)))
            (AllPairs-cons ◌≢◌ q.at [] (all_of (λ at. q.at ≢ at) [] (λ at there. absurd (nothing_in at there))) (λ i j d before within. absurd (omega (arith, within)))),
        all_of (λ at. (at ≡ p.at) ⊎ (at ≡ q.at)) (p.at ∷ q.at ∷ []) (λ at there. elim (first_or_rest p.at (q.at ∷ []) at there) [
          | inl same ↦ inl (sym same)
          | inr rest ↦ inr (alone at rest)
        ]),
      )
        where
          alone : (at : ℕ) → Contains (q.at ∷ []) at → at ≡ q.at
          alone at there = elim (first_or_rest q.at [] at there) [
            | inl same ↦ sym same
            | inr none ↦ absurd (nothing_in at none)
          ]

  -- ahead of the dequeue until which the item stays nothing takes it out
  none_ahead : (n : Item) (d : Placed) (i : ℕ) → At order i d → Stays h n d.at → (k : ℕ) (p : Placed) → At order k p → k < i → TakesAt n p → ⊥
  none_ahead n d i at_d stays k p at_p less takes = elim (outcome h p.at takes.0 takes.1) [
    | inl ok ↦ ahead (stays.taken_later p.at (other, (takes.0, ok.0, ok.1, takes.1, ok.2, subst (λ r. Takes takes.0 r n) (reply_there kind h order legal k p at_p ok.0 ok.1 ok.2) takes.2)))
    | inr rest ↦ elim rest [
      | inl failed ↦ not_failed kind h order legal k p at_p failed
      | inr still ↦ elim stays.open_later [
        | inl once ↦
            let t = once.1.1 in
            let q : Placed = record { at = once.1.0; reply = t.2 } in
            let place = ok_there kind h order legal once.1.0 t.1 t.2 t.4 in
            one_taker n once.0 p q (stands_in order k p at_p) (stands_in order place.0 q place.1) takes (t.0, t.3, t.5)
            (λ same. still.0 t.1 t.2 (subst (λ x. IsOk h x t.1 t.2) (sym same) t.4))
        | inr later ↦ ahead (later p.at (other, (takes.0, takes.1, still.0, still.1, takes_call takes.0 p.reply n takes.2)))
      ]
    ]
  ]
    where
      other : p.at ≢ d.at
      other same = let equal = one_place kind h order legal k i p d at_p at_d same in omega (arith, equal, less)

      ahead : IsBefore h d.at p.at → ⊥
      ahead before = let more = stands_ahead kind h order legal i k d p at_d at_p before in omega (arith, more, less)

  inside_of : (enqueue dequeue : ℕ) (n : Item) → IsInside h enqueue dequeue n → ⊥
  inside_of enqueue dequeue n is =
      let ns = n ∷ [] in
      let f = is.found in
      let d : Placed = record { at = dequeue; reply = f.2 } in
      let parts = parted order d (legal.order_of.each_ok dequeue f.1 f.2 tt f.4) in
      let run = runs_split (Step kind) h (start kind) legal.legal.0 parts.0 (d ∷ parts.1) (subst (λ l. Runs (Step kind) h (start kind) l legal.legal.0) parts.2 legal.legal.1) in
      let call : run.2.0 ≡ Dequeue = one_call h dequeue run.2.0 f.0 run.2.2 f.3 ∙ f.5.0 in
      let step = subst (λ r. Step kind run.0 Dequeue run.2.1 r) f.5.1 (subst (λ c. Step kind run.0 c run.2.1 f.2) call run.2.3) in
      let none_in = empty run.0 run.2.1 ns step in
      let once = pairs_left (λ (x y : Placed). x.at ≢ y.at) parts.0 (d ∷ parts.1) (subst (AllPairs (λ x y. x.at ≢ y.at)) parts.2 legal.order_of.once) in
      let all = counted kind inside each h (start kind) run.0 ns parts.0 once run.1 in
      let none = begins ns in
      let sum = all.4 in
      let there : At order (length parts.0) d = subst (λ l. At l (length parts.0) d) (sym parts.2) (at_here parts.0 d parts.1) in
      let e : Placed = record { at = enqueue; reply = is.put.2 } in
      let place = ok_there kind h order legal enqueue is.put.1 is.put.2 is.put.4 in
      let less = stands_ahead kind h order legal place.0 (length parts.0) e d place.1 there is.in_time in
      let in_before = stands_in parts.0 place.0 e (left_at parts.0 (d ∷ parts.1) place.0 e (subst (λ l. At l place.0 e) parts.2 place.1) less) in
      let many = chosen_least (Puts h ns) parts.0 all.0 all.2 (λ at. at ≡ enqueue)
      (λ at same. (e, in_before, (is.put.0, is.put.3, (n, (0, omega arith, refl), is.put.5)), sym same)) 1 (alone enqueue) in
      let few = chosen_most (TakesOut h ns) parts.0 all.1 all.3 (λ at. ⊥)
      (λ p in_p takes.
      let at_p = place_of parts.0 p in_p in
      let left = at_left parts.0 (d ∷ parts.1) at_p.0 p at_p.1 in
      none_ahead n d (length parts.0) there is.stays at_p.0 p (subst (λ l. At l at_p.0 p) (sym parts.2) left) (at_within parts.0 at_p.0 p at_p.1)
      (takes.0, takes.1, subst (Takes takes.0 p.reply) (sym (one_alone n takes.2.0 takes.2.1)) takes.2.2)) 0 ([], refl, λ at none. absurd none) in
      omega (arith, none, none_in, sum, few, many)
    where
      alone : (x : ℕ) → AtLeast 1 (λ at. at ≡ x)
      alone x = (
        x ∷ [],
        refl,
        AllPairs-cons ◌≢◌ x [] (all_of (λ at. x ≢ at) [] (λ at there. absurd (nothing_in at there))) (λ i j d before within. absurd (omega (arith, within))),
        all_of (λ at. at ≡ x) (x ∷ []) (λ at there. elim (first_or_rest x [] at there) [
          | inl same ↦ sym same
          | inr none ↦ absurd (nothing_in at none)
        ]),
      )

module _ (h : List Event) (order : List Placed) (legal : IsLegalOrderAs Bag h order) where
  pub bag_taken : (n : Item) → IsTaken h n → ⊥
  bag_taken = taken_of Bag inside changes (λ ns. refl) empties h order legal

  pub bag_inside : (enqueue dequeue : ℕ) (n : Item) → IsInside h enqueue dequeue n → ⊥
  bag_inside = inside_of Bag inside changes (λ ns. refl) empties h order legal

  pub bag_remaining : (dequeue : ℕ) → IsRemaining h dequeue → ⊥
  bag_remaining = remaining_of Bag inside changes (λ ns. refl) empties h order legal

  pub bag_surplus : (dequeue : ℕ) (ns : List Item) → IsSurplus h dequeue ns → ⊥
  bag_surplus = surplus_of Bag inside changes (λ ns. refl) empties h order legal

module _ (h : List Event) (order : List Placed) (legal : IsLegalOrderAs Fifo h order) where
  pub fifo_taken : (n : Item) → IsTaken h n → ⊥
  fifo_taken = taken_of Fifo waiting moves (λ ns. refl) none_waits h order legal

  pub fifo_inside : (enqueue dequeue : ℕ) (n : Item) → IsInside h enqueue dequeue n → ⊥
  fifo_inside = inside_of Fifo waiting moves (λ ns. refl) none_waits h order legal

  pub fifo_remaining : (dequeue : ℕ) → IsRemaining h dequeue → ⊥
  fifo_remaining = remaining_of Fifo waiting moves (λ ns. refl) none_waits h order legal

  pub fifo_surplus : (dequeue : ℕ) (ns : List Item) → IsSurplus h dequeue ns → ⊥
  fifo_surplus = surplus_of Fifo waiting moves (λ ns. refl) none_waits h order legal

  pub fifo_passed : (enqueue later dequeue : ℕ) (n other : Item) → IsPassed h enqueue later dequeue n other → ⊥
  fifo_passed enqueue later dequeue n other is = elim is.stays.open_later [
    | inl once ↦
        let t = once.1.1 in
        passed_later h order legal n enqueue put.1 dequeue took.1 once.1.0 t.1 (only once.0) put_at passing (t.0, t.2, t.3, t.4, t.5)
        (past once.1.0 (is.stays.taken_later once.1.0 (taker once.1.0 t, t)))
    | inr still ↦ passed_over h order legal n enqueue put.1 dequeue took.1 put_at passing (untaken still)
  ]
    where
      put : Returned h (λ call reply. Adds call n) enqueue
      put = is.put

      took : TookOut h other dequeue
      took = is.took

      put_at : PutAt h enqueue n put.1
      put_at = (put.0, put.2, put.3, put.4, put.5)

      found : (took.0 ≡ Dequeue) × (took.2 ≡ Replied.Value (Held other))
      found = took_it took.0 took.2 other took.5

      passing : IsPassing h dequeue n put.1 took.1
      passing = (
        Replied.Value (Held other),
        subst (IsCall h dequeue) found.0 took.3,
        subst (IsOk h dequeue took.1) found.1 took.4,
        (
          (λ same. is.differ (sym same)),
          not_added h other put.1 (λ at can.
              let before = is.all_later at can in
              subst (λ (end : ℕ). end < at) (one_ok h enqueue before.0 put.1 before.1 put.2 before.2 put.4).0 before.3),
        ),
      )

      -- whatever the dequeue is before was invoked past its end
      past : (at : ℕ) → IsBefore h dequeue at → took.1 < at
      past at before = subst (λ (end : ℕ). end < at) (one_ok h dequeue before.0 took.1 before.1 took.2 before.2 took.4).0 before.3

      -- what took the item is another one
      taker : (at : ℕ) → TookOut h n at → at ≢ dequeue
      taker at t same =
          let reply : t.2 ≡ took.2 = (one_ok h dequeue t.1 took.1 t.2 took.2 (subst (λ x. IsOk h x t.1 t.2) same t.4) took.4).1 in
          apart (sym (took_it t.0 t.2 n t.5).1 ∙ reply ∙ found.1)
        where
          apart : Replied.Value (Held n) ≡ Replied.Value (Held other) → ⊥
          apart e = let same_item : n ≡ other = cc in is.differ same_item

      only : Exactly 1 (CanAdd h n) → IsAddedOnce h enqueue n
      only once at call it adds = elim (outcome h at call it) [
        | inl ok ↦
            let place = ok_there Fifo h order legal at ok.0 ok.1 ok.2 in
            inl (the_one (CanAdd h n) once at enqueue (call, it, not_failed Fifo h order legal place.0 (record { at = at; reply = ok.1 }) place.1, adds) itself)
        | inr rest ↦ elim rest [
          | inl failed ↦ inr failed
          | inr still ↦ inl (the_one (CanAdd h n) once at enqueue (call, it, still.1, adds) itself)
        ]
      ]
        where
          itself : CanAdd h n enqueue
          itself = let place = ok_there Fifo h order legal enqueue put.1 put.2 put.4 in (put.0, put.3, not_failed Fifo h order legal place.0 (record { at = enqueue; reply = put.2 }) place.1, put.5)

      untaken : ((at : ℕ) → (at ≢ dequeue) × StaysOpen h (λ call. call ≡ Dequeue) at → IsBefore h dequeue at) → IsNotTakenBy h n took.1
      untaken opened at upto it = elim (outcome h at Dequeue it) [
        | inl ok ↦ inr (
          ok.0,
          ok.1,
          ok.2,
          λ takes.
              let t : TookOut h n at = (Dequeue, ok.0, ok.1, it, ok.2, takes) in
              let after = past at (is.stays.taken_later at (taker at t, t)) in
              omega (arith, after, upto),
        )
        | inr rest ↦ elim rest [
          | inl failed ↦ inl failed
          | inr still ↦
              let after = past at (opened at ((λ same. still.0 took.1 took.2 (subst (λ x. IsOk h x took.1 took.2) (sym same) took.4)), (Dequeue, it, still.0, still.1, refl))) in
              absurd (omega (arith, after, upto))
        ]
      ]
