-- A queue, first in, first out, has no legal order where more items were put in ahead of one that was taken out than can have been taken out before it.
use Rattle.std.proofs.Common.{◌≡◌, ◌≢◌, ◌⊎◌, ◌<◌, ◌≤◌, ◌+◌, ℕ, List, [], ◌∷◌, ◌++◌, AllPairs, Contains, length, inl, inr, refl, sym, ap, subst, ◌∙◌, arith, append_assoc}
use Rattle.std.proofs.lemmas.Bool.{cases_lt}
use Rattle.std.proofs.lemmas.List.Kept.{AllPairs-cons}
use Rattle.lin_events.specs.declared.items.Item.{Item}
use Rattle.lin_lists.specs.lemmas.Elements.{all_of, first_or_rest, pairs_left}
use Rattle.lin_events.specs.declared.calls.Call.{Call}
use Rattle.lin_events.specs.declared.calls.Call.TheVariants.{Enqueue, Dequeue}
use Rattle.lin_events.specs.declared.calls.Reply.{Reply}
use Rattle.lin_events.specs.declared.calls.Reply.TheVariants as Replied
use Rattle.lin_events.specs.declared.calls.Val.TheVariants.{Nil, Item as Held}
use Rattle.lin_events.specs.declared.events.Event.{Event}
use Rattle.lin_objects.specs.declared.kinds.Kind.TheVariants.{Fifo}
use Rattle.lin_objects.specs.declared.states.State.{State}
use Rattle.lin_objects.specs.declared.states.State.TheVariants.{Queue}
use Rattle.lin_objects.specs.Steps.{Step, start}
use Rattle.lin_order.specs.declared.placed.Placed.{Placed}
use Rattle.lin_order.specs.Linearizable.{IsLegalOrderAs, Runs}
use Rattle.lin_order.specs.Orders.{IsBefore, IsCall}
use Rattle.lin_order.specs.lemmas.OneEnd.{one_call}
use Rattle.lin_order.specs.lemmas.Running.{runs_split}
use Rattle.lin_certificates.specs.Adding.{Adds}
use Rattle.lin_certificates.specs.QueueConflicts.{Takes}
use Rattle.lin_certificates.specs.lemmas.BagConflicting.{in_decides, one, one_in, one_out, times}
use Rattle.lin_certificates.specs.lemmas.Conflicting.{parted}
use Rattle.lin_certificates.specs.lemmas.Counting.{Chosen, Puts, TakesOut, chosen_empty, chosen_least, chosen_most, chosen_one, chosen_other, no_more, pairs_rest}
use Rattle.lin_certificates.specs.lemmas.QueueConflicting.{one_alone}
use Rattle.lin_certificates.specs.lemmas.Standing.{At, at_here, at_left, at_within, left_at, not_failed, ok_there, one_place, place_of, stands_ahead, stands_in}
use Rattle.lin_certificates.specs.Words.{MayTakeAhead}
use Rattle.lin_certificates.specs.Certificates.{CanAddBelow, IsPreceded, PutsBefore, TookBefore}
use Rattle.lin_certificates.proofs.CountLaws.{all_added, is_added, takes_ahead}
use Rattle.lin_certificates.proofs.Numbers.{at_least, at_most}
use Rattle.lin_certificates.proofs.QueueLaws.{times_behind, took_it}

-- a step puts an item in at the end, takes the first one out, or finds nothing
abbrev IsFifoStep : List Item → Call → State → Reply → Type 0
IsFifoStep q call next reply = ((a : Item) × (call ≡ Enqueue a) × (next ≡ Queue (q ++ a ∷ [])))
    ⊎ (((a : Item) × (rest : List Item) × (q ≡ a ∷ rest) × (call ≡ Dequeue) × (next ≡ Queue rest) × (reply ≡ Replied.Value (Held a))) ⊎ ((call ≡ Dequeue) × (next ≡ Queue q) × (reply ≡ Replied.Value Nil)))

fifo_step : (q : List Item) (next : State) (call : Call) (reply : Reply) → Step Fifo (Queue q) call next reply → IsFifoStep q call next reply
fifo_step q next (Enqueue a) reply step = inl (a, refl, step.0)
fifo_step (a ∷ rest) next Dequeue reply step = inr (inl (a, rest, refl, refl, step.0, step.1))
fifo_step [] next Dequeue reply step = inr (inr (refl, step.0, step.1))
fifo_step q next call reply step = absurd step

-- what takes an item out finds it in front
front_taken : (s next : State) (call : Call) (reply : Reply) (n : Item) → Step Fifo s call next reply → call ≡ Dequeue → reply ≡ Replied.Value (Held n) → (rest : List Item) × (s ≡ Queue (n ∷ rest))
front_taken (Queue q) next call reply n step is found = elim (fifo_step q next call reply step) [
  | inl put ↦ absurd (let e = sym put.1 ∙ is in no_enqueue e)
  | inr other ↦ elim other [
    | inl took ↦
        let same : took.0 ≡ n = let e = sym took.5 ∙ found in one_item e in
        (took.1, ap Queue (took.2 ∙ ap (λ x. x ∷ took.1) same))
    | inr none ↦ absurd (let e = sym none.2 ∙ found in no_item e)
  ]
]
  where
    no_enqueue : {a : Item} → Enqueue a ≡ Dequeue → ⊥
    no_enqueue e = cc

    one_item : {a b : Item} → Replied.Value (Held a) ≡ Replied.Value (Held b) → a ≡ b
    one_item e = cc

    no_item : {a : Item} → Replied.Value Nil ≡ Replied.Value (Held a) → ⊥
    no_item e = cc
front_taken s next call reply n step is found = absurd step

one_queue : (q r : List Item) → Queue q ≡ Queue r → q ≡ r
one_queue q r e = cc

-- an item of a queue with one more at its end is that one, or was there before
behind_or_there : (q front back : List Item) (a x : Item) → q ++ a ∷ [] ≡ front ++ x ∷ back → ((q ≡ front) × (a ≡ x)) ⊎ ((less : List Item) × (q ≡ front ++ x ∷ less))
behind_or_there [] [] back a x e = inl (refl, first e)
  where
    first : {back : List Item} → a ∷ [] ≡ x ∷ back → a ≡ x
    first e = cc
behind_or_there [] (y ∷ front) back a x e = absurd (too_long front (rest e))
  where
    rest : a ∷ [] ≡ y ∷ (front ++ x ∷ back) → [] ≡ front ++ x ∷ back
    rest e = cc

    too_long : (front : List Item) → [] ≡ front ++ x ∷ back → ⊥
    too_long [] e = cc
    too_long (z ∷ front) e = cc
behind_or_there (p ∷ q) [] back a x e = inr (q, ap (λ y. y ∷ q) (first e))
  where
    first : p ∷ (q ++ a ∷ []) ≡ x ∷ back → p ≡ x
    first e = cc
behind_or_there (p ∷ q) (y ∷ front) back a x e = elim (behind_or_there q front back a x (rest e)) [
  | inl new ↦ inl (ap (λ l. p ∷ l) new.0 ∙ ap (λ z. z ∷ front) (first e), new.1)
  | inr old ↦ inr (old.0, ap (λ l. p ∷ l) old.1 ∙ ap (λ z. z ∷ (front ++ x ∷ old.0)) (first e))
]
  where
    first : p ∷ (q ++ a ∷ []) ≡ y ∷ (front ++ x ∷ back) → p ≡ y
    first e = cc

    rest : p ∷ (q ++ a ∷ []) ≡ y ∷ (front ++ x ∷ back) → q ++ a ∷ [] ≡ front ++ x ∷ back
    rest e = cc

module _ (h : List Event) where
  -- the item was in the queue ahead of the order, and those ahead of it were taken out
  abbrev WasIn : List Item → List Placed → Item → Type 0
  WasIn q order x = (front : List Item) × (back : List Item) × (q ≡ front ++ x ∷ back)
      × ((ns : List Item) → (takes : List ℕ) × Chosen (TakesOut h ns) order takes × (length takes ≡ times ns front))

  -- an enqueue of the order put it in, and of any items as many were taken out as were in the queue, or put in ahead of it
  abbrev CameIn : List Item → List Placed → Item → Type 0
  CameIn q order x = (before : List Placed) × (put : Placed) × (after : List Placed) × (order ≡ before ++ put ∷ after) × IsCall h put.at (Enqueue x)
      × ((ns : List Item) → (takes : List ℕ) × (puts : List ℕ) × Chosen (TakesOut h ns) order takes × Chosen (Puts h ns) before puts × (length takes ≡ times ns q + length puts))

  abbrev Once : List Placed → Type 0
  Once order = AllPairs (λ (x y : Placed). x.at ≢ y.at) order

  -- an enqueue takes nothing out, and a dequeue puts nothing in
  no_taker : (ns : List Item) (z : Placed) (a : Item) → IsCall h z.at (Enqueue a) → TakesOut h ns z → ⊥
  no_taker ns z a is takes = subst (λ c. Takes c z.reply takes.2.0) (one_call h z.at takes.0 (Enqueue a) takes.1 is) takes.2.2

  no_putter : (ns : List Item) (z : Placed) → IsCall h z.at Dequeue → Puts h ns z → ⊥
  no_putter ns z is puts = subst (λ c. Adds c puts.2.0) (one_call h z.at puts.0 Dequeue puts.1 is) puts.2.2

  begin_once : (z : Placed) (order before after : List Placed) (put : Placed) → Once (z ∷ order) → order ≡ before ++ put ∷ after → Once (z ∷ before)
  begin_once z order before after put once split = pairs_left (λ (x y : Placed). x.at ≢ y.at) (z ∷ before) (put ∷ after) (subst (λ l. Once (z ∷ l)) split once)

  put_first : (q : List Item) (x : Item) (z : Placed) (order : List Placed) → Once (z ∷ order) → (a : Item) → IsCall h z.at (Enqueue a)
      → WasIn (q ++ a ∷ []) order x ⊎ CameIn (q ++ a ∷ []) order x → WasIn q (z ∷ order) x ⊎ CameIn q (z ∷ order) x
  put_first q x z order once a is (inl was) = elim (behind_or_there q was.0 was.1 a x was.2) [
    | inl new ↦ inr (
      [],
      z,
      order,
      refl,
      subst (λ n. IsCall h z.at (Enqueue n)) new.1 is,
      λ ns.
          let t = was.3 ns in
          let many = t.2 in
          let same : times ns q ≡ times ns was.0 = ap (times ns) new.0 in
          (t.0, [], chosen_other (TakesOut h ns) z order t.0 t.1 (no_taker ns z a is), chosen_empty (Puts h ns), omega (arith, many, same)),
    )
    | inr old ↦ inl (was.0, old.0, old.1, λ ns. let t = was.3 ns in (t.0, chosen_other (TakesOut h ns) z order t.0 t.1 (no_taker ns z a is), t.2))
  ]
  put_first q x z order once a is (inr came) = inr (
    z ∷ came.0,
    came.1,
    came.2,
    ap (λ l. z ∷ l) came.3,
    came.4,
    λ ns.
        let c = came.5 ns in
        let sum = c.4 in
        let more = times_behind ns q a in
        let others = chosen_other (TakesOut h ns) z order c.0 c.2 (no_taker ns z a is) in
        elim (in_decides ns a) [
          | inl there ↦
              let one_more = one_in ns a there.0 in
              let begins = begin_once z order came.0 came.2 came.1 once came.3 in
              (c.0, z.at ∷ c.1, others, chosen_one (Puts h ns) z came.0 c.1 c.3 begins (Enqueue a, is, (a, there.1, refl)), omega (arith, sum, more, one_more))
          | inr none ↦
              let no_more = one_out ns a none.0 in
              let not_put = λ (puts : Puts h ns z). let same : a ≡ puts.2.0 = subst (λ c. Adds c puts.2.0) (one_call h z.at puts.0 (Enqueue a) puts.1 is) puts.2.2 in none.1 (subst (Contains ns) (sym same) puts.2.1) in
              (c.0, c.1, others, chosen_other (Puts h ns) z came.0 c.1 c.3 not_put, omega (arith, sum, more, no_more))
        ],
  )

  -- a dequeue that found an item takes one out
  one_taken : (ns : List Item) (z : Placed) (order : List Placed) → Once (z ∷ order) → (a : Item) → IsCall h z.at Dequeue → z.reply ≡ Replied.Value (Held a) → (takes : List ℕ) → Chosen (TakesOut h ns) order takes
      → (more : List ℕ) × Chosen (TakesOut h ns) (z ∷ order) more × (length more ≡ one ns a + length takes)
  one_taken ns z order once a is found takes chosen = elim (in_decides ns a) [
    | inl there ↦
        let one_more = one_in ns a there.0 in
        let takes_it : Takes Dequeue z.reply a = subst (λ r. Takes Dequeue r a) (sym found) refl in
        (z.at ∷ takes, chosen_one (TakesOut h ns) z order takes chosen once (Dequeue, is, (a, there.1, takes_it)), omega (arith, one_more))
    | inr none ↦
        let no_more = one_out ns a none.0 in
        let not_taken = λ (t : TakesOut h ns z).
        let same : a ≡ t.2.0 = subst (λ r. Takes Dequeue r t.2.0) found (subst (λ c. Takes c z.reply t.2.0) (one_call h z.at t.0 Dequeue t.1 is) t.2.2) in
        none.1 (subst (Contains ns) (sym same) t.2.1) in
        (takes, chosen_other (TakesOut h ns) z order takes chosen not_taken, omega (arith, no_more))
  ]

  take_first : (a : Item) (q : List Item) (x : Item) (z : Placed) (order : List Placed) → Once (z ∷ order) → IsCall h z.at Dequeue → z.reply ≡ Replied.Value (Held a)
      → WasIn q order x ⊎ CameIn q order x → WasIn (a ∷ q) (z ∷ order) x ⊎ CameIn (a ∷ q) (z ∷ order) x
  take_first a q x z order once is found (inl was) = inl (
    a ∷ was.0,
    was.1,
    ap (λ l. a ∷ l) was.2,
    λ ns. let t = was.3 ns in let m = one_taken ns z order once a is found t.0 t.1 in let many = m.2 in let rest = t.2 in (m.0, m.1, omega (arith, many, rest)),
  )
  take_first a q x z order once is found (inr came) = inr (
    z ∷ came.0,
    came.1,
    came.2,
    ap (λ l. z ∷ l) came.3,
    came.4,
    λ ns.
        let c = came.5 ns in
        let m = one_taken ns z order once a is found c.0 c.2 in
        let many = m.2 in
        let sum = c.4 in
        (m.0, c.1, m.1, chosen_other (Puts h ns) z came.0 c.1 c.3 (no_putter ns z is), omega (arith, many, sum)),
  )

  -- one that found nothing takes none out
  none_taken : (ns : List Item) (z : Placed) → IsCall h z.at Dequeue → z.reply ≡ Replied.Value Nil → TakesOut h ns z → ⊥
  none_taken ns z is found t = subst (λ r. Takes Dequeue r t.2.0) found (subst (λ c. Takes c z.reply t.2.0) (one_call h z.at t.0 Dequeue t.1 is) t.2.2)

  none_first : (q : List Item) (x : Item) (z : Placed) (order : List Placed) → IsCall h z.at Dequeue → z.reply ≡ Replied.Value Nil → WasIn q order x ⊎ CameIn q order x → WasIn q (z ∷ order) x ⊎ CameIn q (z ∷ order) x
  none_first q x z order is found (inl was) = inl (was.0, was.1, was.2, λ ns. let t = was.3 ns in (t.0, chosen_other (TakesOut h ns) z order t.0 t.1 (none_taken ns z is found), t.2))
  none_first q x z order is found (inr came) = inr (
    z ∷ came.0,
    came.1,
    came.2,
    ap (λ l. z ∷ l) came.3,
    came.4,
    λ ns. let c = came.5 ns in (c.0, c.1, chosen_other (TakesOut h ns) z order c.0 c.2 (none_taken ns z is found), chosen_other (Puts h ns) z came.0 c.1 c.3 (no_putter ns z is), c.4),
  )

  -- where the item stands in front behind the order, all that was ahead of it was taken out
  in_front : (q rest : List Item) (x : Item) (order : List Placed) → Once order → Runs (Step Fifo) h (Queue q) order (Queue (x ∷ rest)) → WasIn q order x ⊎ CameIn q order x
  in_front q rest x [] once run = inl ([], rest, one_queue q (x ∷ rest) run, λ ns. ([], chosen_empty (TakesOut h ns), refl))
  in_front q rest x (z ∷ order) once run =
      let later = pairs_rest (λ (x y : Placed). x.at ≢ y.at) z order once in
      let goes_on = λ (r : List Item) (is : run.1 ≡ Queue r). subst (λ s. Runs (Step Fifo) h s order (Queue (x ∷ rest))) is run.4 in
      elim (fifo_step q run.1 run.0 z.reply run.3) [
        | inl put ↦ put_first q x z order once put.0 (subst (IsCall h z.at) put.1 run.2) (in_front (q ++ put.0 ∷ []) rest x order later (goes_on (q ++ put.0 ∷ []) put.2))
        | inr other ↦ elim other [
          | inl took ↦ subst (λ l. WasIn l (z ∷ order) x ⊎ CameIn l (z ∷ order) x) (sym took.2)
              (take_first took.0 took.1 x z order once (subst (IsCall h z.at) took.3 run.2) took.5 (in_front took.1 rest x order later (goes_on took.1 took.4)))
          | inr none ↦ none_first q x z order (subst (IsCall h z.at) none.0 run.2) none.2 (in_front q rest x order later (goes_on q none.1))
        ]
      ]

  module _ (order : List Placed) (legal : IsLegalOrderAs Fifo h order) where
    -- the enqueues of the item up to the one that the dequeue takes the item of
    module _ (later : ℕ) (n : Item) (before after : List Placed) (put : Placed) (split : order ≡ before ++ put ∷ after) (is : IsCall h put.at (Enqueue n)) (early : ℕ)
        (puts : List ℕ) (chosen : Chosen (Puts h (n ∷ [])) before puts) where
      at_put : At order (length before) put
      at_put = subst (λ l. At l (length before) put) (sym split) (at_here before put after)

      before_there : (p : Placed) → Contains before p → (k : ℕ) × At order k p × (k < length before)
      before_there p there =
          let at_p = place_of before p there in
          (at_p.0, subst (λ l. At l at_p.0 p) (sym split) (at_left before (put ∷ after) at_p.0 p at_p.1), at_within before at_p.0 p at_p.1)

      -- all of them were invoked before the place, if what returned before the place isn't ahead of them
      all_early : (e : Placed) (k : ℕ) → At order k e → IsBefore h e.at later → length before ≤ k → (i : ℕ) (p : Placed) → At order i p → i ≤ length before → p.at < later
      all_early e k at_e in_time behind i p at_p upto = elim (cases_lt p.at later) [
        | inl less ↦ less
        | inr more ↦
            let end = in_time.3 in
            let ahead = stands_ahead Fifo h order legal k i e p at_e at_p (in_time.0, in_time.1, in_time.2, omega (arith, end, more)) in
            absurd (omega (arith, ahead, behind, upto))
      ]

      can_add : (i : ℕ) (p : Placed) → At order i p → (call : Call) → IsCall h p.at call → Adds call n → p.at < later → CanAddBelow h n later p.at
      can_add i p at_p call it adds less = ((call, it, not_failed Fifo h order legal i p at_p, adds), less)

      too_many : (e : Placed) (k : ℕ) → At order k e → IsBefore h e.at later → length before ≤ k → (places : List ℕ) → length places ≡ early → ((at : ℕ) → CanAddBelow h n later at → Contains places at)
          → early ≤ length puts → ⊥
      too_many e k at_e in_time behind places many all few =
          let fits = no_more (put.at ∷ puts) places apart (λ at there. elim (first_or_rest put.at puts at there) [
            | inl same ↦ subst (Contains places) same (all put.at (can_add (length before) put at_put (Enqueue n) is refl (all_early e k at_e in_time behind (length before) put at_put (omega arith))))
            | inr rest ↦
                let p = chosen.are at rest in
                let there = before_there p.0 p.1 in
                let less = there.2 in
                subst (Contains places) p.3 (all p.0.at (can_add there.0 p.0 there.1 p.2.0 p.2.1 (subst (Adds p.2.0) (sym (one_alone n p.2.2.0 p.2.2.1)) p.2.2.2) (all_early e k at_e in_time behind there.0 p.0 there.1 (omega (arith, less)))))
          ]) in
          omega (arith, fits, many, few)
        where
          apart : AllPairs ◌≢◌ (put.at ∷ puts)
          apart = AllPairs-cons ◌≢◌ put.at puts (all_of (λ at. put.at ≢ at) puts (λ at there same.
              let p = chosen.are at there in
              let stands = before_there p.0 p.1 in
              let less = stands.2 in
              let equal = one_place Fifo h order legal stands.0 (length before) p.0 put stands.1 at_put (p.3 ∙ sym same) in
              omega (arith, equal, less))) chosen.apart

    pub preceded : (later dequeue : ℕ) (n : Item) → IsPreceded h later dequeue n → ⊥
    preceded later dequeue n is =
        let t = is.took in
        let d : Placed = record { at = dequeue; reply = t.2 } in
        let parts = parted order d (legal.order_of.each_ok dequeue t.1 t.2 tt t.4) in
        let run = runs_split (Step Fifo) h (start Fifo) legal.legal.0 parts.0 (d ∷ parts.1) (subst (λ l. Runs (Step Fifo) h (start Fifo) l legal.legal.0) parts.2 legal.legal.1) in
        let found = took_it t.0 t.2 n t.5 in
        let call : run.2.0 ≡ Dequeue = one_call h dequeue run.2.0 t.0 run.2.2 t.3 ∙ found.0 in
        let front = front_taken run.0 run.2.1 run.2.0 t.2 n run.2.3 call found.1 in
        let once = pairs_left (λ (x y : Placed). x.at ≢ y.at) parts.0 (d ∷ parts.1) (subst Once parts.2 legal.order_of.once) in
        elim (in_front [] front.0 n parts.0 once (subst (Runs (Step Fifo) h (Queue []) parts.0) front.1 run.1)) [
          | inl was ↦ never was.0 was.1 was.2
          | inr came ↦ counts t.2 parts.0 parts.1 parts.2 run.0 run.1 came.0 came.1 came.2 came.3 came.4 came.5
        ]
      where
        never : (front back : List Item) → [] ≡ front ++ n ∷ back → ⊥
        never [] back e = cc
        never (x ∷ front) back e = cc

        counts : (reply : Reply) (ahead rest : List Placed) → order ≡ ahead ++ record { at = dequeue; reply = reply } ∷ rest → (s : State) (run : Runs (Step Fifo) h (start Fifo) ahead s)
            → (before : List Placed) (put : Placed) (after : List Placed) → ahead ≡ before ++ put ∷ after → IsCall h put.at (Enqueue n)
            → ((ns : List Item) → (takes : List ℕ) × (puts : List ℕ) × Chosen (TakesOut h ns) ahead takes × Chosen (Puts h ns) before puts × (length takes ≡ times ns [] + length puts)) → ⊥
        counts reply ahead rest split s run before put after inner is_put each =
            let d : Placed = record { at = dequeue; reply = reply } in
            let there : At order (length ahead) d = subst (λ l. At l (length ahead) d) (sym split) (at_here ahead d rest) in
            let whole : order ≡ before ++ put ∷ (after ++ d ∷ rest) = split ∙ ap (λ l. l ++ d ∷ rest) inner ∙ append_assoc before (put ∷ after) (d ∷ rest) in
            let own = each (n ∷ []) in
            let ns = all_added Fifo h (start Fifo) s ahead run in
            let all = each ns in
            let outs = chosen_least (TakesOut h (n ∷ [])) ahead own.0 own.2 (TookBefore h n dequeue)
            (λ at took.
            let e : Placed = record { at = at; reply = took.0.2 } in
            let place = ok_there Fifo h order legal at took.0.1 took.0.2 took.0.4 in
            let less = stands_ahead Fifo h order legal place.0 (length ahead) e d place.1 there took.1 in
            let stands = stands_in ahead place.0 e (left_at ahead (d ∷ rest) place.0 e (subst (λ l. At l place.0 e) split place.1) less) in
            (e, stands, (took.0.0, took.0.3, (n, (0, omega arith, refl), took.0.5)), refl))
            is.outs (at_least (TookBefore h n dequeue) is.outs is.all_outs) in
            let own_sum = own.4 in
            let in_turn = is.in_turn in
            let early = at_most (CanAddBelow h n later) is.early is.all_early in
            let many = chosen_least (Puts h ns) before all.1 all.3 (PutsBefore h later)
            (λ at p.
            let e : Placed = record { at = at; reply = p.0.2 } in
            let place = ok_there Fifo h order legal at p.0.1 p.0.2 p.0.4 in
            let stands : Contains before e = elim (cases_lt place.0 (length before)) [
              | inl less ↦ stands_in before place.0 e (left_at before (put ∷ (after ++ d ∷ rest)) place.0 e (subst (λ l. At l place.0 e) whole place.1) less)
              | inr behind ↦ absurd (too_many later n before (after ++ d ∷ rest) put whole is_put is.early own.1 own.3 e place.0 place.1 p.1 behind early.0 early.1 early.2 (omega (arith, in_turn, outs, own_sum)))
            ] in
            let in_ahead = place_of before e stands in
            let in_order = stands_in ahead in_ahead.0 e (subst (λ l. At l in_ahead.0 e) (sym inner) (at_left before (put ∷ after) in_ahead.0 e in_ahead.1)) in
            (e, stands, (p.0.0, p.0.3, (p.0.5.0, is_added Fifo h (start Fifo) s ahead run e in_order p.0.0 p.0.3 p.0.5.0 p.0.5.1, p.0.5.1)), refl))
            is.puts (at_least (PutsBefore h later) is.puts is.all_puts) in
            let few = chosen_most (TakesOut h ns) ahead all.0 all.2 (MayTakeAhead h dequeue)
            (λ p in_p takes.
            let at_p = place_of ahead p in_p in
            let left = at_left ahead (d ∷ rest) at_p.0 p at_p.1 in
            takes_ahead Fifo h order legal d (length ahead) there at_p.0 p (subst (λ l. At l at_p.0 p) (sym split) left) (at_within ahead at_p.0 p at_p.1) takes.0 takes.1 takes.2.0 takes.2.2)
            is.takes (at_most (MayTakeAhead h dequeue) is.takes is.all_takes) in
            let sum = all.4 in
            let fewer = is.fewer in
            omega (arith, many, few, sum, fewer)
