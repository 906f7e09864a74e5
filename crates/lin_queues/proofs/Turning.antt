-- In a legal order of a fifo queue a dequeue takes out what the enqueue of the same rank put in.
use Rattle.std.proofs.Common.{◌≡◌, ◌≢◌, ◌≤◌, ◌+◌, ℕ, suc, Bool, true, false, cond, List, [], ◌∷◌, ◌++◌, ◌⊎◌, AllPairs, Contains, length, inl, inr, refl, sym, ap, subst, ◌∙◌, arith, true≢false, Some, slice_get, append_assoc}
use Rattle.std.proofs.lemmas.Bool.{cases_Bool}
use Rattle.std.proofs.lemmas.List.Elements.{All-contains, Contains-append_cases, Contains-append_left, Contains-append_right}
use Rattle.std.proofs.lemmas.List.Kept.{AllPairs-cons}
use Rattle.lin_lists.specs.lemmas.Elements.{all_of, first_or_rest, nothing_in, pairs_left}
use Rattle.lin_lists.specs.lemmas.Taken.{one_place}
use Rattle.lin_lists.specs.lemmas.Lists.{get_cases}
use Rattle.lin_events.specs.declared.items.Item.{Item}
use Rattle.lin_events.specs.declared.events.Event.{Event}
use Rattle.lin_events.specs.declared.calls.Call.{Call}
use Rattle.lin_events.specs.declared.calls.Call.TheVariants.{Read, Write, Cas, Enqueue, Dequeue, Add, Acquire, Release}
use Rattle.lin_events.specs.declared.calls.Reply.{Reply}
use Rattle.lin_events.specs.declared.calls.Reply.TheVariants.{Done, Value, Members}
use Rattle.lin_events.specs.declared.calls.Val.TheVariants.{Nil, Item as Held}
use Rattle.lin_events.specs.Operations.{IsOk, IsFailed}
use Rattle.lin_objects.specs.declared.kinds.Kind.TheVariants.{Fifo}
use Rattle.lin_objects.specs.declared.states.State.{State}
use Rattle.lin_objects.specs.declared.states.State.TheVariants.{Queue}
use Rattle.lin_objects.specs.Steps.{Step, start}
use Rattle.lin_order.specs.declared.placed.Placed.{Placed}
use Rattle.lin_order.specs.Orders.{IsBefore, IsCall}
use Rattle.lin_order.specs.Linearizable.{Runs, IsLegalOrderAs}
use Rattle.lin_order.specs.lemmas.OneEnd.{one_call}
use Rattle.lin_order.specs.lemmas.Assembling.{one_reply}
use Rattle.lin_order.specs.lemmas.Running.{runs_split}
use Rattle.lin_certificates.specs.lemmas.Conflicting.{across, parted}
use Rattle.lin_certificates.specs.lemmas.Counting.{Chosen, chosen_empty, chosen_least, chosen_most, chosen_one, chosen_other, first_apart, no_more, pairs_rest}
use Rattle.lin_queues.specs.Ranks.{HasPut, HasTaken, HasTakenItem, IsRankedBelow, IsRankedFrom, MayPut, MayPutItem, MayTake, RankLaw, RanksBelow, RanksFrom}

-- whether the reply is an enqueue's, or a dequeue's that took something out
abbrev puts : Reply → Bool
puts Done = true
puts (Value v) = false
puts (Members s) = false

abbrev takes : Reply → Bool
takes Done = false
takes (Value Nil) = false
takes (Value (Held item)) = true
takes (Members s) = false

-- the operations of an order that have such a reply
module _ (f : Reply → Bool) where
  abbrev Is : Placed → Type 0
  Is p = f p.reply ≡ true

  abbrev ats : List Placed → List ℕ
  ats [] = []
  ats (p ∷ o) = cond (f p.reply) (p.at ∷ ats o) (ats o)

  abbrev many : List Placed → ℕ
  many o = length (ats o)

  many_one : (p : Placed) (o : List Placed) → Is p → many (p ∷ o) ≡ suc (many o)
  many_one p o is = ap (λ b. length (cond b (p.at ∷ ats o) (ats o))) is

  many_none : (p : Placed) (o : List Placed) → f p.reply ≡ false → many (p ∷ o) ≡ many o
  many_none p o is = ap (λ b. length (cond b (p.at ∷ ats o) (ats o))) is

  many_last : (o : List Placed) (p : Placed) → Is p → many (o ++ p ∷ []) ≡ suc (many o)
  many_last [] p is = many_one p [] is
  many_last (q ∷ o) p is = elim (cases_Bool (f q.reply)) [
    | inl passes ↦ many_one q (o ++ p ∷ []) passes ∙ ap suc (many_last o p is) ∙ ap suc (sym (many_one q o passes))
    | inr fails ↦ many_none q (o ++ p ∷ []) fails ∙ many_last o p is ∙ ap suc (sym (many_none q o fails))
  ]

  -- the rank of one of them is its place among them
  at_rank : (before : List Placed) (z : Placed) (after : List Placed) → Is z → slice_get (ats (before ++ z ∷ after)) (many before) ≡ Some z.at
  at_rank [] z after is = ap (λ b. slice_get (cond b (z.at ∷ ats after) (ats after)) 0) is
  at_rank (p ∷ before) z after is =
      let rest = at_rank before z after is in
      elim (cases_Bool (f p.reply)) [
        | inl passes ↦
            ap (λ n. slice_get (ats (p ∷ before ++ z ∷ after)) n) (many_one p before passes)
            ∙ ap (λ b. slice_get (cond b (p.at ∷ ats (before ++ z ∷ after)) (ats (before ++ z ∷ after))) (suc (many before))) passes ∙ rest
        | inr fails ↦
            ap (λ n. slice_get (ats (p ∷ before ++ z ∷ after)) n) (many_none p before fails)
            ∙ ap (λ b. slice_get (cond b (p.at ∷ ats (before ++ z ∷ after)) (ats (before ++ z ∷ after))) (many before)) fails ∙ rest
      ]

  chosen : (o : List Placed) → AllPairs (λ (x y : Placed). x.at ≢ y.at) o → Chosen Is o (ats o)
  chosen [] once = chosen_empty Is
  chosen (p ∷ o) once =
      let rest = chosen o (pairs_rest (λ (x y : Placed). x.at ≢ y.at) p o once) in
      elim (cases_Bool (f p.reply)) [
        | inl passes ↦ subst (Chosen Is (p ∷ o)) (sym (ap (λ b. cond b (p.at ∷ ats o) (ats o)) passes)) (chosen_one Is p o (ats o) rest once passes)
        | inr fails ↦ subst (Chosen Is (p ∷ o)) (sym (ap (λ b. cond b (p.at ∷ ats o) (ats o)) fails)) (chosen_other Is p o (ats o) rest (λ passes. true≢false (sym passes ∙ fails)))
      ]

-- the steps of a queue
data IsStep (q : List Item) (next : State) : Call → Reply → Type 0 where
  puts_one : (item : Item) → next ≡ Queue (q ++ item ∷ []) → IsStep q next (Enqueue item) Done
  gets_none : q ≡ [] → next ≡ Queue [] → IsStep q next Dequeue (Value Nil)
  gets_one : (item : Item) (rest : List Item) → q ≡ item ∷ rest → next ≡ Queue rest → IsStep q next Dequeue (Value (Held item))

step_of : (q : List Item) (call : Call) (next : State) (reply : Reply) → Step Fifo (Queue q) call next reply → IsStep q next call reply
step_of q (Enqueue item) next reply s = subst (IsStep q next (Enqueue item)) (sym s.1) (puts_one item s.0)
step_of [] Dequeue next reply s = subst (IsStep [] next Dequeue) (sym s.1) (gets_none refl s.0)
step_of (item ∷ rest) Dequeue next reply s = subst (IsStep (item ∷ rest) next Dequeue) (sym s.1) (gets_one item rest refl s.0)
step_of [] Read next reply s = absurd s
step_of [] (Write v) next reply s = absurd s
step_of [] (Cas v w) next reply s = absurd s
step_of [] (Add x) next reply s = absurd s
step_of [] Acquire next reply s = absurd s
step_of [] Release next reply s = absurd s
step_of (x ∷ q) Read next reply s = absurd s
step_of (x ∷ q) (Write v) next reply s = absurd s
step_of (x ∷ q) (Cas v w) next reply s = absurd s
step_of (x ∷ q) (Add y) next reply s = absurd s
step_of (x ∷ q) Acquire next reply s = absurd s
step_of (x ∷ q) Release next reply s = absurd s

next_queue : (q : List Item) (call : Call) (next : State) (reply : Reply) → IsStep q next call reply → (r : List Item) × (next ≡ Queue r)
next_queue q _ next _ (puts_one item e) = (q ++ item ∷ [], e)
next_queue q _ next _ (gets_none none e) = ([], e)
next_queue q _ next _ (gets_one item rest full e) = (rest, e)

-- an operation of a queue, with what it did
data IsDone (h : List Event) (p : Placed) : Type 0 where
  put : (item : Item) → IsCall h p.at (Enqueue item) → p.reply ≡ Done → IsDone h p
  got_none : IsCall h p.at Dequeue → p.reply ≡ Value Nil → IsDone h p
  got : (item : Item) → IsCall h p.at Dequeue → p.reply ≡ Value (Held item) → IsDone h p

one_done : (h : List Event) (p : Placed) (q : List Item) (call : Call) (next : State) (reply : Reply) → p.reply ≡ reply → IsCall h p.at call → IsStep q next call reply → IsDone h p
one_done h p q _ next _ said is (puts_one item e) = put item is said
one_done h p q _ next _ said is (gets_none none e) = got_none is said
one_done h p q _ next _ said is (gets_one item rest full e) = got item is said

-- an item that stands at this place of what was inside, and of what these operations put in behind that
abbrev Source : List Event → List Item → List Placed → Item → ℕ → Type 0
Source h q o item n = (slice_get q n ≡ Some item)
    ⊎ ((before : List Placed) × (e : Placed) × (after : List Placed) × (o ≡ before ++ e ∷ after) × IsCall h e.at (Enqueue item) × (e.reply ≡ Done) × (many puts before + length q ≡ n))

module _ (h : List Event) where
  more : (p : Placed) (o : List Placed) (q : List Item) (call : Call) (next : State) (reply : Reply) → p.reply ≡ reply → IsCall h p.at call → IsStep q next call reply → (k : ℕ) (item : Item)
      → ((r : List Item) → next ≡ Queue r → Source h r o item (many takes o + k)) → Source h q (p ∷ o) item (many takes (p ∷ o) + k)
  more p o q _ next _ said is (puts_one x e) k item rest =
      let none = many_none takes p o (ap takes said) in
      let same : many takes o + k ≡ many takes (p ∷ o) + k = omega (arith, none) in
      elim (rest (q ++ x ∷ []) e) [
        | inl inside ↦ elim (get_cases q x (many takes o + k) item inside) [
          | inl old ↦ inl (subst (λ n. slice_get q n ≡ Some item) same old)
          | inr new ↦ inr ([], p, o, refl, subst (λ y. IsCall h p.at (Enqueue y)) new.1 is, said, let here = new.0 in let first : many puts [] ≡ 0 = refl in omega (arith, here, same, first))
        ]
        | inr later ↦
            let longer = many_one puts p later.0 (ap puts said) in
            let size = later.6 in
            let long : length (q ++ x ∷ []) ≡ length q + 1 = long_one q x in
            inr (p ∷ later.0, later.1, later.2, ap (λ l. p ∷ l) later.3, later.4, later.5, omega (arith, longer, size, long, same))
      ]
    where
      long_one : (q : List Item) (x : Item) → length (q ++ x ∷ []) ≡ length q + 1
      long_one [] x = refl
      long_one (y ∷ q) x = let rest = long_one q x in omega (arith, rest)
  more p o q _ next _ said is (gets_none empty e) k item rest =
      let none = many_none takes p o (ap takes said) in
      let same : many takes o + k ≡ many takes (p ∷ o) + k = omega (arith, none) in
      elim (rest [] e) [
        | inl inside ↦ absurd (nowhere (many takes o + k) item inside)
        | inr later ↦
            let longer = many_none puts p later.0 (ap puts said) in
            let size = later.6 in
            let long : length q ≡ 0 = ap length empty in
            inr (p ∷ later.0, later.1, later.2, ap (λ l. p ∷ l) later.3, later.4, later.5, omega (arith, longer, size, long, same))
      ]
    where
      nowhere : (n : ℕ) (x : Item) → slice_get [] n ≡ Some x → ⊥
      nowhere n x there = cc
  more p o q _ next _ said is (gets_one x others full e) k item rest =
      let one = many_one takes p o (ap takes said) in
      let same : suc (many takes o + k) ≡ many takes (p ∷ o) + k = omega (arith, one) in
      elim (rest others e) [
        | inl inside ↦ inl (subst (λ n. slice_get q n ≡ Some item) same (ap (λ l. slice_get l (suc (many takes o + k))) full ∙ inside))
        | inr later ↦
            let shorter = many_none puts p later.0 (ap puts said) in
            let size = later.6 in
            let long : length q ≡ suc (length others) = ap length full in
            inr (p ∷ later.0, later.1, later.2, ap (λ l. p ∷ l) later.3, later.4, later.5, omega (arith, shorter, size, long, same))
      ]

  -- where what is inside after a run comes from
  source : (o : List Placed) (q r : List Item) (t : State) → Runs (Step Fifo) h (Queue q) o t → t ≡ Queue r → (k : ℕ) (item : Item) → slice_get r k ≡ Some item → Source h q o item (many takes o + k)
  source [] q r t run is k item there =
      let first : k ≡ many takes [] + k = none_first k in
      inl (subst (λ n. slice_get q n ≡ Some item) first (subst (λ l. slice_get l k ≡ Some item) (sym (queue_is q r (run ∙ is))) there))
    where
      queue_is : (q r : List Item) → Queue q ≡ Queue r → q ≡ r
      queue_is q r e = cc

      none_first : (k : ℕ) → k ≡ many takes [] + k
      none_first k = omega arith
  source (p ∷ o) q r t run is k item there =
      more p o q run.0 run.1 p.reply refl run.2 (step_of q run.0 run.1 p.reply run.3) k item
      (λ next e. source o next r t (subst (λ s. Runs (Step Fifo) h s o t) e run.4) is k item there)

  -- a run ends in a queue, and each of its operations is a queue's
  ends_queue : (o : List Placed) (q : List Item) (t : State) → Runs (Step Fifo) h (Queue q) o t → (r : List Item) × (t ≡ Queue r)
  ends_queue [] q t run = (q, sym run)
  ends_queue (p ∷ o) q t run =
      let next = next_queue q run.0 run.1 p.reply (step_of q run.0 run.1 p.reply run.3) in
      ends_queue o next.0 t (subst (λ s. Runs (Step Fifo) h s o t) next.1 run.4)

  each_done : (o : List Placed) (q : List Item) (t : State) → Runs (Step Fifo) h (Queue q) o t → (p : Placed) → Contains o p → IsDone h p
  each_done [] q t run p there = absurd (nothing_in p there)
  each_done (a ∷ o) q t run p there =
      let step = step_of q run.0 run.1 a.reply run.3 in
      elim (first_or_rest a o p there) [
        | inl same ↦ subst (IsDone h) same (one_done h a q run.0 run.1 a.reply refl run.2 step)
        | inr rest ↦ let next = next_queue q run.0 run.1 a.reply step in each_done o next.0 t (subst (λ s. Runs (Step Fifo) h s o t) next.1 run.4) p rest
      ]

  module _ (order : List Placed) (legal : IsLegalOrderAs Fifo h order) where
    not_failed : (p : Placed) → Contains order p → IsFailed h p.at → ⊥
    not_failed p there = All-contains (λ (x : Placed). IsFailed h x.at → ⊥) order p legal.order_of.none_failed there

    done_in : (p : Placed) → Contains order p → IsDone h p
    done_in p there = each_done order [] legal.legal.0 legal.legal.1 p there

    ok_in : (at end : ℕ) (reply : Reply) → IsOk h at end reply → Contains order (record { at = at; reply = reply })
    ok_in at end reply ok = legal.order_of.each_ok at end reply tt ok

    not_itself : (at : ℕ) → IsBefore h at at → ⊥
    not_itself at before = let late = before.3 in let ends = before.2.1.later in omega (arith, late, ends)

    -- those of one sort, whose replies are such, round one of them
    module _ (f : Reply → Bool) (Has May : ℕ → Type 0) (has : (at : ℕ) → Has at → (end : ℕ) × (reply : Reply) × IsOk h at end reply × (f reply ≡ true)) (may : (p : Placed) → Contains order p → f p.reply ≡ true → May p.at)
        (before : List Placed) (z : Placed) (after : List Placed) (split : order ≡ before ++ z ∷ after) where
      real_time : AllPairs (λ x y. IsBefore h y.at x.at → ⊥) (before ++ z ∷ after)
      real_time = subst (AllPairs (λ x y. IsBefore h y.at x.at → ⊥)) split legal.order_of.real_time

      with_it : order ≡ (before ++ z ∷ []) ++ after
      with_it = split ∙ sym (append_assoc before (z ∷ []) after)

      once : AllPairs (λ x y. x.at ≢ y.at) (before ++ z ∷ [])
      once = pairs_left (λ (x y : Placed). x.at ≢ y.at) (before ++ z ∷ []) after (subst (AllPairs (λ x y. x.at ≢ y.at)) with_it legal.order_of.once)

      rank_below : f z.reply ≡ true → (k : ℕ) → RanksBelow h May z.at k → suc (many f before) ≤ k
      rank_below is k below =
          let up_to : many f (before ++ z ∷ []) ≤ k = chosen_most (Is f) (before ++ z ∷ []) (ats f (before ++ z ∷ [])) (chosen f (before ++ z ∷ []) once) (λ x. May x × (IsBefore h z.at x → ⊥))
          (λ p there passes. (
            may p (subst (λ l. Contains l p) (sym with_it) (Contains-append_left (before ++ z ∷ []) after p there)) passes,
            elim (Contains-append_cases before (z ∷ []) p there) [
              | inl ahead ↦ across (λ x y. IsBefore h y.at x.at → ⊥) before (z ∷ after) p z real_time ahead (0, omega arith, refl)
              | inr here ↦ elim (first_or_rest z [] p here) [
                | inl same ↦ subst (λ (x : Placed). IsBefore h z.at x.at → ⊥) same (not_itself z.at)
                | inr none ↦ absurd (nothing_in p none)
              ]
            ],
          )) k below in
          let size = many_last f before z is in
          omega (arith, up_to, size)

      rank_from : (k : ℕ) → RanksFrom h Has z.at k → k ≤ many f before
      rank_from k from =
          chosen_least (Is f) before (ats f before) (chosen f before (pairs_left (λ (x y : Placed). x.at ≢ y.at) before (z ∷ []) once)) (λ x. Has x × IsBefore h x z.at)
          (λ at is.
          let ok = has at is.0 in
          let p : Placed = record { at = at; reply = ok.1 } in
          let there = subst (λ l. Contains l p) split (ok_in at ok.0 ok.1 ok.2) in (
            p,
            elim (Contains-append_cases before (z ∷ after) p there) [
              | inl ahead ↦ ahead
              | inr behind ↦ elim (first_or_rest z after p behind) [
                | inl same ↦ absurd (not_itself at (subst (λ (x : Placed). IsBefore h at x.at) same is.1))
                | inr later ↦
                    let apart = subst (AllPairs (λ (x y : Placed). IsBefore h y.at x.at → ⊥)) (sym (append_assoc before (z ∷ []) after)) real_time in
                    absurd (across (λ x y. IsBefore h y.at x.at → ⊥) (before ++ z ∷ []) after z p apart (Contains-append_right before (z ∷ []) z (0, omega arith, refl)) later is.1)
              ]
            ],
            ok.3,
            refl,
          )) k from

    has_put : (at : ℕ) → HasPut h at → (end : ℕ) × (reply : Reply) × IsOk h at end reply × (puts reply ≡ true)
    has_put at is = (is.1.0, is.1.1, is.1.2, of_put (record { at = at; reply = is.1.1 }) is.0.0 is.0.1 (done_in (record { at = at; reply = is.1.1 }) (ok_in at is.1.0 is.1.1 is.1.2)))
      where
        of_put : (p : Placed) (item : Item) → IsCall h p.at (Enqueue item) → IsDone h p → puts p.reply ≡ true
        of_put p item call (put x at' said) = ap puts said
        of_put p item call (got_none at' said) = absurd (differ (one_call h p.at (Enqueue item) Dequeue call at'))
          where
            differ : Enqueue item ≡ Dequeue → ⊥
            differ e = cc
        of_put p item call (got x at' said) = absurd (differ (one_call h p.at (Enqueue item) Dequeue call at'))
          where
            differ : Enqueue item ≡ Dequeue → ⊥
            differ e = cc

    may_put : (p : Placed) → Contains order p → puts p.reply ≡ true → MayPut h p.at
    may_put p there passes = (of_reply (done_in p there), not_failed p there)
      where
        of_reply : IsDone h p → (item : Item) × IsCall h p.at (Enqueue item)
        of_reply (put item at said) = (item, at)
        of_reply (got_none at said) = absurd (true≢false (sym passes ∙ ap puts said))
        of_reply (got item at said) = absurd (true≢false (sym passes ∙ ap puts said))

    has_taken : (at : ℕ) → HasTaken h at → (end : ℕ) × (reply : Reply) × IsOk h at end reply × (takes reply ≡ true)
    has_taken at is = (is.1.0, Value (Held is.1.1), is.1.2, refl)

    may_take : (p : Placed) → Contains order p → takes p.reply ≡ true → MayTake h p.at
    may_take p there passes = (of_reply (done_in p there), not_failed p there, λ end ok. true≢false (sym passes ∙ ap takes (recorded end ok)))
      where
        of_reply : IsDone h p → IsCall h p.at Dequeue
        of_reply (put item at said) = absurd (true≢false (sym passes ∙ ap takes said))
        of_reply (got_none at said) = at
        of_reply (got item at said) = at

        recorded : (end : ℕ) → IsOk h p.at end (Value Nil) → p.reply ≡ Value Nil
        recorded end ok = one_reply order legal.order_of.once p (record { at = p.at; reply = Value Nil }) there (ok_in p.at end (Value Nil) ok) refl

-- what a dequeue takes out stands first
first_is : (r : List Item) (next : State) (item : Item) → Step Fifo (Queue r) Dequeue next (Value (Held item)) → slice_get r 0 ≡ Some item
first_is [] next item step = absurd (differ step.1)
  where
    differ : Value (Held item) ≡ Value Nil → ⊥
    differ e = cc
first_is (x ∷ r) next item step = same step.1
  where
    same : Value (Held item) ≡ Value (Held x) → Some x ≡ Some item
    same e = cc

-- at the same rank stands the one that took the item out, and the one that put it in
record Pair (h : List Event) (order : List Placed) (taken put : ℕ) : Type 0 where
  rank : ℕ
  takes_there : slice_get (ats takes order) rank ≡ Some taken
  puts_there : slice_get (ats puts order) rank ≡ Some put

module _ (h : List Event) (order : List Placed) (legal : IsLegalOrderAs Fifo h order) (item : Item) (low high : ℕ) where
  abbrev Taken : ℕ → Type 0
  Taken x = HasTakenItem h item x × IsRankedFrom h (HasTaken h) x low × IsRankedBelow h (MayTake h) x high

  abbrev Put : ℕ → Type 0
  Put x = MayPutItem h item x × (IsRankedBelow h (MayPut h) x low → ⊥) × (IsRankedFrom h (HasPut h) x high → ⊥)

  partner : (taken : ℕ) → Taken taken → (e : ℕ) × Pair h order taken e × Put e
  partner taken is =
      let d : Placed = record { at = taken; reply = Value (Held item) } in
      let parts = parted order d (ok_in h order legal taken is.0.1.0 (Value (Held item)) is.0.1.1) in
      let run = runs_split (Step Fifo) h (start Fifo) legal.legal.0 parts.0 (d ∷ parts.1) (subst (λ l. Runs (Step Fifo) h (start Fifo) l legal.legal.0) parts.2 legal.legal.1) in
      let queue = ends_queue h parts.0 [] run.0 run.1 in
      let step = subst (λ c. Step Fifo run.0 c run.2.1 (Value (Held item))) (one_call h taken run.2.0 Dequeue run.2.2 is.0.0) run.2.3 in
      let first = first_is queue.0 run.2.1 item (subst (λ s. Step Fifo s Dequeue run.2.1 (Value (Held item))) queue.1 step) in
      elim (source h parts.0 [] queue.0 run.0 run.1 queue.1 0 item first) [
        | inl inside ↦ absurd (nowhere (many takes parts.0 + 0) inside)
        | inr from ↦
            let e = from.1 in
            let behind = from.2 ++ d ∷ parts.1 in
            let whole : order ≡ from.0 ++ e ∷ behind = parts.2 ∙ ap (λ l. l ++ d ∷ parts.1) from.3 ∙ append_assoc from.0 (e ∷ from.2) (d ∷ parts.1) in
            let there : Contains order e = subst (λ l. Contains l e) (sym whole) (Contains-append_right from.0 (e ∷ behind) e (0, omega arith, refl)) in
            let count = from.6 in
            let same : many puts from.0 ≡ many takes parts.0 = omega (arith, count) in (
              e.at,
              record {
                rank = many takes parts.0;
                takes_there = subst (λ l. slice_get (ats takes l) (many takes parts.0) ≡ Some taken) (sym parts.2) (at_rank takes parts.0 d parts.1 refl);
                puts_there = subst (λ l. slice_get (ats puts l) (many takes parts.0) ≡ Some e.at) (sym whole)
                    (subst (λ n. slice_get (ats puts (from.0 ++ e ∷ behind)) n ≡ Some e.at) same (at_rank puts from.0 e behind (ap puts from.5)));
              },
              (
                (from.4, not_failed h order legal e there),
                λ below.
                    let least = rank_below h order legal puts (HasPut h) (MayPut h) (has_put h order legal) (may_put h order legal) from.0 e behind whole (ap puts from.5) below.0 below.2 in
                    let most = rank_from h order legal takes (HasTaken h) (MayTake h) (has_taken h order legal) (may_take h order legal) parts.0 d parts.1 parts.2 is.1.0 is.1.2 in
                    let under = below.1 in
                    let over = is.1.1 in
                    omega (arith, same, least, most, under, over),
                λ above.
                    let least = rank_below h order legal takes (HasTaken h) (MayTake h) (has_taken h order legal) (may_take h order legal) parts.0 d parts.1 parts.2 refl is.2.0 is.2.2 in
                    let most = rank_from h order legal puts (HasPut h) (MayPut h) (has_put h order legal) (may_put h order legal) from.0 e behind whole above.0 above.2 in
                    let under = is.2.1 in
                    let over = above.1 in
                    omega (arith, same, least, most, under, over),
              ),
            )
      ]
    where
      nowhere : (n : ℕ) → slice_get [] n ≡ Some item → ⊥
      nowhere n there = cc

  -- different ones that took it have different partners
  one_taken : (a b e : ℕ) → Pair h order a e → Pair h order b e → a ≡ b
  one_taken a b e p q =
      let rank = one_place (ats puts order) (chosen puts order legal.order_of.once).apart p.rank q.rank e p.puts_there q.puts_there in
      some_same (sym (subst (λ k. slice_get (ats takes order) k ≡ Some a) rank p.takes_there) ∙ q.takes_there)
    where
      some_same : Some a ≡ Some b → a ≡ b
      some_same e = cc

  partners : (ds : List ℕ) → AllPairs ◌≢◌ ds → ((x : ℕ) → Contains ds x → Taken x)
      → (es : List ℕ) × (length es ≡ length ds) × AllPairs ◌≢◌ es × ((e : ℕ) → Contains es e → Put e × ((x : ℕ) × Contains ds x × Pair h order x e))
  partners [] apart each = ([], refl, λ i j d before within. absurd (omega (arith, within)), λ e there. absurd (nothing_in e there))
  partners (x ∷ ds) apart each =
      let rest = partners ds (pairs_rest ◌≢◌ x ds apart) (λ y there. each y (Contains-append_right (x ∷ []) ds y there)) in
      let one = partner x (each x (0, omega arith, refl)) in (
        one.0 ∷ rest.0,
        ap suc rest.1,
        AllPairs-cons ◌≢◌ one.0 rest.0 (all_of (λ e. one.0 ≢ e) rest.0 (λ e there same.
            let other = (rest.3 e there).1 in
            first_apart ◌≢◌ x ds apart other.0 other.1 (one_taken x other.0 e (subst (Pair h order x) same one.1) other.2))) rest.2,
        λ e there. elim (first_or_rest one.0 rest.0 e there) [
          | inl same ↦ subst (λ y. Put y × ((z : ℕ) × Contains (x ∷ ds) z × Pair h order z y)) same (one.2, (x, (0, omega arith, refl), one.1))
          | inr later ↦ let other = rest.3 e later in (other.0, (other.1.0, Contains-append_right (x ∷ []) ds other.1.0 other.1.1, other.1.2))
        ],
      )

pub rank_law : RankLaw
rank_law h item over linear =
    let all = over.taken in
    let some = over.put in
    let found = partners h linear.0 linear.1 item over.low over.high all.0 all.2
    (λ x there. All-contains (λ y. HasTakenItem h item y × IsRankedFrom h (HasTaken h) y over.low × IsRankedBelow h (MayTake h) y over.high) all.0 x all.3 there) in
    let fits = no_more found.0 some.0 found.2 (λ e there. some.2 e (found.3 e there).0) in
    let size = found.1 in
    let most = some.1 in
    let least = all.1 in
    let fewer = over.fewer in
    omega (arith, fits, size, most, least, fewer)
