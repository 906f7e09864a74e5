-- What a fifo queue holds along a legal order: the k-th item that it gives is the k-th that was put.
use Rattle.std.proofs.Common.{◌≡◌, ℕ, ◌≤◌, ◌+◌, zero, suc, Bool, List, [], ◌∷◌, ◌++◌, length, length-append, append_assoc, append-nil, take, take_all, inl, inr, refl, sym, ap, subst, ◌∙◌, arith, Some, slice_get}
use Rattle.lin_events.specs.declared.items.Item.{Item}
use Rattle.lin_events.specs.declared.events.Event.{Event}
use Rattle.lin_events.specs.declared.calls.Call.{Call}
use Rattle.lin_events.specs.declared.calls.Call.TheVariants.{Read, Write, Cas, Enqueue, Dequeue, Add, Acquire, Release}
use Rattle.lin_events.specs.declared.calls.Reply.{Reply}
use Rattle.lin_events.specs.declared.calls.Reply.TheVariants.{Done, Value}
use Rattle.lin_events.specs.declared.calls.Val.TheVariants.{Nil, Item as Held}
use Rattle.lin_objects.specs.declared.kinds.Kind.TheVariants.{Fifo}
use Rattle.lin_objects.specs.declared.states.State.{State}
use Rattle.lin_objects.specs.declared.states.State.TheVariants.{Queue}
use Rattle.lin_objects.specs.Steps.{Step}
use Rattle.lin_order.specs.declared.placed.Placed.{Placed}
use Rattle.lin_order.specs.Orders.{IsCall}
use Rattle.lin_order.specs.Linearizable.{Runs, IsLegalOrderAs}
use Rattle.lin_lists.specs.lemmas.Lists.{get_left, get_cases, get_last, get_inside}
use Rattle.lin_queues.specs.Debts.{puts, gets, enqueues, dequeues, Stands}
use Rattle.lin_queues.proofs.DebtLists.{some_same}
use Rattle.lin_queues.proofs.Ranks.{count_append, count_one, count_none}

put : Placed → Bool
put p = puts p.reply

got : Placed → Bool
got p = gets p.reply

pub take_left : {A : Type 0} (i : ℕ) (xs ys : List A) → i ≤ length xs → take i (xs ++ ys) ≡ take i xs
take_left zero xs ys fits = refl
take_left (suc i) [] ys fits = absurd (omega arith)
take_left (suc i) (x ∷ xs) ys fits = ap (λ l. x ∷ l) (take_left i xs ys (omega arith))

-- the steps of a queue
pub data IsStep (q : List Item) (next : State) : Call → Reply → Type 0 where
  puts_one : (item : Item) → next ≡ Queue (q ++ item ∷ []) → IsStep q next (Enqueue item) Done
  gets_none : q ≡ [] → next ≡ Queue [] → IsStep q next Dequeue (Value Nil)
  gets_one : (item : Item) (rest : List Item) → q ≡ item ∷ rest → next ≡ Queue rest → IsStep q next Dequeue (Value (Held item))

pub step_of : (q : List Item) (call : Call) (next : State) (reply : Reply) → Step Fifo (Queue q) call next reply → IsStep q next call reply
step_of q (Enqueue item) next reply s = subst (IsStep q next (Enqueue item)) (sym s.1) (puts_one item s.0)
step_of [] Dequeue next reply s = subst (IsStep [] next Dequeue) (sym s.1) (gets_none refl s.0)
step_of (item ∷ rest) Dequeue next reply s = subst (IsStep (item ∷ rest) next Dequeue) (sym s.1) (gets_one item rest refl s.0)
step_of [] Read next reply s = absurd s
step_of [] (Write v) next reply s = absurd s
step_of [] (Cas v w) next reply s = absurd s
step_of [] (Add x) next reply s = absurd s
step_of [] Acquire next reply s = absurd s
step_of [] Release next reply s = absurd s
step_of (x ∷ q) Read next reply s = absurd s
step_of (x ∷ q) (Write v) next reply s = absurd s
step_of (x ∷ q) (Cas v w) next reply s = absurd s
step_of (x ∷ q) (Add y) next reply s = absurd s
step_of (x ∷ q) Acquire next reply s = absurd s
step_of (x ∷ q) Release next reply s = absurd s

-- the n-th enqueue of the order is of the item
abbrev pub IsNth : List Event → List Placed → ℕ → Item → Type 0
IsNth h o n item = (i : ℕ) × (element : ℕ) × Stands o i element Done × (enqueues (take i o) ≡ n) × IsCall h element (Enqueue item)

-- the queue holds these items after the order
pub record Holds (h : List Event) (o : List Placed) (q : List Item) : Type 0 where
  pub many : dequeues o + length q ≡ enqueues o
  pub items : (k : ℕ) (item : Item) → slice_get q k ≡ Some item → IsNth h o (dequeues o + k) item

module _ (h : List Event) (o : List Placed) (p : Placed) where
  nth_kept : (n : ℕ) (item : Item) → IsNth h o n item → IsNth h (o ++ p ∷ []) n item
  nth_kept n item nth =
      let inside = get_inside o nth.0 _ nth.2 in
      (nth.0, nth.1, get_left o p nth.0 _ nth.2, ap enqueues (take_left nth.0 o (p ∷ []) (omega (arith, inside))) ∙ nth.3, nth.4)

  enqueues_more : (b : ℕ) → enqueues (p ∷ []) ≡ b → enqueues (o ++ p ∷ []) ≡ enqueues o + b
  enqueues_more b is = count_append (λ (x : Placed). puts x.reply) o (p ∷ []) ∙ ap (λ n. enqueues o + n) is

  dequeues_more : (b : ℕ) → dequeues (p ∷ []) ≡ b → dequeues (o ++ p ∷ []) ≡ dequeues o + b
  dequeues_more b is = count_append (λ (x : Placed). gets x.reply) o (p ∷ []) ∙ ap (λ n. dequeues o + n) is

  -- and these after one more operation
  holds_more : (q : List Item) (call : Call) (next : State) (reply : Reply) → p.reply ≡ reply → Holds h o q → IsCall h p.at call → IsStep q next call reply
      → (rest : List Item) × (next ≡ Queue rest) × Holds h (o ++ p ∷ []) rest
  holds_more q _ next _ said holds is (puts_one item e) = (q ++ item ∷ [], e, record { many = many; items = items })
    where
      more : enqueues (o ++ p ∷ []) ≡ enqueues o + 1
      more = enqueues_more 1 (count_one (λ (x : Placed). puts x.reply) p [] (ap puts said))

      same : dequeues (o ++ p ∷ []) ≡ dequeues o + 0
      same = dequeues_more 0 (count_none (λ (x : Placed). gets x.reply) p [] (ap gets said))

      many : dequeues (o ++ p ∷ []) + length (q ++ item ∷ []) ≡ enqueues (o ++ p ∷ [])
      many = let long = length-append q (item ∷ []) in omega (arith, more, same, long, holds.many)

      items : (k : ℕ) (other : Item) → slice_get (q ++ item ∷ []) k ≡ Some other → IsNth h (o ++ p ∷ []) (dequeues (o ++ p ∷ []) + k) other
      items k other there = elim (get_cases q item k other there) [
        | inl old ↦ subst (λ n. IsNth h (o ++ p ∷ []) n other) (omega (arith, same)) (nth_kept (dequeues o + k) other (holds.items k other old))
        | inr new ↦ (
          length o,
          p.at,
          get_last o p ∙ ap (λ r. Some (record { at = p.at; reply = r })) said,
          let all = ap enqueues (take_left (length o) o (p ∷ []) (omega arith) ∙ take_all (length o) o (omega arith)) in omega (arith, all, same, new.0, holds.many),
          subst (λ x. IsCall h p.at (Enqueue x)) new.1 is,
        )
      ]
  holds_more q _ next _ said holds is (gets_none none e) = ([], e, record { many = many; items = λ k item there. cc })
    where
      more : enqueues (o ++ p ∷ []) ≡ enqueues o + 0
      more = enqueues_more 0 (count_none (λ (x : Placed). puts x.reply) p [] (ap puts said))

      same : dequeues (o ++ p ∷ []) ≡ dequeues o + 0
      same = dequeues_more 0 (count_none (λ (x : Placed). gets x.reply) p [] (ap gets said))

      many : dequeues (o ++ p ∷ []) + 0 ≡ enqueues (o ++ p ∷ [])
      many = let long : length q ≡ 0 = ap length none in omega (arith, more, same, long, holds.many)
  holds_more q _ next _ said holds is (gets_one item rest full e) = (rest, e, record { many = many; items = items })
    where
      more : enqueues (o ++ p ∷ []) ≡ enqueues o + 0
      more = enqueues_more 0 (count_none (λ (x : Placed). puts x.reply) p [] (ap puts said))

      same : dequeues (o ++ p ∷ []) ≡ dequeues o + 1
      same = dequeues_more 1 (count_one (λ (x : Placed). gets x.reply) p [] (ap gets said))

      many : dequeues (o ++ p ∷ []) + length rest ≡ enqueues (o ++ p ∷ [])
      many = let long : length q ≡ suc (length rest) = ap length full in omega (arith, more, same, long, holds.many)

      items : (k : ℕ) (other : Item) → slice_get rest k ≡ Some other → IsNth h (o ++ p ∷ []) (dequeues (o ++ p ∷ []) + k) other
      items k other there =
          subst (λ n. IsNth h (o ++ p ∷ []) n other) (omega (arith, same))
          (nth_kept (dequeues o + suc k) other (holds.items (suc k) other (ap (λ l. slice_get l (suc k)) full ∙ there)))

-- the operation stands behind this order, and is a step of a queue that has these items after it
pub record IsBehind (h : List Event) (o : List Placed) (p : Placed) : Type 0 where
  pub q : List Item
  pub call : Call
  pub next : State
  pub holds : Holds h o q
  pub is_call : IsCall h p.at call
  pub steps : IsStep q next call p.reply

run_at : (h : List Event) (post pre : List Placed) (q : List Item) (last : State) → Holds h pre q → Runs (Step Fifo) h (Queue q) post last → (j : ℕ) (p : Placed) → slice_get post j ≡ Some p
    → IsBehind h (pre ++ take j post) p
run_at h [] pre q last holds run j p there = cc
run_at h (a ∷ post) pre q last holds run zero p there =
    subst (λ x. IsBehind h (pre ++ []) x) (some_same there) (subst (λ l. IsBehind h l a) (sym (append-nil pre))
    (record { q = q; call = run.0; next = run.1; holds = holds; is_call = run.2; steps = step_of q run.0 run.1 a.reply run.3 }))
run_at h (a ∷ post) pre q last holds run (suc j) p there =
    let more = holds_more h pre a q run.0 run.1 a.reply refl holds run.2 (step_of q run.0 run.1 a.reply run.3) in
    subst (λ l. IsBehind h l p) (append_assoc pre (a ∷ []) (take j post))
    (run_at h post (pre ++ a ∷ []) more.0 last more.2 (subst (λ s. Runs (Step Fifo) h s post last) more.1 run.4) j p there)

-- each operation of a legal order is a step of the queue
pub behind : (h : List Event) (o : List Placed) → IsLegalOrderAs Fifo h o → (j : ℕ) (p : Placed) → slice_get o j ≡ Some p → IsBehind h (take j o) p
behind h o legal j p there = run_at h o [] [] legal.legal.0 (record { many = refl; items = λ k item inside. cc }) legal.legal.1 j p there
