-- Queues have no legal order of operations that conflict.
use Rattle.std.proofs.Common.{◌≡◌, ◌≢◌, ◌<◌, ℕ, List, [], ◌∷◌, ◌++◌, ◌⊎◌, AllPairs, Contains, length, inl, inr, refl, sym, ap, subst, ◌∙◌, arith, append_assoc}
use Rattle.std.proofs.lemmas.Bool.{cases_lt}
use Rattle.std.proofs.lemmas.Option.{slice_get_within}
use Rattle.std.proofs.lemmas.List.Elements.{All-contains, Contains-append_cases, Contains-append_left, Contains-append_right}
use Rattle.lin_events.specs.declared.items.Item.{Item}
use Rattle.lin_events.specs.declared.calls.Call.{Call}
use Rattle.lin_events.specs.declared.calls.Call.TheVariants.{Enqueue, Dequeue, Add}
use Rattle.lin_events.specs.declared.calls.Reply.{Reply}
use Rattle.lin_events.specs.declared.calls.Reply.TheVariants as Replied
use Rattle.lin_events.specs.declared.calls.Val.TheVariants.{Nil, Item as Held}
use Rattle.lin_events.specs.declared.events.Event.{Event}
use Rattle.lin_events.specs.Operations.{IsFailed, IsOk}
use Rattle.lin_objects.specs.declared.kinds.Kind.TheVariants.{Fifo}
use Rattle.lin_objects.specs.declared.states.State.{State}
use Rattle.lin_objects.specs.declared.states.State.TheVariants.{Queue}
use Rattle.lin_objects.specs.Steps.{Step, start}
use Rattle.lin_order.specs.declared.placed.Placed.{Placed}
use Rattle.lin_order.specs.Linearizable.{IsLegalOrderBy, Runs}
use Rattle.lin_order.specs.Orders.{IsBefore, IsCall}
use Rattle.lin_order.specs.lemmas.Assembling.{one_reply}
use Rattle.lin_lists.specs.lemmas.Elements.{first_or_rest, nothing_in}
use Rattle.lin_order.specs.lemmas.OneEnd.{one_call}
use Rattle.lin_order.specs.lemmas.Running.{runs_split}
use Rattle.lin_certificates.specs.Adding.{Adds, IsAddedOnce, IsNotAddedBy}
use Rattle.lin_certificates.specs.QueueConflicts.{Takes, PutAt, TookAt, IsBehind, IsPassing, IsNotTakenBy}
use Rattle.lin_certificates.specs.lemmas.Conflicting.{across, parted}

-- the item is in the queue
abbrev InQueue : State → Item → Type 0
InQueue (Queue q) n = Contains q n
InQueue state n = ⊥

pub one_alone : (x n : Item) → Contains (x ∷ []) n → x ≡ n
one_alone x n there = elim (first_or_rest x [] n there) [
  | inl same ↦ same
  | inr none ↦ absurd (nothing_in n none)
]

same_item : (x n : Item) (reply : Reply) → reply ≡ Replied.Value (Held x) → Takes Dequeue reply n → x ≡ n
same_item x n reply is takes = subst (λ r. Takes Dequeue r n) is takes

-- where the queue doesn't have the item, it takes a put to do so
stays_out : (s next : State) (call : Call) (reply : Reply) (n : Item) → Step Fifo s call next reply → (InQueue s n → ⊥) → (Adds call n → ⊥) → (InQueue next n → ⊥) × (Takes call reply n → ⊥)
stays_out (Queue q) next (Enqueue x) reply n step out none = (
  λ has. elim (Contains-append_cases q (x ∷ []) n (subst (λ t. InQueue t n) step.0 has)) [
    | inl there ↦ out there
    | inr last ↦ none (one_alone x n last)
  ],
  λ takes. takes,
)
stays_out (Queue (x ∷ q)) next Dequeue reply n step out none = (
  λ has. out (Contains-append_right (x ∷ []) q n (subst (λ t. InQueue t n) step.0 has)),
  λ takes. out (subst (Contains (x ∷ q)) (same_item x n reply step.1 takes) (0, omega arith, refl)),
)
stays_out (Queue []) next Dequeue reply n step out none =
    (λ has. nothing_in n (subst (λ t. InQueue t n) step.0 has), λ takes. subst (λ r. Takes Dequeue r n) step.1 takes)
stays_out (Queue q) next call reply n step out none = absurd step
stays_out s next call reply n step out none = absurd step

-- what may come of a call where the item is in the queue, behind some and ahead of others
abbrev View : List Item → List Item → Item → Call → State → Reply → Type 0
View a b n call next reply = ((x : Item) × (call ≡ Enqueue x) × (next ≡ Queue (a ++ n ∷ (b ++ x ∷ []))))
    ⊎ (((call ≡ Dequeue) × (a ≡ []) × (reply ≡ Replied.Value (Held n)) × (next ≡ Queue b))
    ⊎ ((y : Item) × (more : List Item) × (call ≡ Dequeue) × (a ≡ y ∷ more) × (reply ≡ Replied.Value (Held y)) × (next ≡ Queue (more ++ n ∷ b))))

view : (a b : List Item) (n : Item) (call : Call) (next : State) (reply : Reply) → Step Fifo (Queue (a ++ n ∷ b)) call next reply → View a b n call next reply
view [] b n (Enqueue x) next reply step = inl (x, refl, step.0)
view (y ∷ a) b n (Enqueue x) next reply step = inl (x, refl, step.0 ∙ ap Queue (append_assoc (y ∷ a) (n ∷ b) (x ∷ [])))
view [] b n Dequeue next reply step = inr (inl (refl, refl, step.1, step.0))
view (y ∷ a) b n Dequeue next reply step = inr (inr (y, a, refl, refl, step.1, step.0))
view [] b n call next reply step = absurd step
view (y ∷ a) b n call next reply step = absurd step

put_step : (s next : State) (call : Call) (reply : Reply) (n : Item) → Step Fifo s call next reply → Adds call n → (q : List Item) × (s ≡ Queue q) × (next ≡ Queue (q ++ n ∷ []))
put_step (Queue q) next (Enqueue x) reply n step puts = (q, refl, step.0 ∙ ap (λ z. Queue (q ++ z ∷ [])) puts)
put_step (Queue q) next (Add x) reply n step puts = absurd step
put_step (Queue q) next call reply n step puts = absurd puts
put_step s next call reply n step puts = absurd step

pub takes_call : (call : Call) (reply : Reply) (n : Item) → Takes call reply n → call ≡ Dequeue
takes_call Dequeue reply n takes = refl
takes_call call reply n takes = absurd takes

takes_it : (call : Call) (reply : Reply) (n : Item) → call ≡ Dequeue → reply ≡ Replied.Value (Held n) → Takes call reply n
takes_it call reply n is gives = subst (λ c. Takes c reply n) (sym is) (subst (λ r. Takes Dequeue r n) (sym gives) refl)

-- what a dequeue found is neither ahead of the item nor the item
abbrev IsNotAhead : List Item → Item → Reply → Type 0
IsNotAhead a n reply = ((y : Item) → Contains a y → reply ≡ Replied.Value (Held y) → ⊥) × (reply ≡ Replied.Value (Held n) → ⊥)

module _ (h : List Event) where
  -- where no operation of an order puts in an item that the queue did not have, it never has it, and none takes it out
  never_had : (s t : State) (n : Item) (order : List Placed) → Runs (Step Fifo) h s order t → (InQueue s n → ⊥)
      → ((p : Placed) (call : Call) → Contains order p → IsCall h p.at call → Adds call n → ⊥)
      → (InQueue t n → ⊥) × ((p : Placed) (call : Call) → Contains order p → IsCall h p.at call → Takes call p.reply n → ⊥)
  never_had s t n [] run out none = (subst (λ u. InQueue u n → ⊥) run out, λ p call there is takes. nothing_in p there)
  never_had s t n (q ∷ order) run out none =
      let here : Adds run.0 n → ⊥ = none q run.0 (0, omega arith, refl) run.2 in
      let stays = stays_out s run.1 run.0 q.reply n run.3 out here in
      let more = never_had run.1 t n order run.4 stays.0 (λ r c in_rest. none r c (Contains-append_right (q ∷ []) order r in_rest)) in (
        more.0,
        λ p call there is takes. elim (first_or_rest q order p there) [
          | inl same ↦
              let at_q : IsCall h q.at call = subst (λ (x : Placed). IsCall h x.at call) (sym same) is in
              let one = one_call h q.at run.0 call run.2 at_q in
              stays.1 (subst (λ c. Takes c q.reply n) (sym one) (subst (λ (x : Placed). Takes call x.reply n) (sym same) takes))
          | inr rest ↦ more.1 p call rest is takes
        ],
      )

  -- an item that is in the queue once, and isn't put in again, is taken out once
  taken_once : (a b : List Item) (n : Item) (t : State) (before after : List Placed) (d : Placed) (c : Call)
      → Runs (Step Fifo) h (Queue (a ++ n ∷ b)) (before ++ d ∷ after) t → (Contains a n → ⊥) → (Contains b n → ⊥)
      → ((p : Placed) (call : Call) → Contains (before ++ d ∷ after) p → IsCall h p.at call → Adds call n → ⊥)
      → IsCall h d.at c → Takes c d.reply n → (p : Placed) (call : Call) → Contains after p → IsCall h p.at call → Takes call p.reply n → ⊥
  taken_once a b n t [] after d c run not_a not_b none is takes p call there at_p again =
      let takes_here : Takes run.0 d.reply n = subst (λ x. Takes x d.reply n) (one_call h d.at c run.0 is run.2) takes in
      elim (view a b n run.0 run.1 d.reply run.3) [
        | inl v ↦ subst (λ x. Takes x d.reply n) v.1 takes_here
        | inr w ↦ elim w [
          | inl v ↦
              let rest = never_had run.1 t n after run.4 (λ has. not_b (subst (λ s. InQueue s n) v.3 has))
              (λ r x in_rest. none r x (Contains-append_right (d ∷ []) after r in_rest)) in
              rest.1 p call there at_p again
          | inr v ↦
              let same : v.0 ≡ n = same_item v.0 n d.reply v.4 (subst (λ x. Takes x d.reply n) v.2 takes_here) in
              not_a (subst (Contains a) same (subst (λ l. Contains l v.0) (sym v.3) (0, omega arith, refl)))
        ]
      ]
  taken_once a b n t (q ∷ before) after d c run not_a not_b none is takes p call there at_p again =
      let none_later : (r : Placed) (x : Call) → Contains (before ++ d ∷ after) r → IsCall h r.at x → Adds x n → ⊥ =
      λ r x in_rest. none r x (Contains-append_right (q ∷ []) (before ++ d ∷ after) r in_rest) in
      elim (view a b n run.0 run.1 q.reply run.3) [
        | inl v ↦
            let not_last : Contains (b ++ v.0 ∷ []) n → ⊥ = λ has. elim (Contains-append_cases b (v.0 ∷ []) n has) [
              | inl early ↦ not_b early
              | inr last ↦ none q run.0 (0, omega arith, refl) run.2 (subst (λ x. Adds x n) (sym v.1) (one_alone v.0 n last))
            ] in
            taken_once a (b ++ v.0 ∷ []) n t before after d c (subst (λ s. Runs (Step Fifo) h s (before ++ d ∷ after) t) v.2 run.4) not_a not_last none_later is takes p call there at_p again
        | inr w ↦ elim w [
          | inl v ↦
              let rest = never_had run.1 t n (before ++ d ∷ after) run.4 (λ has. not_b (subst (λ s. InQueue s n) v.3 has)) none_later in
              rest.1 d c (Contains-append_right before (d ∷ after) d (0, omega arith, refl)) is takes
          | inr v ↦
              taken_once v.1 b n t before after d c (subst (λ s. Runs (Step Fifo) h s (before ++ d ∷ after) t) v.5 run.4)
              (λ has. not_a (subst (λ l. Contains l n) (sym v.3) (Contains-append_right (v.0 ∷ []) v.1 n has))) not_b none_later is takes p call there at_p again
        ]
      ]

  -- nothing passes an item that is in the queue and isn't taken out
  passed : (a b : List Item) (n : Item) (t : State) (before after : List Placed) (d : Placed)
      → Runs (Step Fifo) h (Queue (a ++ n ∷ b)) (before ++ d ∷ after) t → IsCall h d.at Dequeue → IsNotAhead a n d.reply
      → ((p : Placed) (call : Call) → Contains before p → IsCall h p.at call → Takes call p.reply n → ⊥) → ⊥
  passed a b n t [] after d run is away none = elim (view a b n run.0 run.1 d.reply run.3) [
    | inl v ↦ differ (one_call h d.at Dequeue run.0 is run.2 ∙ v.1)
    | inr w ↦ elim w [
      | inl v ↦ away.1 v.2
      | inr v ↦ away.0 v.0 (subst (λ l. Contains l v.0) (sym v.3) (0, omega arith, refl)) v.4
    ]
  ]
    where
      differ : {x : Item} → Dequeue ≡ Enqueue x → ⊥
      differ e = cc
  passed a b n t (q ∷ before) after d run is away none =
      let none_later : (r : Placed) (x : Call) → Contains before r → IsCall h r.at x → Takes x r.reply n → ⊥ = λ r x in_rest. none r x (Contains-append_right (q ∷ []) before r in_rest) in
      elim (view a b n run.0 run.1 q.reply run.3) [
        | inl v ↦ passed a (b ++ v.0 ∷ []) n t before after d (subst (λ s. Runs (Step Fifo) h s (before ++ d ∷ after) t) v.2 run.4) is away none_later
        | inr w ↦ elim w [
          | inl v ↦ none q run.0 (0, omega arith, refl) run.2 (takes_it run.0 q.reply n v.0 v.2)
          | inr v ↦
              passed v.1 b n t before after d (subst (λ s. Runs (Step Fifo) h s (before ++ d ∷ after) t) v.5 run.4) is
              (λ y has. away.0 y (subst (λ l. Contains l y) (sym v.3) (Contains-append_right (v.0 ∷ []) v.1 y has)), away.1) none_later
        ]
      ]

  -- operations that stand in the order and take the item out
  abbrev TakesIn : List Placed → Item → ℕ → Type 0
  TakesIn order n at = (p : Placed) × (call : Call) × Contains order p × IsCall h p.at call × Takes call p.reply n × (p.at ≡ at)

  module _ (order : List Placed) (legal : IsLegalOrderBy (start Fifo) (Step Fifo) h order) where
    takes_in : (n : Item) (at end : ℕ) → TookAt h at n end → TakesIn order n at
    takes_in n at end took = (record { at = at; reply = took.1 }, took.0, legal.order_of.each_ok at end took.1 tt took.3, took.2, took.4, refl)

    none_failed : (p : Placed) → Contains order p → IsFailed h p.at → ⊥
    none_failed p there = All-contains (λ (x : Placed). IsFailed h x.at → ⊥) order p legal.order_of.none_failed there

    begins_out : (n : Item) → InQueue (start Fifo) n → ⊥
    begins_out n has = nothing_in n has

    -- nothing is taken out that is never put in
    pub unput : (n : Item) (at end : ℕ) → IsNotAddedBy h n (length h) → TookAt h at n end → ⊥
    unput n at end never took =
        let p = takes_in n at end took in
        let all = never_had (start Fifo) legal.legal.0 n order legal.legal.1 (begins_out n)
        (λ q c there is puts. let within = slice_get_within h q.at _ is.2 in none_failed q there (never q.at c (omega (arith, within)) is puts)) in
        all.1 p.0 p.1 p.2 p.3 p.4

    -- round an operation that puts an item in
    module _ (n : Item) (before after : List Placed) (e : Placed) (call : Call) (split : order ≡ before ++ e ∷ after) (is : IsCall h e.at call) (puts : Adds call n) where
      run : (m : State) × Runs (Step Fifo) h (start Fifo) before m × Runs (Step Fifo) h m (e ∷ after) legal.legal.0
      run = runs_split (Step Fifo) h (start Fifo) legal.legal.0 before (e ∷ after) (subst (λ l. Runs (Step Fifo) h (start Fifo) l legal.legal.0) split legal.legal.1)

      once : AllPairs (λ x y. x.at ≢ y.at) (before ++ e ∷ after)
      once = subst (AllPairs (λ x y. x.at ≢ y.at)) split legal.order_of.once

      real_time : AllPairs (λ x y. IsBefore h y.at x.at → ⊥) (before ++ e ∷ after)
      real_time = subst (AllPairs (λ x y. IsBefore h y.at x.at → ⊥)) split legal.order_of.real_time

      early : (p : Placed) → Contains before p → Contains order p
      early p there = subst (λ l. Contains l p) (sym split) (Contains-append_left before (e ∷ after) p there)

      late : (p : Placed) → Contains after p → Contains order p
      late p there = subst (λ l. Contains l p) (sym split) (Contains-append_right before (e ∷ after) p (Contains-append_right (e ∷ []) after p there))

      here : Contains order e
      here = subst (λ l. Contains l e) (sym split) (Contains-append_right before (e ∷ after) e (0, omega arith, refl))

      first : Adds run.2.0 n
      first = subst (λ c. Adds c n) (one_call h e.at call run.2.0 is run.2.2) puts

      -- the queue before it
      held : (q : List Item) × (run.0 ≡ Queue q) × Runs (Step Fifo) h (Queue (q ++ n ∷ [])) after legal.legal.0
      held =
          let s = put_step run.0 run.2.1 run.2.0 e.reply n run.2.3 first in
          (s.0, s.1, subst (λ x. Runs (Step Fifo) h x after legal.legal.0) s.2 run.2.4)

      -- a dequeue that isn't ahead of it is behind it
      behind : (p : Placed) → Contains order p → IsCall h p.at Dequeue → (Contains before p → ⊥) → Contains after p
      behind p there at_p not_early = elim (Contains-append_cases before (e ∷ after) p (subst (λ l. Contains l p) split there)) [
        | inl wrong ↦ absurd (not_early wrong)
        | inr rest ↦ elim (first_or_rest e after p rest) [
          | inl same ↦
              let at_e : IsCall h e.at Dequeue = subst (λ (x : Placed). IsCall h x.at Dequeue) (sym same) at_p in
              absurd (subst (λ x. Adds x n) (one_call h e.at call Dequeue is at_e) puts)
          | inr later ↦ later
        ]
      ]

      module _ (end : ℕ) (ok : (reply : Reply) × IsOk h e.at end reply) where
        -- what is only put in after it returned isn't in the queue before it
        put_late : (x : Item) → IsNotAddedBy h x end → (p : Placed) (c : Call) → Contains before p → IsCall h p.at c → Adds c x → ⊥
        put_late x late_puts p c there at_p puts_x = elim (cases_lt end p.at) [
          | inl later ↦ across (λ y z. IsBefore h z.at y.at → ⊥) before (e ∷ after) p e real_time there (0, omega arith, refl) (end, ok.0, ok.1, later)
          | inr sooner ↦ none_failed p (early p there) (late_puts p.at c sooner at_p puts_x)
        ]

        not_held : (x : Item) → IsNotAddedBy h x end → (InQueue run.0 x → ⊥) × ((p : Placed) (c : Call) → Contains before p → IsCall h p.at c → Takes c p.reply x → ⊥)
        not_held x late_puts = never_had (start Fifo) run.0 x before run.1 (begins_out x) (put_late x late_puts)

        not_early : (at : ℕ) (reply : Reply) → IsCall h at Dequeue → IsBehind h at reply n end → Contains before (record { at = at; reply = reply }) → ⊥
        not_early at (Replied.Value Nil) is_d passing there =
            across (λ y z. IsBefore h z.at y.at → ⊥) before (e ∷ after) (record { at = at; reply = Replied.Value Nil }) e real_time there (0, omega arith, refl) (end, ok.0, ok.1, passing)
        not_early at (Replied.Value (Held x)) is_d passing there = let none = not_held x passing.1 in none.1 (record { at = at; reply = Replied.Value (Held x) }) Dequeue there is_d refl
        not_early at reply is_d passing there = absurd passing

        not_ahead : (at : ℕ) (reply : Reply) → IsBehind h at reply n end → IsNotAhead held.0 n reply
        not_ahead at (Replied.Value Nil) passing = (λ y has e. differ y e, λ e. differ n e)
          where
            differ : (y : Item) → Replied.Value Nil ≡ Replied.Value (Held y) → ⊥
            differ y e = cc
        not_ahead at (Replied.Value (Held x)) passing =
            (λ y has e. let none = not_held x passing.1 in none.0 (subst (λ s. InQueue s x) (sym held.1) (subst (Contains held.0) (sym (same y e)) has)), λ e. passing.0 (same n e))
          where
            same : (y : Item) → Replied.Value (Held x) ≡ Replied.Value (Held y) → x ≡ y
            same y e = cc
        not_ahead at reply passing = absurd passing

        -- so it doesn't pass the item, unless that is taken out ahead of it
        not_passed : (at : ℕ) (reply : Reply) → IsCall h at Dequeue → Contains order (record { at = at; reply = reply }) → IsBehind h at reply n end
            → ((sooner later : List Placed) → after ≡ sooner ++ (record { at = at; reply = reply }) ∷ later → (p : Placed) (c : Call) → Contains sooner p → IsCall h p.at c → Takes c p.reply n → ⊥) → ⊥
        not_passed at reply is_d there passing none =
            let d : Placed = record { at = at; reply = reply } in
            let parts = parted after d (behind d there is_d (not_early at reply is_d passing)) in
            passed held.0 [] n legal.legal.0 parts.0 parts.1 d (subst (λ l. Runs (Step Fifo) h (Queue (held.0 ++ n ∷ [])) l legal.legal.0) parts.2 held.2) is_d (not_ahead at reply passing)
            (none parts.0 parts.1 parts.2)

        -- what stands between isn't after it in real time
        not_after : (d : Placed) (sooner later : List Placed) → after ≡ sooner ++ d ∷ later → (p : Placed) → Contains sooner p → IsBefore h d.at p.at → ⊥
        not_after d sooner later whole p there =
            let apart = subst (AllPairs (λ (x y : Placed). IsBefore h y.at x.at → ⊥)) (ap (λ l. before ++ e ∷ l) whole ∙ sym (append_assoc before (e ∷ sooner) (d ∷ later))) real_time in
            across (λ y z. IsBefore h z.at y.at → ⊥) (before ++ e ∷ sooner) (d ∷ later) p d apart
            (Contains-append_right before (e ∷ sooner) p (Contains-append_right (e ∷ []) sooner p there)) (0, omega arith, refl)

      module _ (only : IsAddedOnce h e.at n) where
        -- nothing else puts it in
        none_before : (p : Placed) (c : Call) → Contains before p → IsCall h p.at c → Adds c n → ⊥
        none_before p c there at_p puts_too = elim (only p.at c at_p puts_too) [
          | inl same ↦ across (λ x y. x.at ≢ y.at) before (e ∷ after) p e once there (0, omega arith, refl) same
          | inr failed ↦ none_failed p (early p there) failed
        ]

        none_after : (p : Placed) (c : Call) → Contains after p → IsCall h p.at c → Adds c n → ⊥
        none_after p c there at_p puts_too = elim (only p.at c at_p puts_too) [
          | inl same ↦
              let apart = subst (AllPairs (λ (x y : Placed). x.at ≢ y.at)) (sym (append_assoc before (e ∷ []) after)) once in
              across (λ x y. x.at ≢ y.at) (before ++ e ∷ []) after e p apart (Contains-append_right before (e ∷ []) e (0, omega arith, refl)) there (sym same)
          | inr failed ↦ none_failed p (late p there) failed
        ]

        none_held : (InQueue run.0 n → ⊥) × ((p : Placed) (c : Call) → Contains before p → IsCall h p.at c → Takes c p.reply n → ⊥)
        none_held = never_had (start Fifo) run.0 n before run.1 (begins_out n) none_before

        in_turn : (p r : Placed) (c d : Call) → (first_ones later : List Placed) → after ≡ first_ones ++ p ∷ later → IsCall h p.at c → Takes c p.reply n → Contains later r → IsCall h r.at d → Takes d r.reply n → ⊥
        in_turn p r c d first_ones later parts at_p takes there at_r again =
            taken_once held.0 [] n legal.legal.0 first_ones later p c (subst (λ l. Runs (Step Fifo) h (Queue (held.0 ++ n ∷ [])) l legal.legal.0) parts held.2)
            (λ has. none_held.0 (subst (λ s. InQueue s n) (sym held.1) has)) (λ has. nothing_in n has)
            (λ x y in_x. none_after x y (subst (λ l. Contains l x) (sym parts) in_x)) at_p takes r d there at_r again

        two : (p r : Placed) (c d : Call) → Contains after p → Contains after r → IsCall h p.at c → IsCall h r.at d → Takes c p.reply n → Takes d r.reply n → p.at ≢ r.at → ⊥
        two p r c d in_p in_r at_p at_r takes again differ =
            let parts = parted after p in_p in
            elim (Contains-append_cases parts.0 (p ∷ parts.1) r (subst (λ l. Contains l r) parts.2 in_r)) [
              | inl sooner ↦
                  let more = parted parts.0 r sooner in
                  let whole : after ≡ more.0 ++ r ∷ (more.1 ++ p ∷ parts.1) = parts.2 ∙ ap (λ l. l ++ p ∷ parts.1) more.2 ∙ append_assoc more.0 (r ∷ more.1) (p ∷ parts.1) in
                  in_turn r p d c more.0 (more.1 ++ p ∷ parts.1) whole at_r again (Contains-append_right more.1 (p ∷ parts.1) p (0, omega arith, refl)) at_p takes
              | inr rest ↦ elim (first_or_rest p parts.1 r rest) [
                | inl same ↦ differ (ap (λ (x : Placed). x.at) same)
                | inr later ↦ in_turn p r c d parts.0 parts.1 parts.2 at_p takes later at_r again
              ]
            ]

        taken_after : (p : Placed) (c : Call) → Contains order p → IsCall h p.at c → Takes c p.reply n → Contains after p
        taken_after p c there at_p takes =
            behind p there (subst (IsCall h p.at) (takes_call c p.reply n takes) at_p) (λ wrong. none_held.1 p c wrong at_p takes)

        taken_twice : (at other : ℕ) → TakesIn order n at → TakesIn order n other → at ≢ other → ⊥
        taken_twice at other p r differ =
            two p.0 r.0 p.1 r.1 (taken_after p.0 p.1 p.2 p.3 p.4) (taken_after r.0 r.1 r.2 r.3 r.4) p.3 r.3 p.4 r.4 (λ same. differ (sym p.5 ∙ same ∙ r.5))

    -- an item that is put in once isn't taken out twice
    pub twice : (n : Item) (put at end other until : ℕ) → IsAddedOnce h put n → TookAt h at n end → TookAt h other n until → at ≢ other → ⊥
    twice n put at end other until only one two_of differ =
        let p = takes_in n at end one in
        let r = takes_in n other until two_of in
        let all = never_had (start Fifo) legal.legal.0 n order legal.legal.1 (begins_out n)
        (λ e c there at_e puts. elim (only e.at c at_e puts) [
          | inl same ↦
              let parts = parted order e there in
              taken_twice n parts.0 parts.1 e c parts.2 at_e puts (subst (λ x. IsAddedOnce h x n) (sym same) only) at other p r differ
          | inr failed ↦ none_failed e there failed
        ]) in
        all.1 p.0 p.1 p.2 p.3 p.4

    -- what was put in later isn't taken out before it
    pub passed_later : (n : Item) (put end at until later close : ℕ) → IsAddedOnce h put n → PutAt h put n end → IsPassing h at n end until → TookAt h later n close → until < later → ⊥
    passed_later n put end at until later close only shown passing took before_it =
        let e : Placed = record { at = put; reply = shown.1 } in
        let parts = parted order e (legal.order_of.each_ok put end shown.1 tt shown.3) in
        let d : Placed = record { at = at; reply = passing.0 } in
        let l = takes_in n later close took in
        not_passed n parts.0 parts.1 e shown.0 parts.2 shown.2 shown.4 end (shown.1, shown.3) at passing.0 passing.1 (legal.order_of.each_ok at until passing.0 tt passing.2) passing.3
        (λ sooner rest whole p c there at_p takes.
        let in_after : Contains parts.1 p = subst (λ o. Contains o p) (sym whole) (Contains-append_left sooner (d ∷ rest) p there) in
        let in_order = late n parts.0 parts.1 e shown.0 parts.2 shown.2 shown.4 p in_after in
        let again = λ (differ : p.at ≢ later). taken_twice n parts.0 parts.1 e shown.0 parts.2 shown.2 shown.4 only p.at later (p, c, in_order, at_p, takes, refl) l differ in
        elim (cases_lt p.at later) [
          | inl less ↦ again (λ same. omega (arith, less, same))
          | inr more ↦ elim (cases_lt later p.at) [
            | inl less ↦ again (λ same. omega (arith, less, same))
            | inr equal ↦
                not_after n parts.0 parts.1 e shown.0 parts.2 shown.2 shown.4 end (shown.1, shown.3) d sooner rest whole p there
                (until, passing.0, passing.2, omega (arith, before_it, more, equal))
          ]
        ])

    -- nor where nothing takes it out ahead
    pub passed_over : (n : Item) (put end at until : ℕ) → PutAt h put n end → IsPassing h at n end until → IsNotTakenBy h n until → ⊥
    passed_over n put end at until shown passing untaken =
        let e : Placed = record { at = put; reply = shown.1 } in
        let parts = parted order e (legal.order_of.each_ok put end shown.1 tt shown.3) in
        let d : Placed = record { at = at; reply = passing.0 } in
        not_passed n parts.0 parts.1 e shown.0 parts.2 shown.2 shown.4 end (shown.1, shown.3) at passing.0 passing.1 (legal.order_of.each_ok at until passing.0 tt passing.2) passing.3
        (λ sooner rest whole p c there at_p takes.
        let in_after : Contains parts.1 p = subst (λ o. Contains o p) (sym whole) (Contains-append_left sooner (d ∷ rest) p there) in
        let in_order = late n parts.0 parts.1 e shown.0 parts.2 shown.2 shown.4 p in_after in
        let call = takes_call c p.reply n takes in
        elim (cases_lt until p.at) [
          | inl after_it ↦
              not_after n parts.0 parts.1 e shown.0 parts.2 shown.2 shown.4 end (shown.1, shown.3) d sooner rest whole p there (until, passing.0, passing.2, after_it)
          | inr sooner_one ↦ elim (untaken p.at sooner_one (subst (IsCall h p.at) call at_p)) [
            | inl failed ↦ none_failed p in_order failed
            | inr known ↦
                let same = one_reply order legal.order_of.once p (record { at = p.at; reply = known.1 }) in_order (legal.order_of.each_ok p.at known.0 known.1 tt known.2) refl in
                known.3 (subst (λ r. Takes Dequeue r n) same (subst (λ x. Takes x p.reply n) call takes))
          ]
        ])
