-- Which dequeue takes which element in a legal order of a fifo queue: first in, first out.
use Rattle.std.proofs.Common.{◌≡◌, ℕ, ◌<◌, ◌≤◌, zero, suc, true, List, [], ◌∷◌, length, take, get_or, inl, inr, refl, sym, ap, subst, ◌∙◌, arith, Some, slice_get}
use Rattle.std.proofs.lemmas.Bool.{cases_order}
use Rattle.std.proofs.lemmas.Option.{get_or_from_slice_get}
use Rattle.lin_events.specs.declared.items.Item.{Item}
use Rattle.lin_events.specs.declared.events.Event.{Event}
use Rattle.lin_events.specs.declared.calls.Call.{Call}
use Rattle.lin_events.specs.declared.calls.Call.TheVariants.{Enqueue, Dequeue}
use Rattle.lin_events.specs.declared.calls.Reply.{Reply}
use Rattle.lin_events.specs.declared.calls.Reply.TheVariants.{Done, Value, Members}
use Rattle.lin_events.specs.declared.calls.Val.{Val}
use Rattle.lin_events.specs.declared.calls.Val.TheVariants.{Nil, Item as Held}
use Rattle.lin_objects.specs.declared.kinds.Kind.TheVariants.{Fifo}
use Rattle.lin_objects.specs.declared.states.State.{State}
use Rattle.lin_order.specs.declared.placed.Placed.{Placed}
use Rattle.lin_order.specs.Orders.{IsBefore, IsCall, IsOrder}
use Rattle.lin_order.specs.Linearizable.{IsLegalOrderAs}
use Rattle.lin_lists.specs.lemmas.Lists.{get_inside, get_taken}
use Rattle.lin_queues.specs.Debts.{puts, gets, enqueues, dequeues, Stands, Takes}
use Rattle.lin_queues.proofs.DebtLists.{one_there}
use Rattle.lin_queues.proofs.Ranks.{counted, one_rank, ranked}
use Rattle.lin_queues.proofs.Queue.{IsStep, puts_one, gets_none, gets_one, behind}

module _ {q : List Item} {next : State} where
  pub put_call : (call : Call) (reply : Reply) → IsStep q next call reply → reply ≡ Done → (item : Item) × (call ≡ Enqueue item)
  put_call _ _ (puts_one item e) said = (item, refl)
  put_call _ _ (gets_none none e) said = cc
  put_call _ _ (gets_one item rest full e) said = cc

  pub got_call : (call : Call) (reply : Reply) (v : Val) → IsStep q next call reply → reply ≡ Value v → call ≡ Dequeue
  got_call _ _ v (puts_one item e) said = cc
  got_call _ _ v (gets_none none e) said = refl
  got_call _ _ v (gets_one item rest full e) said = refl

  pub got_item : (call : Call) (reply : Reply) (item : Item) → IsStep q next call reply → reply ≡ Value (Held item) → (rest : List Item) × (q ≡ item ∷ rest)
  got_item _ _ item (puts_one other e) said = cc
  got_item _ _ item (gets_none none e) said = cc
  got_item _ _ item (gets_one other rest full e) said = let same : other ≡ item = cc in (rest, full ∙ ap (λ x. x ∷ rest) same)

  pub got_none : (call : Call) (reply : Reply) → IsStep q next call reply → reply ≡ Value Nil → q ≡ []
  got_none _ _ (puts_one item e) said = cc
  got_none _ _ (gets_none none e) said = none
  got_none _ _ (gets_one item rest full e) said = cc

gets_item : (r : Reply) → gets r ≡ true → (item : Item) × (r ≡ Value (Held item))
gets_item Done yes' = cc
gets_item (Value Nil) yes' = cc
gets_item (Value (Held item)) yes' = (item, refl)
gets_item (Members s) yes' = cc

pub at_same : {p q : Placed} → p ≡ q → p.at ≡ q.at
at_same e = ap (λ (p : Placed). p.at) e

pub reply_same : {p q : Placed} → p ≡ q → p.reply ≡ q.reply
reply_same e = ap (λ (p : Placed). p.reply) e

module _ (h : List Event) (o : List Placed) (is : IsOrder h o) where
  -- an operation has one place
  pub one_place : (i j a b : ℕ) (r s : Reply) → Stands o i a r → Stands o j b s → a ≡ b → i ≡ j
  one_place i j a b r s at_i at_j same = elim (cases_order i j) [
    | inl here ↦ here
    | inr differ ↦ elim differ [
      | inl below ↦ absurd (is.once i j (record { at = a; reply = r }) below (get_inside o j _ at_j)
          (at_same (get_or_from_slice_get o i _ (record { at = a; reply = r }) at_i) ∙ same ∙ sym (at_same (get_or_from_slice_get o j _ (record { at = a; reply = r }) at_j))))
      | inr above ↦ absurd (is.once j i (record { at = a; reply = r }) above (get_inside o i _ at_i)
          (at_same (get_or_from_slice_get o j _ (record { at = a; reply = r }) at_j) ∙ sym same ∙ sym (at_same (get_or_from_slice_get o i _ (record { at = a; reply = r }) at_i))))
    ]
  ]

  -- and one reply
  pub one_said : (i j a : ℕ) (r s : Reply) → Stands o i a r → Stands o j a s → r ≡ s
  one_said i j a r s at_i at_j = reply_same (one_there o i j _ _ (one_place i j a a r s at_i at_j refl) at_i at_j)

  -- real time
  pub stands_before : (i j a b : ℕ) (r s : Reply) → Stands o i a r → Stands o j b s → IsBefore h a b → i < j
  stands_before i j a b r s at_i at_j before = elim (cases_order i j) [
    | inl here ↦
        let same : a ≡ b = at_same (one_there o i j _ _ here at_i at_j) in
        let later : a < before.0 = before.2.1.later in
        absurd (omega (arith, before.3))
    | inr differ ↦ elim differ [
      | inl below ↦ below
      | inr above ↦ absurd (is.real_time j i (record { at = a; reply = r }) above (get_inside o i _ at_i)
          (subst (λ (p : Placed). IsBefore h p.at (get_or o j (record { at = a; reply = r })).at) (sym (get_or_from_slice_get o i _ (record { at = a; reply = r }) at_i))
          (subst (λ (p : Placed). IsBefore h a p.at) (sym (get_or_from_slice_get o j _ (record { at = a; reply = r }) at_j)) before)))
    ]
  ]

  -- each element is taken at most once
  pub one_dequeue : (x z e : ℕ) → Takes o x e → Takes o z e → x ≡ z
  one_dequeue x z e s t =
      let place = one_place s.put t.put e e Done Done s.enqueued t.enqueued refl in
      let rank : dequeues (take s.taken o) ≡ dequeues (take t.taken o) = sym s.turn ∙ ap (λ k. enqueues (take k o)) place ∙ t.turn in
      let here = one_rank (λ (p : Placed). gets p.reply) o s.taken t.taken _ _ s.dequeued t.dequeued refl refl rank in
      at_same (one_there o s.taken t.taken _ _ here s.dequeued t.dequeued)

  -- and each dequeue takes at most one
  pub one_element : (x e f : ℕ) → Takes o x e → Takes o x f → e ≡ f
  one_element x e f s t =
      let place = one_place s.taken t.taken x x _ _ s.dequeued t.dequeued refl in
      let rank : enqueues (take s.put o) ≡ enqueues (take t.put o) = s.turn ∙ ap (λ k. dequeues (take k o)) place ∙ sym t.turn in
      let here = one_rank (λ (p : Placed). puts p.reply) o s.put t.put _ _ s.enqueued t.enqueued refl refl rank in
      at_same (one_there o s.put t.put _ _ here s.enqueued t.enqueued)

  -- what is put with fewer ahead than were taken up to a place was taken up to there
  pub taken_up_to : (i e j : ℕ) → Stands o i e Done → enqueues (take i o) < dequeues (take j o) → (z : ℕ) × (t : Takes o z e) × (t.taken < j)
  taken_up_to i e j there few =
      let r = ranked (λ (p : Placed). gets p.reply) o j (enqueues (take i o)) few in
      let said = gets_item r.1.reply r.4 in
      (r.1.at, record { item = said.0; put = i; taken = r.0; enqueued = there; dequeued = r.3 ∙ ap (λ x. Some (record { at = r.1.at; reply = x })) said.1; turn = sym r.5 }, r.2)

  -- first in, first out
  pub taken_ahead : (i f x e : ℕ) (t : Takes o x e) → Stands o i f Done → i < t.put → (z : ℕ) × (s : Takes o z f) × (s.taken < t.taken)
  taken_ahead i f x e t there before =
      let few = counted (λ (p : Placed). puts p.reply) o i t.put _ there refl before in
      taken_up_to i f t.taken there (omega (arith, few, t.turn))

module _ (h : List Event) (o : List Placed) (legal : IsLegalOrderAs Fifo h o) where
  pub call_of_put : (i e : ℕ) → Stands o i e Done → (item : Item) × IsCall h e (Enqueue item)
  call_of_put i e there =
      let b = behind h o legal i _ there in
      let c = put_call b.call Done b.steps refl in
      (c.0, subst (IsCall h e) c.1 b.is_call)

  pub call_of_got : (i x : ℕ) (v : Val) → Stands o i x (Value v) → IsCall h x Dequeue
  call_of_got i x v there =
      let b = behind h o legal i _ there in
      subst (IsCall h x) (got_call b.call (Value v) v b.steps refl) b.is_call

  -- a dequeue that has an item takes an element ahead of it, an enqueue of that item
  pub takes_one : (j x : ℕ) (item : Item) → Stands o j x (Value (Held item)) → (e : ℕ) × (t : Takes o x e) × IsCall h e (Enqueue item) × (t.put < j) × (t.taken ≡ j)
  takes_one j x item there =
      let b = behind h o legal j _ there in
      let has = got_item b.call (Value (Held item)) item b.steps refl in
      let nth = b.holds.items 0 item (ap (λ l. slice_get l 0) has.1) in
      let early = get_taken j o nth.0 _ nth.2 in
      let short = ap enqueues (take-earlier nth.0 j o (omega (arith, early))) in
      (nth.1, record { item = item; put = nth.0; taken = j; enqueued = early.1; dequeued = there; turn = omega (arith, short, nth.3) }, nth.4, early.0, refl)
    where
      take-earlier : {A : Type 0} (i j : ℕ) (xs : List A) → i ≤ j → take i (take j xs) ≡ take i xs
      take-earlier zero j xs below = refl
      take-earlier (suc i) zero xs below = absurd (omega arith)
      take-earlier (suc i) (suc j) [] below = refl
      take-earlier (suc i) (suc j) (x ∷ xs) below = ap (λ l. x ∷ l) (take-earlier i j xs (omega arith))

  -- ahead of a dequeue that found nothing all was taken
  pub taken_ahead_of_none : (i f j y : ℕ) → Stands o i f Done → Stands o j y (Value Nil) → i < j → (z : ℕ) × (s : Takes o z f) × (s.taken < j)
  taken_ahead_of_none i f j y put_there none_there before =
      let b = behind h o legal j _ none_there in
      let empty = ap length (got_none b.call (Value Nil) b.steps refl) in
      let zero_long : length b.q ≡ 0 = empty in
      let few = counted (λ (p : Placed). puts p.reply) o i j _ put_there refl before in
      taken_up_to h o legal.order_of i f j put_there (omega (arith, few, zero_long, b.holds.many))
