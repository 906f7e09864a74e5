-- Elements that go into debt, dominated debtors, and debts that are paid.
use Rattle.std.proofs.Common.{◌≡◌, ◌≢◌, ℕ, ◌<◌, ◌≤◌, ◌+◌, List, [], ◌∷◌, length, Contains, AllPairs, ◌⊎◌, inl, inr, refl, sym, ap, subst, ◌∙◌, arith, get_or}
use Rattle.std.proofs.lemmas.Bool.{cases_eq}
use Rattle.std.proofs.lemmas.Option.{slice_get-get_or}
use Rattle.std.proofs.lemmas.List.Elements.{All-contains, Contains-append_left, Contains-push, Contains-push_cases, Contains-get_or}
use Rattle.std.proofs.lemmas.List.Quantifiers.{all_pairs_push}
use Rattle.lin_events.specs.declared.events.Event.{Event}
use Rattle.lin_events.specs.declared.calls.Call.TheVariants.{Dequeue}
use Rattle.lin_events.specs.declared.calls.Reply.TheVariants.{Value}
use Rattle.lin_events.specs.declared.calls.Val.TheVariants.{Nil}
use Rattle.lin_order.specs.declared.placed.Placed.{Placed}
use Rattle.lin_order.specs.Orders.{Places}
use Rattle.lin_queues.specs.Debts.{Debtor, IsWhole, Takes, IsOkWithin, IsOpenDequeue, Owes, Follows, Dominates}
use Rattle.lin_queues.specs.Laws.{SinkLaw, DominationLaw, AreDue, PaymentLaw, SpareLaw}
use Rattle.lin_queues.proofs.DebtLists.{stands, one_there, without, pigeons}
use Rattle.lin_queues.proofs.DebtsTaking.{one_element, call_of_got}
use Rattle.lin_queues.proofs.Events.{opened}
use Rattle.lin_queues.proofs.Stepping.{takes_as, idle_nil}

abbrev Apart : ℕ × ℕ → ℕ × ℕ → Type 0
Apart p q = p.0 ≢ q.0

pub sink_lem : SinkLaw
sink_lem whole order n e t d next there owes m follows = record {
  each = λ f placed ok. elim (follows.each f placed ok) [
    | inl inside ↦ elim (cases_eq f e) [
      | inl same ↦ inr (inl (t, subst (λ k. Contains next.debts (k, t)) (sym same) last))
      | inr other ↦ inl ((m.inside f).1 (inside, other))
    ]
    | inr rest ↦ elim rest [
      | inl owed ↦ inr (inl (owed.0, subst (λ l. Contains l (f, owed.0)) (sym m.debts) (Contains-append_left d.debts ((e, t) ∷ []) (f, owed.0) owed.1)))
      | inr taken ↦ inr (inr taken)
    ]
  ];
  inside_ok = λ f inside. follows.inside_ok f ((m.inside f).0 inside).0;
  inside_left = λ f z inside ok takes. follows.inside_left f z ((m.inside f).0 inside).0 ok takes;
  inside_free = λ f s inside owed. elim (cases f s owed) [
    | inl old ↦ follows.inside_free f s ((m.inside f).0 inside).0 old
    | inr new ↦ ((m.inside f).0 inside).1 (sym (ap (λ (p : ℕ × ℕ). p.0) new))
  ];
  debts_once = subst (AllPairs Apart) (sym m.debts) (all_pairs_push Apart d.debts (e, t) follows.debts_once (λ k p inside same.
      follows.inside_free e (get_or d.debts k p).1 there (subst (λ j. Contains d.debts (j, (get_or d.debts k p).1)) same (Contains-get_or d.debts k p inside))));
  debts_ok = λ f s owed. elim (cases f s owed) [
    | inl old ↦ follows.debts_ok f s old
    | inr new ↦ subst (IsOkWithin whole n) (ap (λ (p : ℕ × ℕ). p.0) new) (follows.inside_ok e there).0
  ];
  debts_owed = λ f s owed. elim (cases f s owed) [
    | inl old ↦ follows.debts_owed f s old
    | inr new ↦ subst (λ (p : ℕ × ℕ). Owes whole order n p.0 p.1) new owes
  ];
  early_taken = λ f early. follows.early_taken f ((m.early f).0 early);
  early_each = λ f z not_ok ok takes. (m.early f).1 (follows.early_each f z not_ok ok takes);
  found_nothing = λ y below placed. elim (follows.found_nothing y below placed) [
    | inl less ↦ inl (subst (λ k. y < k) (sym m.emptied) less)
    | inr all ↦ inr (λ f inside. all f ((m.inside f).0 inside).0)
  ];
  returned_nothing = λ y ok placed. subst (λ k. y < k) (sym m.emptied) (follows.returned_nothing y ok placed);
}
  where
    last : Contains next.debts (e, t)
    last = subst (λ l. Contains l (e, t)) (sym m.debts) (Contains-push d.debts (e, t))

    cases : (f s : ℕ) → Contains next.debts (f, s) → Contains d.debts (f, s) ⊎ (◌≡◌ {A = ℕ × ℕ} (e, t) (f, s))
    cases f s owed = Contains-push_cases d.debts (e, t) (f, s) (subst (λ l. Contains l (f, s)) m.debts owed)

-- as many debts of the same elements are of different elements
once_too : (c d : Debtor) → Dominates c d → AllPairs Apart d.debts → AllPairs Apart c.debts
once_too c d m once i j p before within same =
    let last = slice_get-get_or c.debts j p within in
    let first = slice_get-get_or c.debts i p (omega arith) in
    let less = without c.debts j (get_or c.debts j p) last in
    let few = pigeons (λ (q : ℕ × ℕ) (r : ℕ × ℕ). q.0 ≡ r.0) Apart (λ q r s q_is r_is differ. differ (q_is ∙ sym r_is)) d.debts less.0 once (λ q there.
    let owes = m.owes q.0 q.1 there in
    let at = stands c.debts (q.0, owes.0) owes.2 in
    elim (cases_eq at.0 j) [
      | inl here ↦
          let as_last = ap (λ (r : ℕ × ℕ). r.0) (one_there c.debts at.0 j (q.0, owes.0) (get_or c.debts j p) here at.1 last) in
          (get_or c.debts i p, less.2 i (get_or c.debts i p) (λ e. omega (arith, e)) first, as_last ∙ sym same)
      | inr other ↦ ((q.0, owes.0), less.2 at.0 (q.0, owes.0) other at.1, refl)
    ]) in
    let many = m.many in
    omega (arith, few, less.1, many)

pub domination_lem : DominationLaw
domination_lem whole order n c d m follows = record {
  each = λ f placed ok. elim (follows.each f placed ok) [
    | inl inside ↦ inl ((m.inside f).1 inside)
    | inr rest ↦ elim rest [
      | inl owed ↦ let later = m.owes f owed.0 owed.1 in inr (inl (later.0, later.2))
      | inr taken ↦ inr (inr taken)
    ]
  ];
  inside_ok = λ f inside. follows.inside_ok f ((m.inside f).0 inside);
  inside_left = λ f z inside ok takes. follows.inside_left f z ((m.inside f).0 inside) ok takes;
  inside_free = λ f s inside owed. let was = m.owed f s owed in follows.inside_free f was.0 ((m.inside f).0 inside) was.2;
  debts_once = once_too c d m follows.debts_once;
  debts_ok = λ f s owed. let was = m.owed f s owed in follows.debts_ok f was.0 was.2;
  debts_owed = λ f s owed.
      let was = m.owed f s owed in
      let o = follows.debts_owed f was.0 was.2 in
      (o.0, o.1, omega (arith, o.2, was.1), o.3, o.4);
  early_taken = λ f early. follows.early_taken f ((m.early f).0 early);
  early_each = λ f z not_ok ok takes. (m.early f).1 (follows.early_each f z not_ok ok takes);
  found_nothing = λ y below placed. elim (follows.found_nothing y below placed) [
    | inl less ↦ inl (let later = m.emptied in omega (arith, less, later))
    | inr all ↦ inr (λ f inside. all f ((m.inside f).0 inside))
  ];
  returned_nothing = λ y ok placed. let less = follows.returned_nothing y ok placed in let later = m.emptied in omega (arith, less, later);
}

module _ (h whole : List Event) (order : List Placed) (d : Debtor) (t : ℕ) (owed : List (ℕ × ℕ)) (dequeues : List ℕ) (is : IsWhole h whole order) (follows : Follows whole order (length h) d) (due : AreDue h d t owed dequeues) where
  -- each debt has a dequeue that pays it
  payer : (p : ℕ × ℕ) → Contains owed p → (z : ℕ) × Contains dequeues z × Takes order z p.0
  payer p there =
      let o = follows.debts_owed p.0 p.1 (All-contains (Contains d.debts) owed p due.debts there) in
      let time : p.1 ≤ t = All-contains (λ q. q.1 ≤ t) owed p due.times there in
      let is_open = opened h whole order is o.0 _ Dequeue (takes_as whole order is.legal.order_of o.0 p.0 o.1) o.3 o.4 (call_of_got whole order is.legal o.1.taken o.0 _ o.1.dequeued) in
      (o.0, due.complete o.0 is_open (omega (arith, o.2)), o.1)

  pays_one : (p q : ℕ × ℕ) (z : ℕ) → Takes order z p.0 → Takes order z q.0 → Apart p q → ⊥
  pays_one p q z takes too differ = differ (one_element whole order is.legal.order_of z p.0 q.0 takes too)

  pub payment : length owed ≤ length dequeues
  payment = pigeons (λ (p : ℕ × ℕ) (z : ℕ). Takes order z p.0) Apart pays_one owed dequeues due.once payer

  pub spare : (found : ℕ) → IsOpenDequeue h found → found < t → Places order found (Value Nil) → length owed + 1 ≤ length dequeues
  spare found is_open below none =
      let at = stands dequeues found (due.complete found is_open below) in
      let less = without dequeues at.0 found at.1 in
      let few = pigeons (λ (p : ℕ × ℕ) (z : ℕ). Takes order z p.0) Apart pays_one owed less.0 due.once (λ p there.
      let z = payer p there in
      let at_z = stands dequeues z.0 z.1 in (
        z.0,
        less.2 at_z.0 z.0 (λ same. idle_nil whole order is.legal.order_of found none p.0
            (subst (λ k. Takes order k p.0) (one_there dequeues at_z.0 at.0 z.0 found same at_z.1 at.1) z.2)) at_z.1,
        z.2,
      )) in
      omega (arith, few, less.1)

pub payment_lem : PaymentLaw
payment_lem h whole order d t owed dequeues is follows due = payment h whole order d t owed dequeues is follows due

pub spare_lem : SpareLaw
spare_lem h whole order d t owed dequeues found is follows due is_open below none = spare h whole order d t owed dequeues is follows due found is_open below none
