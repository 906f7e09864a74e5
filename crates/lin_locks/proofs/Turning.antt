-- What is owed and how it is balanced after a completion.
use Rattle.std.proofs.Common.{◌≡◌, ◌≢◌, ◌<◌, ◌≤◌, ◌+◌, ℕ, Bool, true, false, not, List, [], ◌∷◌, ◌++◌, All, Some, length, slice_get, inl, inr, sym, ap, subst, ◌∙◌, arith}
use Rattle.std.proofs.lemmas.List.Elements.{All-contains}
use Rattle.std.proofs.lemmas.List.{length_push}
use Rattle.lin_lists.specs.lemmas.Elements.{last_of}
use Rattle.lin_lists.specs.lemmas.Lists.{get_cases, get_last}
use Rattle.lin_events.specs.declared.calls.Call.{Call}
use Rattle.lin_events.specs.declared.events.Event.{Event}
use Rattle.lin_events.specs.lemmas.OneMore.{one_call}
use Rattle.lin_events.specs.Operations.{IsOperation}
use Rattle.lin_certificates.specs.Numbers.{AtLeast}
use Rattle.lin_locks.specs.declared.sides.Debt.{Debt}
use Rattle.lin_locks.specs.inner.Debts.{AreAll, AreOwed, AreRising, Config, IsBalanced, IsOfLock, IsPaid, IsPlacedOpen, agrees, lock_call}
use Rattle.lin_locks.proofs.Lists.{all_map, beside_one, least_fits, least_map, least_of_list, least_without, there_in, without}
use Rattle.lin_locks.proofs.Passing.{AreLess, AreSame, IsLess}
use Rattle.lin_locks.proofs.Placing.{agrees_same, other_call}

-- the operations that are placed early enough to pay a debt
abbrev IsEarly : List Event → Config → Call → ℕ → ℕ → Type 0
IsEarly h c call until at = IsPlacedOpen h c.1 call at × (at < until)

module _ (h after : List Event) where
  -- where the same is placed, the same is owed
  pub owed_same : AreSame h after → (call : Call) (debts : List Debt) → AreOwed h call debts → AreOwed after call debts
  owed_same each call debts owed c of_lock k debt there =
      let was = each c of_lock in
      least_map (k + 1) (IsEarly h was.0 call debt.until) (IsEarly after c call debt.until) (λ at early. (was.2.from call at early.0, early.1)) (owed was.0 was.1 k debt there)

  pub balanced_same : AreSame h after → (b : Bool) (owed others : ℕ) (lock : Bool) → ((c : Config) → IsOfLock h c → IsBalanced h b owed others lock c) → (c : Config) → IsOfLock after c → IsBalanced after b owed others lock c
  balanced_same each b owed others lock balanced c of_lock =
      let was = each c of_lock in
      let is = balanced was.0 was.1 in
      record {
        held = is.held;
        state = was.2.state ∙ is.state;
        own = is.own;
        other = is.other;
        own_all = all_map {P = IsPlacedOpen h was.0.1 (lock_call b)} {Q = IsPlacedOpen after c.1 (lock_call b)} is.own is.own_all (was.2.from (lock_call b)) (was.2.to (lock_call b));
        other_all = all_map {P = IsPlacedOpen h was.0.1 (lock_call (not b))} {Q = IsPlacedOpen after c.1 (lock_call (not b))} is.other is.other_all (was.2.from (lock_call (not b))) (was.2.to (lock_call (not b)));
        sum = is.sum;
      }

  -- one operation of the one call returned
  module _ (i : ℕ) (one : Bool) (each : AreLess h after i (lock_call one)) where
    -- it isn't of the other call
    beside : (c d : Config) → IsLess h after i (lock_call one) c d → (at : ℕ) → IsPlacedOpen h d.1 (lock_call (not one)) at → at ≢ i
    beside c d less at was same =
        let it = less.here in
        other_call one (one_call h i it.0 was.0 it.1 was.1 (lock_call one) (lock_call (not one)) it.3.begins (subst (λ k. IsOperation h k was.0 was.1 (lock_call (not one))) same was.3.begins))

    -- it pays the first debt from behind its invocation
    pub owed_paid : (old : List Debt) (debt : Debt) (new : List Debt) → AreRising old → IsPaid i old debt new → AreOwed h (lock_call one) old → AreOwed after (lock_call one) new
    owed_paid old debt new rising paid owed c of_lock k due there =
        let was = each c of_lock in
        let less = was.2 in
        elim (beside_one paid.before debt paid.behind k due (subst (λ l. slice_get l k ≡ Some due) paid.is there)) [
          | inl early ↦
              let until : due.until ≤ i = All-contains (λ d. d.until ≤ i) paid.before due (paid.early rising) early.0 in
              least_map (k + 1) (IsEarly h was.0 (lock_call one) due.until) (IsEarly after c (lock_call one) due.until)
              (λ at is. let sooner = is.1 in (less.from (lock_call one) at is.0 (λ same. omega (arith, sooner, until, same)), is.1))
              (owed was.0 was.1 k due (subst (λ l. slice_get l k ≡ Some due) (sym paid.was) early.1))
          | inr late ↦
              least_map (k + 1) (λ at. IsEarly h was.0 (lock_call one) due.until at × (at ≢ i)) (IsEarly after c (lock_call one) due.until)
              (λ at is. (less.from (lock_call one) at is.0.0 is.1, is.0.1))
              (least_without (k + 1) (IsEarly h was.0 (lock_call one) due.until) i (owed was.0 was.1 (k + 1) due (subst (λ l. slice_get l (k + 1) ≡ Some due) (sym paid.was) late)))
        ]

    -- or there is none
    pub owed_still : (debts : List Debt) → All (λ d. d.until ≤ i) debts → AreOwed h (lock_call one) debts → AreOwed after (lock_call one) debts
    owed_still debts all owed c of_lock k due there =
        let was = each c of_lock in
        let until : due.until ≤ i = All-contains (λ d. d.until ≤ i) debts due all (there_in debts k due there) in
        least_map (k + 1) (IsEarly h was.0 (lock_call one) due.until) (IsEarly after c (lock_call one) due.until)
        (λ at is. let sooner = is.1 in (was.2.from (lock_call one) at is.0 (λ same. omega (arith, sooner, until, same)), is.1)) (owed was.0 was.1 k due there)

    -- what is owed of the other call stays so
    pub owed_beside : (debts : List Debt) → AreOwed h (lock_call (not one)) debts → AreOwed after (lock_call (not one)) debts
    owed_beside debts owed c of_lock k due there =
        let was = each c of_lock in
        least_map (k + 1) (IsEarly h was.0 (lock_call (not one)) due.until) (IsEarly after c (lock_call (not one)) due.until)
        (λ at is. (was.2.from (lock_call (not one)) at is.0 (beside c was.0 was.2 at is.0), is.1)) (owed was.0 was.1 k due there)

    -- the balance without it
    pub balanced_less : (owed others : ℕ) (lock : Bool) (owed_then others_then : ℕ) (lock_then : Bool) → owed_then + others + 1 + agrees one lock ≡ owed + others_then + agrees one lock_then
        → ((c : Config) → IsOfLock h c → IsBalanced h one owed others lock c) → (c : Config) → IsOfLock after c → IsBalanced after one owed_then others_then lock_then c
    balanced_less owed others lock owed_then others_then lock_then moves balanced c of_lock =
        let was = each c of_lock in
        let less = was.2 in
        let is = balanced was.0 was.1 in
        let rest = without i is.own is.own_all.apart in
        let fewer = rest.1.one (is.own_all.all i less.here) in
        let sum = is.sum in
        record {
          held = is.held;
          state = less.state ∙ is.state;
          own = rest.0;
          other = is.other;
          own_all = record {
            apart = rest.1.apart;
            are = λ at there. let from = rest.1.from at there in less.from (lock_call one) at (is.own_all.are at from.0) from.1;
            all = λ at now. let to = less.to (lock_call one) at now in rest.1.all at (is.own_all.all at to.0) to.1;
          };
          other_all = all_map {P = IsPlacedOpen h was.0.1 (lock_call (not one))} {Q = IsPlacedOpen after c.1 (lock_call (not one))} is.other is.other_all
              (λ at placed. less.from (lock_call (not one)) at placed (beside c was.0 less at placed)) (λ at now. (less.to (lock_call (not one)) at now).0);
          sum = omega (arith, moves, fewer, sum);
        }

    -- where the lock doesn't allow it, one more of the other call is placed than is owed, if no debt came up behind its invocation
    pub one_more : (debts : List Debt) (others : ℕ) (lock : Bool) → lock ≡ one → All (λ d. d.until ≤ i) debts → AreOwed h (lock_call one) debts → ((c : Config) → IsOfLock h c → IsBalanced h one (length debts) others lock c)
        → (c : Config) → IsOfLock after c → AtLeast (others + 1) (IsPlacedOpen after c.1 (lock_call (not one)))
    one_more debts others lock is_one all owed balanced c of_lock =
        let now = balanced_less (length debts) others lock (length debts) (others + 1) lock (omega arith) balanced c of_lock in
        let sum : length debts + length now.other + agrees one now.held ≡ (others + 1) + length now.own + agrees one one = subst (λ x. length debts + length now.other + agrees one now.held ≡ (others + 1) + length now.own + agrees one x) is_one now.sum in
        let one_is = agrees_same one in
        let few = at_most_one now.held in
        let paid = enough c of_lock now.own now.own_all in
        least_of_list (others + 1) (IsPlacedOpen after c.1 (lock_call (not one))) now.other now.other_all.apart now.other_all.are (omega (arith, sum, one_is, few, paid))
      where
        at_most_one : (x : Bool) → agrees one x ≤ 1
        at_most_one x = by one x
          where
            by : (b y : Bool) → agrees b y ≤ 1
            by true true = omega arith
            by true false = omega arith
            by false true = omega arith
            by false false = omega arith

        enough : (c : Config) → IsOfLock after c → (own : List ℕ) → AreAll (IsPlacedOpen after c.1 (lock_call one)) own → length debts ≤ length own
        enough c of_lock own own_all = elim (last_of debts) [
          | inl empty ↦ let none = ap length empty in omega (arith, none)
          | inr some ↦
              let due = some.1 in
              let last : slice_get debts (length some.0) ≡ Some due = subst (λ l. slice_get l (length some.0) ≡ Some due) (sym some.2) (get_last some.0 due) in
              let found = owed_still debts all owed c of_lock (length some.0) due last in
              let fits = least_fits (length some.0 + 1) (IsEarly after c (lock_call one) due.until) own (λ at is. own_all.all at is.0) found in
              let many = ap length some.2 ∙ length_push some.0 due in
              omega (arith, fits, many)
        ]

    -- so it may be owed
    pub owed_more : (debts : List Debt) (debt : Debt) → ((c : Config) → IsOfLock after c → AtLeast (length debts + 1) (IsPlacedOpen after c.1 (lock_call (not one)))) → ((at : ℕ) (c : Config) → IsPlacedOpen after c.1 (lock_call (not one)) at → at < debt.until)
        → AreOwed h (lock_call (not one)) debts → AreOwed after (lock_call (not one)) (debts ++ debt ∷ [])
    owed_more debts debt many early owed c of_lock k due there = elim (get_cases debts debt k due there) [
      | inl old ↦ owed_beside debts owed c of_lock k due old
      | inr new ↦
          let place = new.0 in
          let found = least_map (length debts + 1) (IsPlacedOpen after c.1 (lock_call (not one))) (IsEarly after c (lock_call (not one)) debt.until) (λ at is. (is, early at c is)) (many c of_lock) in
          subst (λ (d : Debt). AtLeast (k + 1) (IsEarly after c (lock_call (not one)) d.until)) new.1 (subst (λ n. AtLeast (n + 1) (IsEarly after c (lock_call (not one)) debt.until)) (sym place) found)
    ]
