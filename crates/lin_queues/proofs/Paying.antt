-- Debts that can't be paid.
use Rattle.std.proofs.Common.{◌≡◌, ◌<◌, ◌≤◌, ◌+◌, ℕ, zero, suc, List, [], ◌∷◌, length, map, Some, inl, inr, refl, sym, ap, ◌∙◌, subst, arith, slice_get, get_or, take, Contains, All}
use Rattle.std.proofs.lemmas.Bool.{cases_lt, cases_order}
use Rattle.std.proofs.lemmas.List.{length-take-le, get_or-take}
use Rattle.std.proofs.lemmas.Option.{slice_get_within, slice_get-get_or}
use Rattle.lin_events.specs.declared.events.Event.{Event}
use Rattle.lin_order.specs.declared.placed.Placed.{Placed}
use Rattle.lin_lists.specs.lemmas.Lists.{get_taken, get_begun}
use Rattle.lin_queues.specs.Debts.{IsWhole}
use Rattle.lin_queues.specs.Laws.{PaymentLaw, AreDue}
use Rattle.lin_queues.specs.declared.elements.Element.{Element}
use Rattle.lin_queues.specs.declared.members.Debt.{Debt}
use Rattle.lin_queues.specs.Members.{View, Told, AreUnpaid, HasMore, owed}
use Rattle.lin_queues.specs.Opens.{AreDequeues}
use Rattle.lin_queues.proofs.Lists.{one_there, contains_from_get, get_map, get_at}

all_from : {A : Type 0} (P : A → Type 0) (xs : List A) → ((k : ℕ) (x : A) → slice_get xs k ≡ Some x → P x) → All P xs
all_from P xs each = λ k d l. each k (get_or xs k d) (slice_get-get_or xs k d l)

-- some place is no less than the times of all of these
latest : (xs : List (ℕ × ℕ)) → (t : ℕ) × All (λ p. p.1 ≤ t) xs
latest xs = let found = by xs in (found.0, all_from (λ p. p.1 ≤ found.0) xs found.1)
  where
    by : (ys : List (ℕ × ℕ)) → (t : ℕ) × ((k : ℕ) (y : ℕ × ℕ) → slice_get ys k ≡ Some y → y.1 ≤ t)
    by [] = (0, λ k y at. absurd (let l = slice_get_within [] k y at in omega arith))
    by (z ∷ zs) = let rest = by zs in (rest.0 + z.1, λ k y at. step rest.0 rest.1 k y at)
      where
        step : (t : ℕ) → ((k : ℕ) (y : ℕ × ℕ) → slice_get zs k ≡ Some y → y.1 ≤ t) → (k : ℕ) (y : ℕ × ℕ) → slice_get (z ∷ zs) k ≡ Some y → y.1 ≤ t + z.1
        step t each zero y at = subst (λ (p : ℕ × ℕ). p.1 ≤ t + z.1) (one_there (z ∷ zs) zero z y refl at) (omega arith)
        step t each (suc k) y at = (let l = each k y at in omega arith)

module _ (law : PaymentLaw) (h whole : List Event) (order : List Placed) (is_whole : IsWhole h whole order) (dequeues : List ℕ) (paying : AreDequeues h dequeues) where
  pub unpaid : (all : List Element) (v : View) → Told whole order (length h) all v → AreUnpaid v.debts dequeues → ⊥
  unpaid all v told un =
      let most = law h whole order told.debtor un.time (take (un.at + 1) told.debtor.debts) (take un.at dequeues) is_whole told.follows due in
      let len = length-take-le (un.at + 1) told.debtor.debts (omega (arith, inside)) in
      let short = short_take un.at dequeues in
      omega arith
    where
      inside : un.at < length told.debtor.debts
      inside = (let e = ap length told.debts in let f = length_map v.debts in let l = un.within in omega arith)
        where
          length_map : (xs : List Debt) → length (map owed xs) ≡ length xs
          length_map [] = refl
          length_map (y ∷ ys) = ap suc (length_map ys)

      short_take : (k : ℕ) (xs : List ℕ) → length (take k xs) ≤ k
      short_take zero xs = omega arith
      short_take (suc k) [] = omega arith
      short_take (suc k) (x ∷ xs) = let l = short_take k xs in omega arith

      due : AreDue h told.debtor un.time (take (un.at + 1) told.debtor.debts) (take un.at dequeues)
      due = record {
        debts = all_from (Contains told.debtor.debts) _ (λ k p at. contains_from_get told.debtor.debts k p (get_taken (un.at + 1) told.debtor.debts k p at).1);
        once = λ i j d before within.
            let len = length-take-le (un.at + 1) told.debtor.debts (omega (arith, inside)) in
            let a = get_or-take (un.at + 1) told.debtor.debts i d (omega arith) in
            let b = get_or-take (un.at + 1) told.debtor.debts j d (omega arith) in
            λ same. told.follows.debts_once i j d before (let l = inside in omega arith) (ap (λ (p : ℕ × ℕ). p.0) (sym a) ∙ same ∙ ap (λ (p : ℕ × ℕ). p.0) b);
        times = all_from (λ (p : ℕ × ℕ). p.1 ≤ un.time) _ (λ k p at.
            let was = get_taken (un.at + 1) told.debtor.debts k p at in
            let debt = get_map owed v.debts k p (subst (λ l. slice_get l k ≡ Some p) told.debts was.1) in
            subst (λ (q : ℕ × ℕ). q.1 ≤ un.time) debt.2 (un.due k debt.0 (let l = was.0 in omega arith) debt.1));
        complete = λ dequeue is_open before.
            let place = paying.complete dequeue is_open in
            elim (cases_lt place.0 un.at) [
              | inl first ↦ contains_from_get (take un.at dequeues) place.0 dequeue (get_begun un.at dequeues place.0 dequeue first place.1)
              | inr later ↦ (
                  let l = slice_get_within dequeues place.0 dequeue place.1 in
                  let y = get_at dequeues un.at (omega arith) in
                  let late = un.late y.0 y.1 in
                  elim (cases_order un.at place.0) [
                    | inl same ↦ (let e = one_there dequeues place.0 y.0 dequeue (subst (λ k. slice_get dequeues k ≡ Some y.0) same y.1) place.1 in absurd (omega (arith, e)))
                    | inr differ ↦ elim differ [
                      | inl less ↦ (let rise = paying.rising un.at place.0 y.0 dequeue less y.1 place.1 in absurd (omega arith))
                      | inr more ↦ absurd (omega arith)
                    ]
                  ])
            ];
      }

  -- more debts than open dequeues
  pub no_more : HasMore whole order (length h) (length dequeues) → ⊥
  no_more more =
      let time = latest more.0.debts in
      let most = law h whole order more.0 time.0 more.0.debts dequeues is_whole more.1 (record {
        debts = all_from (Contains more.0.debts) _ (λ k p at. contains_from_get more.0.debts k p at);
        once = more.1.debts_once;
        times = time.1;
        complete = λ dequeue is_open before. (let place = paying.complete dequeue is_open in contains_from_get dequeues place.0 dequeue place.1);
      }) in
      let l = more.2 in
      omega arith
