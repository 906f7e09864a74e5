-- The open operations of a side pay its debts, in turn.
use Rattle.std.proofs.Common.{◌≡◌, ◌≢◌, ◌<◌, ◌≤◌, ◌+◌, ℕ, zero, suc, List, [], ◌∷◌, ◌++◌, All, AllPairs, Contains, Some, length, slice_get, get_or, inl, inr, refl, sym, ap, subst, ◌∙◌, arith, add-one}
use Rattle.std.specs.List.{remove}
use Rattle.std.proofs.lemmas.Bool.{cases_lt}
use Rattle.std.proofs.lemmas.Option.{get_or_from_slice_get, slice_get-get_or, slice_get_within}
use Rattle.std.proofs.lemmas.List.Elements.{All-contains, Contains-append_right}
use Rattle.lin_lists.specs.lemmas.Lists.{get_cases, get_left}
use Rattle.lin_events.specs.declared.calls.Call.{Call}
use Rattle.lin_events.specs.declared.events.Event.{Event}
use Rattle.lin_events.specs.Operations.{IsOpen}
use Rattle.lin_certificates.specs.lemmas.Counting.{first_apart, pairs_rest}
use Rattle.lin_locks.specs.declared.sides.Debt.{Debt}
use Rattle.lin_locks.specs.inner.Known.{Part}
use Rattle.lin_locks.specs.inner.Debts.{AreRising, IsPaid}
use Rattle.lin_locks.specs.inner.Fillings.{IsPayable, IsPayment, PayInTurn, in_turn, paying}
use Rattle.lin_locks.proofs.Filled.{paying_here, paying_other}
use Rattle.lin_locks.proofs.Lists.{beside_one, there_in}

-- elements of a rising list
rising_at : (xs : List ℕ) → AllPairs ◌<◌ xs → (i j x y : ℕ) → slice_get xs i ≡ Some x → slice_get xs j ≡ Some y → i < j → x < y
rising_at xs rising i j x y at_i at_j less =
    let is_i = get_or_from_slice_get xs i x x at_i in
    let is_j = get_or_from_slice_get xs j y x at_j in
    let rises : get_or xs i x < get_or xs j x = rising i j x less (slice_get_within xs j y at_j) in
    omega (arith, rises, is_i, is_j)

removed_before : (xs : List ℕ) (a k : ℕ) → k < a → slice_get (remove xs a) k ≡ slice_get xs k
removed_before [] zero k less = absurd (omega (arith, less))
removed_before [] (suc a) k less = refl
removed_before (x ∷ xs) zero k less = absurd (omega (arith, less))
removed_before (x ∷ xs) (suc a) zero less = refl
removed_before (x ∷ xs) (suc a) (suc k) less = removed_before xs a k (omega (arith, less))

removed_behind : (xs : List ℕ) (a k : ℕ) → a ≤ k → a < length xs → slice_get (remove xs a) k ≡ slice_get xs (suc k)
removed_behind [] a k more inside = absurd (omega (arith, inside))
removed_behind (x ∷ xs) zero k more inside = refl
removed_behind (x ∷ xs) (suc a) zero more inside = absurd (omega (arith, more))
removed_behind (x ∷ xs) (suc a) (suc k) more inside = removed_behind xs a k (omega (arith, more)) (omega (arith, inside))

module _ (opens : List ℕ) (rising : AllPairs ◌<◌ opens) (a begin : ℕ) (here : slice_get opens a ≡ Some begin) where
  -- what is left is another one
  pub other_left : (at : ℕ) → Contains (remove opens a) at → at ≢ begin
  other_left at there same =
      let k = there.0 in
      let found : slice_get (remove opens a) k ≡ Some at = slice_get-get_or (remove opens a) k at there.1 ∙ ap Some there.2 in
      elim (cases_lt k a) [
        | inl less ↦ let below = rising_at opens rising k a at begin (sym (removed_before opens a k less) ∙ found) here less in omega (arith, below, same)
        | inr more ↦
            let above = rising_at opens rising a (suc k) begin at here (sym (removed_behind opens a k more (slice_get_within opens a begin here)) ∙ found) (omega (arith, more)) in
            omega (arith, above, same)
      ]

  -- one that pays a debt from before its invocation stands ahead of it
  ahead : (k b : ℕ) → slice_get opens k ≡ Some b → b < begin → k < a
  ahead k b there less = elim (cases_lt k a) [
    | inl before ↦ before
    | inr behind ↦ elim (cases_lt a k) [
      | inl later ↦ let above = rising_at opens rising a k begin b here there later in absurd (omega (arith, above, less))
      | inr same ↦
          let one : k ≡ a = omega (arith, behind, same) in
          let both : Some b ≡ Some begin = sym there ∙ ap (λ n. slice_get opens n) one ∙ here in
          let is : b ≡ begin = cc in
          absurd (omega (arith, is, less))
    ]
  ]

  pub turn_stands : (debts : List Debt) → All (λ d. d.until ≤ begin) debts → PayInTurn opens debts → PayInTurn (remove opens a) debts
  turn_stands debts early pays k debt there =
      let was = pays k debt there in
      let until : debt.until ≤ begin = All-contains (λ d. d.until ≤ begin) debts debt early (there_in debts k debt there) in
      let sooner = was.2 in
      (was.0, removed_before opens a k (ahead k was.0 was.1 (omega (arith, sooner, until))) ∙ was.1, was.2)

  pub turn_paid : (old : List Debt) (debt : Debt) (new : List Debt) → AreRising old → IsPaid begin old debt new → PayInTurn opens old → PayInTurn (remove opens a) new
  turn_paid old debt new ordered paid pays k due there = elim (beside_one paid.before debt paid.behind k due (subst (λ l. slice_get l k ≡ Some due) paid.is there)) [
    | inl early ↦
        let was = pays k due (subst (λ l. slice_get l k ≡ Some due) (sym paid.was) early.1) in
        let until : due.until ≤ begin = All-contains (λ d. d.until ≤ begin) paid.before due (paid.early ordered) early.0 in
        let sooner = was.2 in
        (was.0, removed_before opens a k (ahead k was.0 was.1 (omega (arith, sooner, until))) ∙ was.1, was.2)
    | inr late ↦
        let was = pays (k + 1) due (subst (λ l. slice_get l (k + 1) ≡ Some due) (sym paid.was) late) in
        let next : slice_get opens (suc k) ≡ Some was.0 = ap (λ n. slice_get opens n) (sym (add-one k)) ∙ was.1 in
        let inside = slice_get_within opens (suc k) was.0 next in
        elim (cases_lt k a) [
          | inl less ↦
              let b = get_or opens k 0 in
              let found = slice_get-get_or opens k 0 (omega (arith, inside)) in
              let rises = rising_at opens rising k (suc k) (get_or opens k 0) was.0 found next (omega arith) in
              let sooner = was.2 in
              (get_or opens k 0, removed_before opens a k less ∙ found, omega (arith, rises, sooner))
          | inr more ↦ (was.0, removed_behind opens a k more (slice_get_within opens a begin here) ∙ next, was.2)
        ]
  ]

pub turn_owed : (opens : List ℕ) (debts : List Debt) (debt : Debt) → length debts < length opens → ((at : ℕ) → Contains opens at → at < debt.until) → PayInTurn opens debts → PayInTurn opens (debts ++ debt ∷ [])
turn_owed opens debts debt many all pays k due there = elim (get_cases debts debt k due there) [
  | inl old ↦ pays k due old
  | inr new ↦
      let at : k ≡ length debts = new.0 in
      let found = slice_get-get_or opens k 0 (omega (arith, at, many)) in
      (get_or opens k 0, found, subst (λ (d : Debt). get_or opens k 0 < d.until) new.1 (all (get_or opens k 0) (there_in opens k (get_or opens k 0) found)))
]

pub turn_joined : (opens : List ℕ) (n : ℕ) (debts : List Debt) → PayInTurn opens debts → PayInTurn (opens ++ n ∷ []) debts
turn_joined opens n debts pays k due there = let was = pays k due there in (was.0, get_left opens n k was.0 was.1, was.2)

-- the payment in turn gives each debt the operation at its place
pub turn_is : (debts : List Debt) (opens : List ℕ) (pays : ℕ → ℕ) → AllPairs (λ c d. c.slot ≢ d.slot) debts → (k : ℕ) (debt : Debt) (at : ℕ) → slice_get debts k ≡ Some debt → slice_get opens k ≡ Some at → in_turn debts opens pays debt.slot ≡ at
turn_is [] opens pays once k debt at in_debts in_opens = absurd (let never = in_debts in cc)
turn_is (d ∷ debts) [] pays once k debt at in_debts in_opens = absurd (let never = in_opens in cc)
turn_is (d ∷ debts) (o ∷ opens) pays once zero debt at in_debts in_opens =
    subst (λ (x : Debt). paying (in_turn debts opens pays) d.slot o x.slot ≡ at) (same_debt in_debts) (paying_here (in_turn debts opens pays) d.slot o ∙ same_place in_opens)
  where
    same_debt : {a b : Debt} → Some a ≡ Some b → a ≡ b
    same_debt e = cc

    same_place : {a b : ℕ} → Some a ≡ Some b → a ≡ b
    same_place e = cc
turn_is (d ∷ debts) (o ∷ opens) pays once (suc k) debt at in_debts in_opens =
    paying_other (in_turn debts opens pays) d.slot o debt.slot (λ same. first_apart (λ (c e : Debt). c.slot ≢ e.slot) d debts once debt (there_in debts k debt in_debts) (sym same))
    ∙ turn_is debts opens pays (pairs_rest (λ c e. c.slot ≢ e.slot) d debts once) k debt at in_debts in_opens

-- and leaves other places
pub turn_leaves : (debts : List Debt) (opens : List ℕ) (pays : ℕ → ℕ) (k : ℕ) → ((d : Debt) → Contains debts d → d.slot ≢ k) → in_turn debts opens pays k ≡ pays k
turn_leaves [] opens pays k others = refl
turn_leaves (d ∷ debts) [] pays k others = refl
turn_leaves (d ∷ debts) (o ∷ opens) pays k others =
    paying_other (in_turn debts opens pays) d.slot o k (λ same. others d (0, omega arith, refl) (sym same)) ∙ turn_leaves debts opens pays k (λ e there. others e (Contains-append_right (d ∷ []) debts e there))

-- such a payment is one
pub payment_in_turn : (h : List Event) (call : Call) (side : Part) → AllPairs ◌<◌ side.opens → IsPayable h call side → (pays : ℕ → ℕ)
    → ((k : ℕ) (debt : Debt) (at : ℕ) → slice_get side.debts k ≡ Some debt → slice_get side.opens k ≡ Some at → pays debt.slot ≡ at) → IsPayment h call side.debts pays
payment_in_turn h call side rising payable pays each = record {
  opened = λ debt there.
      let p = paid debt there in
      let o = payable.only p.1.0 (there_in side.opens p.0 p.1.0 p.1.1) in
      (o.0, o.1, subst (λ n. IsOpen h n o.0 o.1 call) (sym p.1.3) o.2);
  early = λ debt there. let p = paid debt there in subst (λ n. n < debt.until) (sym p.1.3) p.1.2;
  once = λ i j d before within same.
      let ci = get_or side.debts i d in
      let cj = get_or side.debts j d in
      let a = payable.pays i (get_or side.debts i d) (slice_get-get_or side.debts i d (omega (arith, before, within))) in
      let b = payable.pays j (get_or side.debts j d) (slice_get-get_or side.debts j d within) in
      let rises = rising_at side.opens rising i j a.0 b.0 a.1 b.1 before in
      let at_i = each i (get_or side.debts i d) a.0 (slice_get-get_or side.debts i d (omega (arith, before, within))) a.1 in
      let at_j = each j (get_or side.debts j d) b.0 (slice_get-get_or side.debts j d within) b.1 in
      omega (arith, rises, at_i, at_j, same);
}
  where
    paid : (debt : Debt) → Contains side.debts debt → (k : ℕ) × ((begin : ℕ) × (slice_get side.opens k ≡ Some begin) × (begin < debt.until) × (pays debt.slot ≡ begin))
    paid debt there =
        let k = there.0 in
        let found : slice_get side.debts there.0 ≡ Some debt = slice_get-get_or side.debts there.0 debt there.1 ∙ ap Some there.2 in
        let p = payable.pays there.0 debt found in
        (there.0, (p.0, p.1, p.2, each there.0 debt p.0 found p.1))
