-- Orders with places that are owed.
use Rattle.std.proofs.Common.{◌≡◌, ◌≢◌, ◌≤◌, ◌+◌, ℕ, zero, suc, cond, List, [], ◌∷◌, ◌++◌, ◌⊎◌, AllPairs, Contains, Option, Some, None, length, length-set, drop, take, set, slice_get, get_or, nat_eq, inl, inr, refl, sym, ap, subst, ◌∙◌, arith, add-one, unwrap_or}
use Rattle.std.proofs.lemmas.List.{set-set, take_all}
use Rattle.std.proofs.lemmas.List.Elements.{Contains-append_cases, Contains-append_left, Contains-append_right, Contains-get_or}
use Rattle.std.proofs.lemmas.Bool.{cases_Bool}
use Rattle.std.proofs.lemmas.Bool.Decides.{Decides-eqb}
use Rattle.std.proofs.lemmas.List.Kept.{AllPairs-cons}
use Rattle.lin_lists.specs.lemmas.Elements.{all_of, first_or_rest, nothing_in}
use Rattle.lin_events.specs.declared.calls.Reply.TheVariants.{Done}
use Rattle.lin_certificates.specs.lemmas.Counting.{first_apart, pairs_rest}
use Rattle.lin_order.specs.declared.placed.Placed.{Placed}
use Rattle.lin_locks.specs.declared.sides.Debt.{Debt}
use Rattle.lin_locks.specs.inner.Fillings.{filled, in_turn, paying, settled}

-- an operation that is done
abbrev pub done : ℕ → Placed
done at = record { at = at; reply = Done }

shift : (a b : ℕ) → suc a + b ≡ a + suc b
shift a b = omega arith

none : (a : ℕ) → a ≡ a + 0
none a = omega arith

-- what stands in a filled order
pub in_filled : (pays : ℕ → ℕ) (order : List (Option ℕ)) (k : ℕ) (p : Placed) → Contains (filled pays k order) p
    → (j : ℕ) × ((slice_get order j ≡ Some (Some p.at)) ⊎ ((slice_get order j ≡ Some None) × (p.at ≡ pays (k + j))))
in_filled pays [] k p there = absurd (nothing_in p there)
in_filled pays (Some at ∷ order) k p there = elim (first_or_rest (done at) (filled pays (suc k) order) p there) [
  | inl same ↦ (0, inl (ap (λ (x : Placed). Some (Some x.at)) same))
  | inr rest ↦ let found = in_filled pays order (suc k) p rest in (
    suc found.0,
    elim found.1 [
      | inl named ↦ inl named
      | inr owed ↦ inr (owed.0, owed.1 ∙ ap pays (shift k found.0))
    ],
  )
]
in_filled pays (None ∷ order) k p there = elim (first_or_rest (done (pays k)) (filled pays (suc k) order) p there) [
  | inl same ↦ (0, inr (refl, sym (ap (λ (x : Placed). x.at) same) ∙ ap pays (none k)))
  | inr rest ↦ let found = in_filled pays order (suc k) p rest in (
    suc found.0,
    elim found.1 [
      | inl named ↦ inl named
      | inr owed ↦ inr (owed.0, owed.1 ∙ ap pays (shift k found.0))
    ],
  )
]

-- what is owed stands there as it is paid
pub paid_in : (pays : ℕ → ℕ) (order : List (Option ℕ)) (k j : ℕ) → slice_get order j ≡ Some None → Contains (filled pays k order) (done (pays (k + j)))
paid_in pays [] k j there = absurd (let never = there in cc)
paid_in pays (Some at ∷ order) k zero there = absurd (let never = there in cc)
paid_in pays (None ∷ order) k zero there = (0, omega arith, ap (λ n. done (pays n)) (none k))
paid_in pays (Some at ∷ order) k (suc j) there =
    Contains-append_right (done at ∷ []) (filled pays (suc k) order) (done (pays (k + suc j))) (subst (λ n. Contains (filled pays (suc k) order) (done (pays n))) (shift k j) (paid_in pays order (suc k) j there))
paid_in pays (None ∷ order) k (suc j) there =
    Contains-append_right (done (pays k) ∷ []) (filled pays (suc k) order) (done (pays (k + suc j))) (subst (λ n. Contains (filled pays (suc k) order) (done (pays n))) (shift k j) (paid_in pays order (suc k) j there))

-- only the payments of its places count
pub filled_same : (p q : ℕ → ℕ) (order : List (Option ℕ)) (k : ℕ) → ((n : ℕ) → k ≤ n → p n ≡ q n) → filled p k order ≡ filled q k order
filled_same p q [] k same = refl
filled_same p q (Some at ∷ order) k same = ap (λ l. done at ∷ l) (filled_same p q order (suc k) (λ n past. same n (omega (arith, past))))
filled_same p q (None ∷ order) k same =
    ap (λ n. done n ∷ filled p (suc k) order) (same k (omega arith)) ∙ ap (λ l. done (q k) ∷ l) (filled_same p q order (suc k) (λ n past. same n (omega (arith, past))))

-- one more operation, or one more that is owed
pub filled_named : (pays : ℕ → ℕ) (order : List (Option ℕ)) (k at : ℕ) → filled pays k (order ++ Some at ∷ []) ≡ filled pays k order ++ done at ∷ []
filled_named pays [] k at = refl
filled_named pays (Some x ∷ order) k at = ap (λ l. done x ∷ l) (filled_named pays order (suc k) at)
filled_named pays (None ∷ order) k at = ap (λ l. done (pays k) ∷ l) (filled_named pays order (suc k) at)

pub filled_owed : (pays : ℕ → ℕ) (order : List (Option ℕ)) (k : ℕ) → filled pays k (order ++ None ∷ []) ≡ filled pays k order ++ done (pays (k + length order)) ∷ []
filled_owed pays [] k = ap (λ n. done (pays n) ∷ []) (none k)
filled_owed pays (Some x ∷ order) k = ap (λ l. done x ∷ l) (filled_owed pays order (suc k) ∙ ap (λ n. filled pays (suc k) order ++ done (pays n) ∷ []) (shift k (length order)))
filled_owed pays (None ∷ order) k = ap (λ l. done (pays k) ∷ l) (filled_owed pays order (suc k) ∙ ap (λ n. filled pays (suc k) order ++ done (pays n) ∷ []) (shift k (length order)))

-- one place is paid for good
pub filled_paid : (p q : ℕ → ℕ) (order : List (Option ℕ)) (k s at : ℕ) → slice_get order s ≡ Some None → p (k + s) ≡ at → ((n : ℕ) → n ≢ k + s → p n ≡ q n) → filled p k order ≡ filled q k (set order s (Some at))
filled_paid p q [] k s at there is others = absurd (let never = there in cc)
filled_paid p q (Some x ∷ order) k zero at there is others = absurd (let never = there in cc)
filled_paid p q (None ∷ order) k zero at there is others =
    ap (λ n. done n ∷ filled p (suc k) order) (ap p (none k) ∙ is) ∙ ap (λ l. done at ∷ l) (filled_same p q order (suc k) (λ n past. others n (λ same. omega (arith, past, same))))
filled_paid p q (Some x ∷ order) k (suc s) at there is others =
    ap (λ l. done x ∷ l) (filled_paid p q order (suc k) s at there (ap p (shift k s) ∙ is) (λ n differ. others n (λ same. differ (same ∙ sym (shift k s)))))
filled_paid p q (None ∷ order) k (suc s) at there is others =
    ap (λ n. done n ∷ filled p (suc k) order) (others k (λ same. omega (arith, same)))
    ∙ ap (λ l. done (q k) ∷ l) (filled_paid p q order (suc k) s at there (ap p (shift k s) ∙ is) (λ n differ. others n (λ same. differ (same ∙ sym (shift k s)))))

module _ (pays : ℕ → ℕ) (slot at : ℕ) where
  pub paying_here : paying pays slot at slot ≡ at
  paying_here = ap (λ b. cond b at (pays slot)) ((Decides-eqb slot slot).1 refl)

  pub paying_other : (k : ℕ) → k ≢ slot → paying pays slot at k ≡ pays k
  paying_other k differ = elim (cases_Bool (nat_eq slot k)) [
    | inl same ↦ absurd (differ (sym ((Decides-eqb slot k).0 same)))
    | inr other ↦ ap (λ b. cond b at (pays k)) other
  ]

-- what holds of each pair of a list, by what else is known of its elements
pub pairs_known : {A : Type 0} (R Q : A → A → Type 0) (xs : List A) → ((x y : A) → Contains xs x → Contains xs y → R x y → Q x y) → AllPairs R xs → AllPairs Q xs
pairs_known R Q xs each all i j d before within =
    each (get_or xs i d) (get_or xs j d) (Contains-get_or xs i d (omega (arith, before, within))) (Contains-get_or xs j d within) (all i j d before within)

-- and of each pair with one element more
pub pairs_with : {A : Type 0} (R : A → A → Type 0) (before : List A) (x : A) (behind : List A) → AllPairs R (before ++ behind) → ((y : A) → Contains before y → R y x) → ((y : A) → Contains behind y → R x y) → AllPairs R (before ++ x ∷ behind)
pairs_with R [] x behind all ahead after = AllPairs-cons R x behind (all_of (R x) behind after) all
pairs_with R (z ∷ before) x behind all ahead after = AllPairs-cons R z (before ++ x ∷ behind)
    (all_of (R z) (before ++ x ∷ behind) (λ y there. elim (Contains-append_cases before (x ∷ behind) y there) [
      | inl early ↦ first_apart R z (before ++ behind) all y (Contains-append_left before behind y early)
      | inr late ↦ elim (first_or_rest x behind y late) [
        | inl here ↦ subst (R z) here (ahead z (0, omega arith, refl))
        | inr later ↦ first_apart R z (before ++ behind) all y (Contains-append_right before behind y later)
      ]
    ]))
    (pairs_with R before x behind (pairs_rest R z (before ++ behind) all) (λ y there. ahead y (Contains-append_right (z ∷ []) before y there)) after)

-- an element that another one's place does not hold stays
pub set_other : {A : Type 0} (xs : List A) (s : ℕ) (y : A) (k : ℕ) → k ≢ s → slice_get (set xs s y) k ≡ slice_get xs k
set_other [] s y k differ = refl
set_other (z ∷ xs) zero y zero differ = absurd (differ refl)
set_other (z ∷ xs) zero y (suc k) differ = refl
set_other (z ∷ xs) (suc s) y zero differ = refl
set_other (z ∷ xs) (suc s) y (suc k) differ = set_other xs s y k (λ e. differ (ap suc e))

pub settled_other : (debts : List Debt) (opens : List ℕ) (order : List (Option ℕ)) (k : ℕ) → ((d : Debt) → Contains debts d → d.slot ≢ k) → slice_get (settled debts opens order) k ≡ slice_get order k
settled_other [] opens order k others = refl
settled_other (d ∷ debts) [] order k others = refl
settled_other (d ∷ debts) (o ∷ opens) order k others =
    settled_other debts opens (set order d.slot (Some o)) k (λ e there. others e (Contains-append_right (d ∷ []) debts e there))
    ∙ set_other order d.slot (Some o) k (λ same. others d (0, omega arith, refl) (sym same))

-- the order in which the debts are paid in turn is the filled one
pub settled_filled : (debts : List Debt) (opens : List ℕ) (pays : ℕ → ℕ) (order : List (Option ℕ)) → ((d : Debt) → Contains debts d → slice_get order d.slot ≡ Some None) → AllPairs (λ c d. c.slot ≢ d.slot) debts
    → filled (in_turn debts opens pays) 0 order ≡ filled pays 0 (settled debts opens order)
settled_filled [] opens pays order places once = refl
settled_filled (d ∷ debts) [] pays order places once = refl
settled_filled (d ∷ debts) (o ∷ opens) pays order places once =
    filled_paid (paying (in_turn debts opens pays) d.slot o) (in_turn debts opens pays) order 0 d.slot o (places d (0, omega arith, refl))
    (ap (paying (in_turn debts opens pays) d.slot o) (zero_more d.slot) ∙ paying_here (in_turn debts opens pays) d.slot o)
    (λ n differ. paying_other (in_turn debts opens pays) d.slot o n (λ same. differ (same ∙ sym (zero_more d.slot))))
    ∙ settled_filled debts opens pays (set order d.slot (Some o))
    (λ e there. set_other order d.slot (Some o) e.slot (λ same. first_apart (λ (c x : Debt). c.slot ≢ x.slot) d debts once e there (sym same)) ∙ places e (Contains-append_right (d ∷ []) debts e there))
    (pairs_rest (λ c x. c.slot ≢ x.slot) d debts once)
  where
    zero_more : (n : ℕ) → 0 + n ≡ n
    zero_more n = omega arith

-- of what is taken from the two lists in turn, one more
drop_here : {A : Type 0} (xs : List A) (k : ℕ) (x : A) → slice_get xs k ≡ Some x → drop k xs ≡ x ∷ drop (suc k) xs
drop_here [] k x there = absurd (let never = there in cc)
drop_here {A} (y ∷ xs) zero x there = ap (λ z. z ∷ xs) (same there)
  where
    same : {a b : A} → Some a ≡ Some b → a ≡ b
    same e = cc
drop_here (y ∷ xs) (suc k) x there = drop_here xs k x there

drop_all : {A : Type 0} (xs : List A) (k : ℕ) → length xs ≤ k → drop k xs ≡ []
drop_all [] zero past = refl
drop_all [] (suc k) past = refl
drop_all (x ∷ xs) zero past = absurd (omega (arith, past))
drop_all (x ∷ xs) (suc k) past = drop_all xs k (omega (arith, past))

settled_none : (debts : List Debt) (order : List (Option ℕ)) → settled debts [] order ≡ order
settled_none [] order = refl
settled_none (d ∷ debts) order = refl

pub settled_one : (debts : List Debt) (opens : List ℕ) (order : List (Option ℕ)) (k : ℕ) (d : Debt) (o : ℕ) → slice_get debts k ≡ Some d → slice_get opens k ≡ Some o
    → settled (drop (k + 1) debts) (drop (k + 1) opens) (set order d.slot (Some o)) ≡ settled (drop k debts) (drop k opens) order
settled_one debts opens order k d o in_debts in_opens = ap (λ n. settled (drop n debts) (drop n opens) (set order d.slot (Some o))) (add-one k)
    ∙ sym (ap (λ l. settled l (drop k opens) order) (drop_here debts k d in_debts) ∙ ap (λ l. settled (d ∷ drop (suc k) debts) l order) (drop_here opens k o in_opens))

pub settled_past : (debts : List Debt) (opens : List ℕ) (order : List (Option ℕ)) (k : ℕ) → length opens ≤ k → settled (drop (k + 1) debts) (drop (k + 1) opens) order ≡ settled (drop k debts) (drop k opens) order
settled_past debts opens order k past =
    ap (λ l. settled (drop (k + 1) debts) l order) (drop_all opens (k + 1) (omega (arith, past))) ∙ settled_none (drop (k + 1) debts) order
    ∙ sym (ap (λ l. settled (drop k debts) l order) (drop_all opens k past) ∙ settled_none (drop k debts) order)

-- a place that was empty is so again
set_same : {A : Type 0} (xs : List A) (s : ℕ) (x : A) → slice_get xs s ≡ Some x → set xs s x ≡ xs
set_same [] s x there = refl
set_same {A} (y ∷ xs) zero x there = ap (λ z. z ∷ xs) (sym (same there))
  where
    same : {a b : A} → Some a ≡ Some b → a ≡ b
    same e = cc
set_same (y ∷ xs) (suc s) x there = ap (λ l. y ∷ l) (set_same xs s x there)

pub emptied_again : (order : List (Option ℕ)) (slot begin many : ℕ) → slice_get order slot ≡ Some None → many ≡ length order → set (take many (set order slot (Some begin))) slot None ≡ order
emptied_again order slot begin many there is =
    ap (λ l. set l slot None) (take_all many (set order slot (Some begin)) (let same = length-set order slot (Some begin) in omega (arith, same, is))) ∙ set-set order slot (Some begin) None ∙ set_same order slot None there

-- one place more, where all is paid
pub filled_more : (order : List (Option ℕ)) (x : Option ℕ) → filled (λ n. 0) 0 (order ++ x ∷ []) ≡ filled (λ n. 0) 0 order ++ done (unwrap_or x 0) ∷ []
filled_more order (Some at) = filled_named (λ n. 0) order 0 at
filled_more order None = filled_owed (λ n. 0) order 0
