-- Numbers that items have: the least number of which something holds, looked for from behind.
use Rattle.std.proofs.Common.{◌≡◌, ◌<◌, ◌≤◌, ◌+◌, ℕ, Bool, true, false, cond, List, [], ◌∷◌, ◌⊎◌, inl, inr, Contains, length, get_or, take, max, Option, None, Some, slice_get, refl, sym, ap, subst, ◌∙◌, arith}
use Rattle.std.proofs.lemmas.Bool.{cases_lt}
use Rattle.std.proofs.lemmas.List.Elements.{Contains-append_cases, Contains-append_left, Contains-append_right}
use Rattle.std.proofs.lemmas.Option.{get_or_from_slice_get, slice_get_within}
use Rattle.std.proofs.Math.Nat.{le-max_left, le-max_right, max-le}
use Rattle.lin_events.specs.declared.items.Item.{Item}
use Rattle.lin_events.specs.Items.{item_eq}
use Rattle.lin_events.specs.Sameness.{item_itself, item_same}
use Rattle.lin_events.specs.lemmas.Deciding.{key_cases}
use Rattle.lin_lists.specs.lemmas.Elements.{first_or_rest, nothing_in}
use Rattle.lin_order.specs.lemmas.Lists.{take_more}
use Rattle.lin_sets.specs.Acts.{IsAdd}
use Rattle.lin_sets.specs.Points.{HasFound, IsLatest, IsLeast, number_of}
use Rattle.lin_sets.proofs.Ordered.{here}
use Rattle.lin_sets.proofs.Chained.{has_or_not}

least_now : (P : ℕ → Type 0) (at : ℕ) → P at → IsLeast (λ k. (at ≤ k) × P k) (Some at)
least_now P at now = ((omega arith, now), λ k p. p.0)

least_on : (P : ℕ → Type 0) (at next : ℕ) → at + 1 ≡ next → (o : Option ℕ) → (P at → ⊥) → IsLeast (λ k. (next ≤ k) × P k) o → IsLeast (λ k. (at ≤ k) × P k) o
least_on P at next after None not least = λ k p. elim (cases_lt at k) [
  | inl less ↦ least k (omega (arith, less, after), p.1)
  | inr from ↦ not (subst P (let up = p.0 in omega (arith, from, up)) p.1)
]
least_on P at next after (Some n) not least = (
  (let within = least.0.0 in omega (arith, within, after), least.0.1),
  λ k p. elim (cases_lt at k) [
    | inl less ↦ least.1 k (omega (arith, less, after), p.1)
    | inr from ↦ absurd (not (subst P (let up = p.0 in omega (arith, from, up)) p.1))
  ],
)

least_past : (P : ℕ → Type 0) (at : ℕ) (o : Option ℕ) → o ≡ None → ((k : ℕ) → P k → k < at) → IsLeast (λ k. (at ≤ k) × P k) o
least_past P at o none below = subst (IsLeast (λ k. (at ≤ k) × P k)) (sym none) (λ k p. let low = below k p.1 in let up = p.0 in absurd (omega (arith, low, up)))

pub least_all : (P : ℕ → Type 0) (at : ℕ) (o : Option ℕ) → at ≤ 0 → IsLeast (λ k. (at ≤ k) × P k) o → IsLeast P o
least_all P at None zero least = λ k p. least k (omega (arith, zero), p)
least_all P at (Some n) zero least = (least.0.1, λ k p. least.1 k (omega (arith, zero), p))

-- the first add of each item
module _ (adds : List (Option Item)) where
  pub first_none : (numbers : List (Item × ℕ)) → numbers ≡ [] → (n : Item) → IsLeast (λ k. (length adds ≤ k) × IsAdd adds k n) (number_of numbers n)
  first_none numbers none n = least_past (λ k. IsAdd adds k n) (length adds) (number_of numbers n) (ap (λ l. number_of l n) none) (λ k add. slice_get_within adds k (Some n) add)

  pub first_put : (at next : ℕ) → at + 1 ≡ next → (item : Item) → slice_get adds at ≡ Some (Some item) → (old new : List (Item × ℕ))
      → ((n : Item) → IsLeast (λ k. (next ≤ k) × IsAdd adds k n) (number_of old n))
      → ((n : Item) → number_of new n ≡ cond (item_eq item n) (Some at) (number_of old n))
      → (n : Item) → IsLeast (λ k. (at ≤ k) × IsAdd adds k n) (number_of new n)
  first_put at next after item there old new before puts n = elim (key_cases item n) [
    | inl same ↦ subst (IsLeast (λ k. (at ≤ k) × IsAdd adds k n))
        (sym (puts n ∙ ap (λ b. cond b (Some at) (number_of old n)) (subst (λ m. item_eq item m ≡ true) same (item_itself item))))
        (least_now (λ k. IsAdd adds k n) at (there ∙ ap (λ m. Some (Some m)) same))
    | inr other ↦ subst (IsLeast (λ k. (at ≤ k) × IsAdd adds k n)) (sym (puts n ∙ by (item_eq item n) (item_same item n) other))
        (least_on (λ k. IsAdd adds k n) at next after (number_of old n) (λ add. other (let e = sym there ∙ add in cc)) (before n))
  ]
    where
      by : (b : Bool) → (b ≡ true → item ≡ n) → (item ≡ n → ⊥) → cond b (Some at) (number_of old n) ≡ number_of old n
      by true same other = absurd (other (same refl))
      by false same other = refl

  pub first_skip : (at next : ℕ) → at + 1 ≡ next → ((n : Item) → get_or adds at None ≡ Some n → ⊥) → (numbers : List (Item × ℕ))
      → ((n : Item) → IsLeast (λ k. (next ≤ k) × IsAdd adds k n) (number_of numbers n))
      → (n : Item) → IsLeast (λ k. (at ≤ k) × IsAdd adds k n) (number_of numbers n)
  first_skip at next after there numbers before n = least_on (λ k. IsAdd adds k n) at next after (number_of numbers n) (λ add. there n (get_or_from_slice_get adds at (Some n) None add)) (before n)

-- the first read that found each item
module _ (reads : List (ℕ × List Item)) where
  pub levels_none : (numbers : List (Item × ℕ)) → numbers ≡ [] → (n : Item) → IsLeast (λ k. (length reads ≤ k) × HasFound reads n k) (number_of numbers n)
  levels_none numbers none n = least_past (HasFound reads n) (length reads) (number_of numbers n) (ap (λ l. number_of l n) none) (λ k found. slice_get_within reads k found.0 found.1)

  pub levels_put : (at next : ℕ) → at + 1 ≡ next → (r : ℕ × List Item) → slice_get reads at ≡ Some r → (old new : List (Item × ℕ))
      → ((n : Item) → IsLeast (λ k. (next ≤ k) × HasFound reads n k) (number_of old n))
      → ((n : Item) → Contains r.1 n → number_of new n ≡ Some at)
      → ((n : Item) → (Contains r.1 n → ⊥) → number_of new n ≡ number_of old n)
      → (n : Item) → IsLeast (λ k. (at ≤ k) × HasFound reads n k) (number_of new n)
  levels_put at next after r there old new before those others n = elim (has_or_not r.1 n) [
    | inl inside ↦ subst (IsLeast (λ k. (at ≤ k) × HasFound reads n k)) (sym (those n inside)) (least_now (HasFound reads n) at (r, there, inside))
    | inr out ↦ subst (IsLeast (λ k. (at ≤ k) × HasFound reads n k)) (sym (others n out))
        (least_on (HasFound reads n) at next after (number_of old n) (λ found. out (let e : ◌≡◌ {A = Option (ℕ × List Item)} (Some found.0) (Some r) = sym found.1 ∙ there in
        let same : found.0 ≡ r = cc in subst (λ (x : ℕ × List Item). Contains x.1 n) same found.2)) (before n))
  ]

-- along a list
pub in_next : {A : Type 0} (xs : List A) (i : ℕ) (x y : A) → slice_get xs i ≡ Some x → Contains (take (i + 1) xs) y → Contains (take i xs) y ⊎ (x ≡ y)
in_next xs i x y is there = elim (Contains-append_cases (take i xs) (x ∷ []) y (subst (λ l. Contains l y) (take_more xs i x (slice_get_within xs i x is) (sym (get_or_from_slice_get xs i x x is))) there)) [
  | inl before ↦ inl before
  | inr now ↦ elim (first_or_rest x [] y now) [
    | inl same ↦ inr same
    | inr none ↦ absurd (nothing_in y none)
  ]
]

pub next_in : {A : Type 0} (xs : List A) (i : ℕ) (x y : A) → slice_get xs i ≡ Some x → Contains (take i xs) y ⊎ (x ≡ y) → Contains (take (i + 1) xs) y
next_in xs i x y is either = subst (λ l. Contains l y) (sym (take_more xs i x (slice_get_within xs i x is) (sym (get_or_from_slice_get xs i x x is)))) (elim either [
  | inl before ↦ Contains-append_left (take i xs) (x ∷ []) y before
  | inr same ↦ Contains-append_right (take i xs) (x ∷ []) y (subst (Contains (x ∷ [])) same (here x []))
])

-- one more of the items has the number
module _ (items : List Item) (i number : ℕ) (item : Item) (is : slice_get items i ≡ Some item) (first old new : List (Item × ℕ))
    (puts : (n : Item) → number_of new n ≡ cond (item_eq item n) (Some number) (number_of old n)) where
  pub those_next : ((n : Item) → Contains (take i items) n → number_of old n ≡ Some number) → (n : Item) → Contains (take (i + 1) items) n → number_of new n ≡ Some number
  those_next before n there = puts n ∙ elim (in_next items i item n is there) [
    | inl earlier ↦ by (item_eq item n) (before n earlier)
    | inr same ↦ ap (λ b. cond b (Some number) (number_of old n)) (subst (λ m. item_eq item m ≡ true) same (item_itself item))
  ]
    where
      by : (b : Bool) → number_of old n ≡ Some number → cond b (Some number) (number_of old n) ≡ Some number
      by true e = refl
      by false e = e

  pub others_next : ((n : Item) → (Contains (take i items) n → ⊥) → number_of old n ≡ number_of first n) → (n : Item) → (Contains (take (i + 1) items) n → ⊥) → number_of new n ≡ number_of first n
  others_next before n out = puts n ∙ by (item_eq item n) (item_same item n) ∙ before n (λ there. out (next_in items i item n is (inl there)))
    where
      by : (b : Bool) → (b ≡ true → item ≡ n) → cond b (Some number) (number_of old n) ≡ number_of old n
      by true same = absurd (out (next_in items i item n is (inr (same refl))))
      by false same = refl

-- the latest first add along the items
module _ (first : List (Item × ℕ)) (from : ℕ) (items : List Item) where
  pub latest_none : IsLatest first from (take 0 items) from
  latest_none = record { behind = omega arith; added = λ n at none added. absurd (nothing_in n none); least = λ bound up added. up }

  module _ (i : ℕ) (item : Item) (is : slice_get items i ≡ Some item) (latest : ℕ) (before : IsLatest first from (take i items) latest) where
    pub latest_same : number_of first item ≡ None → IsLatest first from (take (i + 1) items) latest
    latest_same none = record {
      behind = before.behind;
      added = λ n at there added. elim (in_next items i item n is there) [
        | inl earlier ↦ before.added n at earlier added
        | inr same ↦ absurd (let e = sym (subst (λ m. number_of first m ≡ None) same none) ∙ added in cc)
      ];
      least = λ bound up added. before.least bound up (λ n at there. added n at (next_in items i item n is (inl there)));
    }

    pub latest_next : (at next : ℕ) → number_of first item ≡ Some at → next ≡ max latest at → IsLatest first from (take (i + 1) items) next
    latest_next at next has later = subst (IsLatest first from (take (i + 1) items)) (sym later) (record {
      behind = let up = before.behind in let left = le-max_left latest at in omega (arith, up, left);
      added = λ n k there added. elim (in_next items i item n is there) [
        | inl earlier ↦ let up = before.added n k earlier added in let left = le-max_left latest at in omega (arith, up, left)
        | inr same ↦
            let e : ◌≡◌ {A = Option ℕ} (Some at) (Some k) = sym (subst (λ m. number_of first m ≡ Some at) same has) ∙ added in
            let one : at ≡ k = cc in
            subst (λ x. x ≤ max latest at) one (le-max_right latest at)
      ];
      least = λ bound up added. max-le (before.least bound up (λ n k there. added n k (next_in items i item n is (inl there)))) (added item at (next_in items i item item is (inr refl)) has);
    })
