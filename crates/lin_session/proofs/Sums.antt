-- Sums over the keys of a history.
use Rattle.std.proofs.Common.{◌≡◌, ◌≢◌, ◌+◌, ◌<◌, ◌≤◌, ◌⊎◌, ℕ, suc, Bool, true, false, cond, not, List, [], ◌∷◌, length, slice_get, take, Some, inl, inr, refl, sym, ap, subst, ◌∙◌, arith, add-one}
use Rattle.std.specs.Prelude.{◌||◌, filter}
use Rattle.std.specs.List.{list_any, sum_by}
use Rattle.std.proofs.lemmas.Bool.{false≢true}
use Rattle.std.proofs.lemmas.List.Filters.{sum_by-filter_both}
use Rattle.std.proofs.lemmas.List.Sums.{sum_by-cons, sum_by_push}
use Rattle.lin_events.specs.declared.items.Item.{Item}
use Rattle.lin_events.specs.Sameness.{Decides-item_eq}
use Rattle.lin_events.specs.Items.{item_eq}
use Rattle.lin_events.specs.declared.events.Event.{Event}
use Rattle.lin_order.specs.Parts.{part}
use Rattle.lin_session.specs.Work.{keys_of}
use Rattle.lin_session.proofs.Around.{part-same}
use Rattle.lin_session.proofs.Listed.{IsOnce, once_head, once_rest}
use Rattle.lin_lists.specs.lemmas.Lists.{take_next}

-- an element is in a list
abbrev pub IsIn : Item → List Item → Type 0
IsIn x xs = list_any (item_eq x) xs ≡ true

-- the other elements
abbrev others : Item → List Item → List Item
others x xs = filter (λ y. not (item_eq x y)) xs

same_key : (x y : Item) → item_eq x y ≡ true → x ≡ y
same_key x y e = (Decides-item_eq x y).0 e

other_key : (x y : Item) → x ≢ y → item_eq x y ≡ false
other_key x y other = by (item_eq x y) refl
  where
    by : (b : Bool) → item_eq x y ≡ b → item_eq x y ≡ false
    by true e = absurd (other (same_key x y e))
    by false e = e

pub sum_head : (f : Item → ℕ) (x : Item) (xs : List Item) → sum_by f (x ∷ xs) ≡ f x + sum_by f xs
sum_head f x xs = sum_by-cons f x xs

in_others : (x z : Item) (ys : List Item) → x ≢ z → IsIn z ys → IsIn z (others x ys)
in_others x z [] other there = absurd (false≢true there)
in_others x z (y ∷ ys) other there = by (λ in_ys. in_others x z ys other in_ys) (item_eq z y) refl (item_eq x y) refl
  where
    by : (IsIn z ys → IsIn z (others x ys)) → (a : Bool) → item_eq z y ≡ a → (b : Bool) → item_eq x y ≡ b → IsIn z (others x (y ∷ ys))
    by rest true e true f = absurd (other (same_key x y f ∙ sym (same_key z y e)))
    by rest true e false f = ap (λ c. list_any (item_eq z) (cond (not c) (y ∷ others x ys) (others x ys))) f ∙ ap (λ c. c || list_any (item_eq z) (others x ys)) e
    by rest false e true f =
        ap (λ c. list_any (item_eq z) (cond (not c) (y ∷ others x ys) (others x ys))) f ∙ rest (sym (ap (λ c. c || list_any (item_eq z) ys) e) ∙ there)
    by rest false e false f =
        ap (λ c. list_any (item_eq z) (cond (not c) (y ∷ others x ys) (others x ys))) f ∙ ap (λ c. c || list_any (item_eq z) (others x ys)) e
        ∙ rest (sym (ap (λ c. c || list_any (item_eq z) ys) e) ∙ there)

-- a key with an event is one of the history's
pub in_keys : (h : List Event) (x : Item) → 0 < length (part x h) → IsIn x (keys_of h)
in_keys [] x some = absurd (omega (arith, some))
in_keys (event ∷ h) x some = by (λ more. in_keys h x more) (item_eq event.key x) refl
  where
    by : (0 < length (part x h) → IsIn x (keys_of h)) → (b : Bool) → item_eq event.key x ≡ b → IsIn x (keys_of (event ∷ h))
    by rest true e = ap (λ c. c || list_any (item_eq x) (others event.key (keys_of h))) ((Decides-item_eq x event.key).1 (sym (same_key event.key x e)))
    by rest false e =
        let other : event.key ≢ x = λ same. absurd (false≢true (sym e ∙ (Decides-item_eq event.key x).1 same)) in
        let more : 0 < length (part x h) = omega (arith, some, ap length (part-same x event h other)) in
        ap (λ c. c || list_any (item_eq x) (others event.key (keys_of h))) (other_key x event.key (λ same. other (sym same))) ∙ in_others event.key x (keys_of h) other (rest more)

-- each key is there once
abbrev pub Differ : List Item → Type 0
Differ [] = Unit {0}
Differ (x ∷ xs) = (IsIn x xs → ⊥) × Differ xs

from_others : (x z : Item) (ys : List Item) → IsIn z (others x ys) → IsIn z ys
from_others x z [] there = there
from_others x z (y ∷ ys) there = by (λ kept. from_others x z ys kept) (item_eq x y) refl (item_eq z y) refl
  where
    by : (IsIn z (others x ys) → IsIn z ys) → (b : Bool) → item_eq x y ≡ b → (c : Bool) → item_eq z y ≡ c → IsIn z (y ∷ ys)
    by rest b e true f = ap (λ c. c || list_any (item_eq z) ys) f
    by rest true e false f =
        ap (λ c. c || list_any (item_eq z) ys) f ∙ rest (sym (ap (λ c. list_any (item_eq z) (cond (not c) (y ∷ others x ys) (others x ys))) e) ∙ there)
    by rest false e false f =
        ap (λ c. c || list_any (item_eq z) ys) f
        ∙ rest (sym (ap (λ c. c || list_any (item_eq z) (others x ys)) f) ∙ sym (ap (λ c. list_any (item_eq z) (cond (not c) (y ∷ others x ys) (others x ys))) e) ∙ there)

not_in_others : (x : Item) (ys : List Item) → IsIn x (others x ys) → ⊥
not_in_others x [] there = false≢true there
not_in_others x (y ∷ ys) there = by (λ kept. not_in_others x ys kept) (item_eq x y) refl
  where
    by : (IsIn x (others x ys) → ⊥) → (b : Bool) → item_eq x y ≡ b → ⊥
    by rest true e = rest (sym (ap (λ c. list_any (item_eq x) (cond (not c) (y ∷ others x ys) (others x ys))) e) ∙ there)
    by rest false e = rest (sym (ap (λ c. c || list_any (item_eq x) (others x ys)) e) ∙ sym (ap (λ c. list_any (item_eq x) (cond (not c) (y ∷ others x ys) (others x ys))) e) ∙ there)

Differ-others : (x : Item) (ys : List Item) → Differ ys → Differ (others x ys)
Differ-others x [] differ = tt
Differ-others x (y ∷ ys) differ = by (Differ-others x ys differ.1) (item_eq x y) refl
  where
    by : Differ (others x ys) → (b : Bool) → item_eq x y ≡ b → Differ (others x (y ∷ ys))
    by rest true e = subst (λ c. Differ (cond (not c) (y ∷ others x ys) (others x ys))) (sym e) rest
    by rest false e = subst (λ c. Differ (cond (not c) (y ∷ others x ys) (others x ys))) (sym e) ((λ there. differ.0 (from_others x y ys there)), rest)

pub keys_differ : (h : List Event) → Differ (keys_of h)
keys_differ [] = tt
keys_differ (event ∷ h) = (not_in_others event.key (keys_of h), Differ-others event.key (keys_of h) (keys_differ h))

-- sums of which each term is within others
pub sum_within : (f g e : Item → ℕ) (xs : List Item) → ((x : Item) → f x ≤ g x + e x) → sum_by f xs ≤ sum_by g xs + sum_by e xs
sum_within f g e [] each = omega arith
sum_within f g e (x ∷ xs) each = omega (arith, sum_head f x xs, sum_head g x xs, sum_head e x xs, each x, sum_within f g e xs each)

pub sum_both : (f g e : Item → ℕ) (xs : List Item) → ((x : Item) → f x + g x ≤ e x) → sum_by f xs + sum_by g xs ≤ sum_by e xs
sum_both f g e [] each = omega arith
sum_both f g e (x ∷ xs) each = omega (arith, sum_head f x xs, sum_head g x xs, sum_head e x xs, each x, sum_both f g e xs each)

pub sum_by-same : (f g : Item → ℕ) (xs : List Item) → ((x : Item) → f x ≡ g x) → sum_by f xs ≡ sum_by g xs
sum_by-same f g [] same = refl
sum_by-same f g (x ∷ xs) same = omega (arith, same x, sum_head f x xs, sum_head g x xs, sum_by-same f g xs same)

-- one more of them
pub sum_next : (f : Item → ℕ) (xs : List Item) (i : ℕ) (x : Item) → slice_get xs i ≡ Some x → sum_by f (take (i + 1) xs) ≡ sum_by f (take i xs) + f x
sum_next f xs i x at = ap (λ n. sum_by f (take n xs)) (add-one i) ∙ ap (sum_by f) (take_next i xs x at) ∙ sum_by_push f (take i xs) x

-- a sum over keys that differ, and that are in another list unless they add nothing
others_sum : (f : Item → ℕ) (x : Item) (ys : List Item) → sum_by f (others x ys) ≤ sum_by f ys
others_sum f x ys = omega (arith, sum_by-filter_both (λ y. not (item_eq x y)) (λ y. not (not (item_eq x y))) (λ y. refl) f ys)

taken_sum : (f : Item → ℕ) (x : Item) (ys : List Item) → IsIn x ys → f x + sum_by f (others x ys) ≤ sum_by f ys
taken_sum f x [] there = absurd (false≢true there)
taken_sum f x (y ∷ ys) there = by (λ in_ys. taken_sum f x ys in_ys) (item_eq x y) refl
  where
    by : (IsIn x ys → f x + sum_by f (others x ys) ≤ sum_by f ys) → (b : Bool) → item_eq x y ≡ b → f x + sum_by f (others x (y ∷ ys)) ≤ sum_by f (y ∷ ys)
    by rest true e =
        let dropped = ap (λ c. sum_by f (cond (not c) (y ∷ others x ys) (others x ys))) e in
        omega (arith, dropped, ap f (same_key x y e), others_sum f x ys, sum_head f y ys)
    by rest false e =
        let kept = ap (λ c. sum_by f (cond (not c) (y ∷ others x ys) (others x ys))) e in
        omega (arith, kept, sum_head f y (others x ys), sum_head f y ys, rest (sym (ap (λ c. c || list_any (item_eq x) ys) e) ∙ there))

pub sum_listed : (f : Item → ℕ) (xs ys : List Item) → IsOnce xs → ((i : ℕ) (x : Item) → slice_get xs i ≡ Some x → (f x ≡ 0) ⊎ IsIn x ys) → sum_by f xs ≤ sum_by f ys
sum_listed f [] ys once inside = omega arith
sum_listed f (x ∷ xs) ys once inside = elim (inside 0 x refl) [
  | inl nothing ↦ omega (arith, nothing, sum_head f x xs, sum_listed f xs ys (once_rest x xs once) (λ i z at. inside (suc i) z at))
  | inr there ↦
      let rest = sum_listed f xs (others x ys) (once_rest x xs once) (λ i z at. elim (inside (suc i) z at) [
        | inl nothing ↦ inl nothing
        | inr in_ys ↦ inr (in_others x z ys (once_head x xs once i z at) in_ys)
      ]) in
      omega (arith, rest, sum_head f x xs, taken_sum f x ys there)
]

-- a key that isn't among them adds nothing
sum_away : (f g e : Item → ℕ) (key : Item) (xs : List Item) → (IsIn key xs → ⊥) → ((x : Item) → x ≢ key → f x ≤ g x + e x) → sum_by f xs ≤ sum_by g xs + sum_by e xs
sum_away f g e key [] absent each = omega arith
sum_away f g e key (x ∷ xs) absent each =
    let other : x ≢ key = λ same. absent (ap (λ c. c || list_any (item_eq key) xs) ((Decides-item_eq key x).1 (sym same))) in
    let rest = sum_away f g e key xs (λ there. absent (by (item_eq key x) there)) each in
    omega (arith, sum_head f x xs, sum_head g x xs, sum_head e x xs, each x other, rest)
  where
    by : (b : Bool) → IsIn key xs → (b || list_any (item_eq key) xs) ≡ true
    by true there = refl
    by false there = there

-- where the term of one of them is within others and what is more
pub sum_one : (f g e : Item → ℕ) (key : Item) (xs : List Item) (after before : ℕ) → Differ xs → IsIn key xs → ((x : Item) → x ≢ key → f x ≤ g x + e x) → after + f key ≤ before + g key + e key
    → after + sum_by f xs ≤ before + sum_by g xs + sum_by e xs
sum_one f g e key [] after before differ there each one = absurd (false≢true there)
sum_one f g e key (x ∷ xs) after before differ there each one = by (λ in_xs. sum_one f g e key xs after before differ.1 in_xs each one) (item_eq key x) refl
  where
    by : (IsIn key xs → after + sum_by f xs ≤ before + sum_by g xs + sum_by e xs) → (b : Bool) → item_eq key x ≡ b → after + sum_by f (x ∷ xs) ≤ before + sum_by g (x ∷ xs) + sum_by e (x ∷ xs)
    by more true is =
        let same : key ≡ x = same_key key x is in
        let rest = sum_away f g e key xs (λ in_xs. differ.0 (subst (λ k. IsIn k xs) same in_xs)) each in
        omega (arith, sum_head f x xs, sum_head g x xs, sum_head e x xs, one, ap f same, ap g same, ap e same, rest)
    by more false is =
        let rest = more (sym (ap (λ c. c || list_any (item_eq key) xs) is) ∙ there) in
        omega (arith, sum_head f x xs, sum_head g x xs, sum_head e x xs, each x (λ same. false≢true (sym is ∙ (Decides-item_eq key x).1 (sym same))), rest)
