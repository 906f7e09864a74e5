-- Lists that never fall, with items put in and taken out.
use Rattle.std.proofs.Common.{◌≡◌, ◌≢◌, ℕ, zero, suc, ◌<◌, ◌≤◌, List, [], ◌∷◌, ◌++◌, length, get_or, refl, sym, ap, ◌∙◌, ⊎_elim, subst, arith, cond, Bool, true, false, Some, ◌-◌}
use Rattle.std.specs.List.{All, insert, remove}
use Rattle.std.specs.Prelude.{slice_get}
use Rattle.std.specs.Ordering.{match_ordering}
use Rattle.std.proofs.lemmas.List.Elements.{All-cons, All-head, All-tail}
use Rattle.std.proofs.lemmas.Bool.{cases_lt}
use Rattle.std.proofs.lemmas.Option.{get_or_from_slice_get, slice_get-get_or, slice_get_within}
use Rattle.lin_events.specs.declared.items.Item.{Item}
use Rattle.lin_events.specs.Sameness.{Decides-item_eq}
use Rattle.lin_events.specs.Items.{item_eq}
use Rattle.lin_events.specs.lemmas.Rising.{is_equal, split}
use Rattle.lin_objects.specs.Bags.{NeverFalls, bag_of, with_one, without_one}
use Rattle.lin_objects.specs.inner.Taking.{IsFirstAt}
use Rattle.lin_objects.specs.lemmas.Order.{◌⊏◌, ◌⊑◌, above, at_itself, at_most, below_on, not_both, onward, ordered, same, up_below}

pub put_ahead : (x y : Item) (ys : List Item) → x ⊑ y → with_one x (y ∷ ys) ≡ x ∷ y ∷ ys
put_ahead x y ys h = split y x
    (λ q. absurd (not_both x y h q))
    (λ q. ap (λ o. match_ordering o (y ∷ with_one x ys) (x ∷ y ∷ ys) (x ∷ y ∷ ys)) (is_equal y x q))
    (λ q. ap (λ o. match_ordering o (y ∷ with_one x ys) (x ∷ y ∷ ys) (x ∷ y ∷ ys)) (above y x q))

pub put_behind : (x y : Item) (ys : List Item) → y ⊏ x → with_one x (y ∷ ys) ≡ y ∷ with_one x ys
put_behind x y ys h = ap (λ o. match_ordering o (y ∷ with_one x ys) (x ∷ y ∷ ys) (x ∷ y ∷ ys)) h

-- what holds of an item and of others holds of them together
all_with : (P : Item → Type 0) (x : Item) (xs : List Item) → P x → All P xs → All P (with_one x xs)
all_with P x [] p h = All-cons P x [] p h
all_with P x (y ∷ ys) p h = ⊎_elim
    (λ (q : x ⊑ y). subst (All P) (sym (put_ahead x y ys q)) (All-cons P x (y ∷ ys) p h))
    (λ (q : y ⊏ x). subst (All P) (sym (put_behind x y ys q)) (All-cons P y (with_one x ys) (All-head P y ys h) (all_with P x ys p (All-tail P y ys h))))
    (ordered x y)

pub at_most_all : (x y : Item) (ys : List Item) → x ⊑ y → All (λ z. y ⊑ z) ys → All (λ z. x ⊑ z) ys
at_most_all x y ys h all k d within = onward x y (get_or ys k d) h (all k d within)

pub falls_with : (x : Item) (xs : List Item) → NeverFalls xs → NeverFalls (with_one x xs)
falls_with x [] never = (λ k d h. absurd (omega arith), tt)
falls_with x (y ∷ ys) never = ⊎_elim
    (λ (q : x ⊑ y). subst NeverFalls (sym (put_ahead x y ys q)) (All-cons (λ z. x ⊑ z) y ys q (at_most_all x y ys q never.0), never))
    (λ (q : y ⊏ x). subst NeverFalls (sym (put_behind x y ys q)) (all_with (λ z. y ⊑ z) x ys (at_most y x q) never.0, falls_with x ys never.1))
    (ordered x y)

pub bag_never_falls : (xs : List Item) → NeverFalls (bag_of xs)
bag_never_falls [] = tt
bag_never_falls (x ∷ xs) = falls_with x (bag_of xs) (bag_never_falls xs)

pub put_first : (x : Item) (xs : List Item) → All (λ y. x ⊑ y) xs → with_one x xs ≡ x ∷ xs
put_first x [] h = refl
put_first x (y ∷ ys) h = put_ahead x y ys (All-head (λ z. x ⊑ z) y ys h)

-- a list that never falls is the bag of its items
pub bag_same : (xs : List Item) → NeverFalls xs → bag_of xs ≡ xs
bag_same [] never = refl
bag_same (x ∷ xs) never = ap (with_one x) (bag_same xs never.1) ∙ put_first x xs never.0

-- a greater item is put behind the first one, where it is put first among the others
over : (x y : Item) (l : List Item) → x ⊑ y → with_one y l ≡ y ∷ l → with_one y (x ∷ l) ≡ x ∷ y ∷ l
over x y l h first = split x y
    (λ q. put_behind y x l q ∙ ap (λ k. x ∷ k) first)
    (λ q. put_ahead y x l (at_itself y x (sym q)) ∙ subst (λ w. y ∷ w ∷ l ≡ w ∷ y ∷ l) (sym q) refl)
    (λ q. absurd (not_both x y h q))

-- a smaller item and a greater one
put_both : (x y : Item) (s : List Item) → x ⊑ y → with_one x (with_one y s) ≡ with_one y (with_one x s)
put_both x y [] h = put_ahead x y [] h ∙ sym (over x y [] h refl)
put_both x y (z ∷ zs) h = ⊎_elim
    (λ (q : x ⊑ z). ⊎_elim
    (λ (r : y ⊑ z). ap (with_one x) (put_ahead y z zs r) ∙ put_ahead x y (z ∷ zs) h ∙ sym (ap (with_one y) (put_ahead x z zs q) ∙ over x y (z ∷ zs) h (put_ahead y z zs r)))
    (λ (r : z ⊏ y).
    let below : x ⊏ y = up_below x z y q r in
    ap (with_one x) (put_behind y z zs r) ∙ put_ahead x z (with_one y zs) q
    ∙ sym (ap (with_one y) (put_ahead x z zs q) ∙ put_behind y x (z ∷ zs) below ∙ ap (λ l. x ∷ l) (put_behind y z zs r)))
    (ordered y z))
    (λ (q : z ⊏ x).
    let greater : z ⊏ y = below_on z x y q h in
    ap (with_one x) (put_behind y z zs greater) ∙ put_behind x z (with_one y zs) q ∙ ap (λ l. z ∷ l) (put_both x y zs h)
    ∙ sym (ap (with_one y) (put_behind x z zs q) ∙ put_behind y z (with_one x zs) greater))
    (ordered x z)

-- which of two items is put in first makes no difference
put_either : (x y : Item) (s : List Item) → with_one x (with_one y s) ≡ with_one y (with_one x s)
put_either x y s = ⊎_elim (λ (h : x ⊑ y). put_both x y s h) (λ (h : y ⊏ x). sym (put_both y x s (at_most y x h))) (ordered x y)

-- one item more, at the end of a list
pub bag_push : (xs : List Item) (y : Item) → bag_of (xs ++ y ∷ []) ≡ with_one y (bag_of xs)
bag_push [] y = refl
bag_push (x ∷ xs) y = ap (with_one x) (bag_push xs y) ∙ put_either x y (bag_of xs)

-- the same of bags of items
pub bag_either : (x y : Item) (q : List Item) → bag_of (x ∷ bag_of (y ∷ q)) ≡ bag_of (y ∷ bag_of (x ∷ q))
bag_either x y q = one x y ∙ put_either x y (bag_of q) ∙ sym (one y x)
  where
    one : (x y : Item) → bag_of (x ∷ bag_of (y ∷ q)) ≡ with_one x (with_one y (bag_of q))
    one x y = ap (with_one x) (bag_same (bag_of (y ∷ q)) (bag_never_falls (y ∷ q)))

-- an item put behind those that are below it and ahead of one that isn't
pub put_at : (x : Item) (xs : List Item) (i : ℕ) → i ≤ length xs → ((k : ℕ) (d : Item) → k < i → get_or xs k d ⊏ x) → ((d : Item) → i < length xs → x ⊑ get_or xs i d) → with_one x xs ≡ insert xs i x
put_at x [] zero le below above = refl
put_at x [] (suc i) le below above = absurd (omega arith)
put_at x (y ∷ ys) zero le below above = put_ahead x y ys (above y (omega arith))
put_at x (y ∷ ys) (suc i) le below above =
    put_behind x y ys (below 0 y (omega arith)) ∙ ap (λ l. y ∷ l) (put_at x ys i (omega arith) (λ k d h. below (suc k) d (omega arith)) (λ d h. above d (omega arith)))

-- an item taken out where it stands first
pub taken_at : (x : Item) (xs : List Item) (i : ℕ) → i < length xs → ((k : ℕ) (d : Item) → k < i → get_or xs k d ≢ x) → ((d : Item) → get_or xs i d ≡ x) → remove xs i ≡ without_one x xs
taken_at x [] i h before there = absurd (omega arith)
taken_at x (y ∷ ys) zero h before there = ap (λ b. cond b ys (y ∷ without_one x ys)) (sym ((Decides-item_eq y x).1 (there y)))
taken_at x (y ∷ ys) (suc i) h before there = ap (λ l. y ∷ l) (taken_at x ys i (omega arith) (λ k d lt. before (suc k) d (omega arith)) there) ∙ ap (λ b. cond b ys (y ∷ without_one x ys)) (sym (other (item_eq y x) refl))
  where
    other : (b : Bool) → item_eq y x ≡ b → item_eq y x ≡ false
    other false e = e
    other true e = absurd (before 0 y (omega arith) ((Decides-item_eq y x).0 e))

all_but : (P : Item → Type 0) (xs : List Item) (i : ℕ) → All P xs → All P (remove xs i)
all_but P [] zero all = all
all_but P [] (suc i) all = all
all_but P (x ∷ xs) zero all = All-tail P x xs all
all_but P (x ∷ xs) (suc i) all = All-cons P x (remove xs i) (All-head P x xs all) (all_but P xs i (All-tail P x xs all))

pub falls_but : (xs : List Item) (i : ℕ) → NeverFalls xs → NeverFalls (remove xs i)
falls_but [] zero never = never
falls_but [] (suc i) never = never
falls_but (x ∷ xs) zero never = never.1
falls_but (x ∷ xs) (suc i) never = (all_but (λ y. x ⊑ y) xs i never.0, falls_but xs i never.1)

-- earlier items are at most later ones
pub never_apart : (xs : List Item) → NeverFalls xs → (i j : ℕ) (d : Item) → i < j → j < length xs → get_or xs i d ⊑ get_or xs j d
never_apart [] never i j d h within = absurd (omega arith)
never_apart (x ∷ xs) never i zero d h within = absurd (omega arith)
never_apart (x ∷ xs) never zero (suc j) d h within = never.0 j d (omega arith)
never_apart (x ∷ xs) never (suc i) (suc j) d h within = never_apart xs never.1 i j d (omega arith) (omega arith)

-- an item that stands first where it stands is the one that is taken out
pub first_taken : (xs : List Item) (at : ℕ) (x : Item) → slice_get xs at ≡ Some x → IsFirstAt xs at → remove xs at ≡ without_one x xs
first_taken xs at x there first = taken_at x xs at (slice_get_within xs at x there)
    (λ k d lt e. first k lt (slice_get-get_or xs k d (within k lt) ∙ ap Some e ∙ sym there))
    (λ d. get_or_from_slice_get xs at x d there)
  where
    within : (k : ℕ) → k < at → k < length xs
    within k lt = let h = slice_get_within xs at x there in omega arith

-- an item that stands ahead of its place stands just ahead of it
pub just_ahead : (xs : List Item) (k at : ℕ) (d : Item) → NeverFalls xs → k < at → at < length xs → slice_get xs k ≡ slice_get xs at → get_or xs (at - 1) d ≡ get_or xs at d
just_ahead xs k at d never lt within alike =
    let e : get_or xs k d ≡ get_or xs at d = get_or_from_slice_get xs k (get_or xs at d) d (alike ∙ slice_get-get_or xs at d within) in
    ⊎_elim
    (λ (h : k < at - 1).
    let up : get_or xs k d ⊑ get_or xs (at - 1) d = never_apart xs never k (at - 1) d h (omega arith) in
    let on : get_or xs (at - 1) d ⊑ get_or xs at d = never_apart xs never (at - 1) at d (omega arith) within in
    same (get_or xs (at - 1) d) (get_or xs at d) on (subst (λ y. y ⊑ get_or xs (at - 1) d) e up))
    (λ (h : at - 1 ≤ k). let there : at - 1 ≡ k = omega arith in ap (λ i. get_or xs i d) there ∙ e)
    (cases_lt k (at - 1))
