-- Items put into bags and taken out of them.
use Rattle.std.proofs.Common.{◌≡◌, ◌≢◌, suc, List, [], ◌∷◌, Bool, true, false, cond, length, Contains, All, IsPermutation, refl, sym, ap, ◌∙◌, inl, inr, subst, arith}
use Rattle.std.proofs.lemmas.List.Elements.{All-cons, All-contains, All-head, All-tail, Contains-append_right}
use Rattle.std.proofs.lemmas.List.Sorted.{Contains-permutation, IsPermutation-cons, IsPermutation-middle, IsPermutation-refl, IsPermutation-sym, IsPermutation-trans, length_permutation}
use Rattle.lin_events.specs.declared.items.Item.{Item}
use Rattle.lin_events.specs.Sameness.{Decides-item_eq}
use Rattle.lin_events.specs.Items.{item_eq}
use Rattle.lin_lists.specs.lemmas.Elements.{first_or_rest, nothing_in}
use Rattle.lin_objects.specs.Bags.{NeverFalls, bag_of, with_one, without_one}
use Rattle.lin_objects.specs.lemmas.Bags.{at_most_all, bag_never_falls, put_ahead, put_behind, put_first}
use Rattle.lin_objects.specs.lemmas.Order.{◌⊑◌, apart, below, ordered, this_or_other}

pub out_first : (x y : Item) (ys : List Item) → y ≡ x → without_one x (y ∷ ys) ≡ ys
out_first x y ys same = ap (λ b. cond b ys (y ∷ without_one x ys)) ((Decides-item_eq y x).1 same)

pub out_later : (x y : Item) (ys : List Item) → y ≢ x → without_one x (y ∷ ys) ≡ y ∷ without_one x ys
out_later x y ys differ = by (item_eq y x) refl
  where
    by : (b : Bool) → item_eq y x ≡ b → without_one x (y ∷ ys) ≡ y ∷ without_one x ys
    by true e = absurd (differ ((Decides-item_eq y x).0 e))
    by false e = ap (λ b. cond b ys (y ∷ without_one x ys)) e

-- a bag has what was put into it
put_permutes : (x : Item) (xs : List Item) → IsPermutation (x ∷ xs) (with_one x xs)
put_permutes x [] = IsPermutation-refl (x ∷ [])
put_permutes x (y ∷ ys) = elim (ordered x y) [
  | inl ahead ↦ subst (IsPermutation (x ∷ y ∷ ys)) (sym (put_ahead x y ys ahead)) (IsPermutation-refl (x ∷ y ∷ ys))
  | inr behind ↦ subst (IsPermutation (x ∷ y ∷ ys)) (sym (put_behind x y ys behind))
      (IsPermutation-trans _ _ _ (IsPermutation-middle (x ∷ []) y ys) (IsPermutation-cons y _ _ (put_permutes x ys)))
]

bag_permutes : (xs : List Item) → IsPermutation xs (bag_of xs)
bag_permutes [] = IsPermutation-refl []
bag_permutes (x ∷ xs) = IsPermutation-trans _ _ _ (IsPermutation-cons x _ _ (bag_permutes xs)) (put_permutes x (bag_of xs))

pub in_bag : (xs : List Item) (x : Item) → Contains xs x → Contains (bag_of xs) x
in_bag xs x there = Contains-permutation xs (bag_of xs) x (bag_permutes xs) there

pub from_bag : (xs : List Item) (x : Item) → Contains (bag_of xs) x → Contains xs x
from_bag xs x there = Contains-permutation (bag_of xs) xs x (IsPermutation-sym _ _ (bag_permutes xs)) there

pub bag_long : (xs : List Item) → length (bag_of xs) ≡ length xs
bag_long xs = length_permutation xs (bag_of xs) (bag_permutes xs)

-- what was put in is taken out
out_again : (x : Item) (xs : List Item) → without_one x (with_one x xs) ≡ xs
out_again x [] = out_first x x [] refl
out_again x (y ∷ ys) = elim (ordered x y) [
  | inl ahead ↦ ap (without_one x) (put_ahead x y ys ahead) ∙ out_first x x (y ∷ ys) refl
  | inr behind ↦ ap (without_one x) (put_behind x y ys behind) ∙ out_later x y (with_one x ys) (apart y x behind) ∙ ap (λ l. y ∷ l) (out_again x ys)
]

all_without : (P : Item → Type 0) (x : Item) (xs : List Item) → All P xs → All P (without_one x xs)
all_without P x [] all = all
all_without P x (y ∷ ys) all = elim (this_or_other y x) [
  | inl same ↦ subst (All P) (sym (out_first x y ys same)) (All-tail P y ys all)
  | inr differ ↦ subst (All P) (sym (out_later x y ys differ)) (All-cons P y (without_one x ys) (All-head P y ys all) (all_without P x ys (All-tail P y ys all)))
]

-- another item is taken out before or after
out_of_other : (x v : Item) (xs : List Item) → x ≢ v → NeverFalls xs → without_one v (with_one x xs) ≡ with_one x (without_one v xs)
out_of_other x v [] differ never = out_later v x [] differ
out_of_other x v (z ∷ zs) differ never = elim (ordered x z) [
  | inl ahead ↦
      ap (without_one v) (put_ahead x z zs ahead) ∙ out_later v x (z ∷ zs) differ
      ∙ sym (put_first x (without_one v (z ∷ zs)) (all_without (λ y. x ⊑ y) v (z ∷ zs) (All-cons (λ y. x ⊑ y) z zs ahead (at_most_all x z zs ahead never.0))))
  | inr behind ↦ ap (without_one v) (put_behind x z zs behind) ∙ elim (this_or_other z v) [
    | inl same ↦ out_first v z (with_one x zs) same ∙ ap (with_one x) (sym (out_first v z zs same))
    | inr other ↦
        out_later v z (with_one x zs) other ∙ ap (λ l. z ∷ l) (out_of_other x v zs differ never.1)
        ∙ sym (ap (with_one x) (out_later v z zs other) ∙ put_behind x z (without_one v zs) behind)
  ]
]

-- what was taken out is put back
put_back : (v : Item) (xs : List Item) → NeverFalls xs → Contains xs v → with_one v (without_one v xs) ≡ xs
put_back v [] never there = absurd (nothing_in v there)
put_back v (z ∷ zs) never there = elim (this_or_other z v) [
  | inl same ↦
      ap (with_one v) (out_first v z zs same) ∙ put_first v zs (subst (λ w. All (λ y. w ⊑ y) zs) same never.0) ∙ ap (λ w. w ∷ zs) (sym same)
  | inr differ ↦ elim (first_or_rest z zs v there) [
    | inl same ↦ absurd (differ same)
    | inr later ↦
        let least : z ⊑ v = All-contains (λ y. z ⊑ y) zs v never.0 later in
        ap (with_one v) (out_later v z zs differ) ∙ put_behind v z (without_one v zs) (below z v least differ) ∙ ap (λ l. z ∷ l) (put_back v zs never.1 later)
  ]
]

out_of_bag : (v : Item) (xs : List Item) → without_one v (bag_of xs) ≡ bag_of (without_one v xs)
out_of_bag v [] = refl
out_of_bag v (z ∷ zs) = elim (this_or_other z v) [
  | inl same ↦ subst (λ w. without_one w (with_one z (bag_of zs)) ≡ bag_of zs) same (out_again z (bag_of zs)) ∙ ap bag_of (sym (out_first v z zs same))
  | inr differ ↦ out_of_other z v (bag_of zs) differ (bag_never_falls zs) ∙ ap (with_one z) (out_of_bag v zs) ∙ ap bag_of (sym (out_later v z zs differ))
]

-- an item that is inside is taken out before another one is put in, or after
pub bag_without : (x v : Item) (q : List Item) → Contains q v → without_one v (bag_of (x ∷ q)) ≡ bag_of (x ∷ without_one v q)
bag_without x v q there = elim (this_or_other x v) [
  | inl same ↦
      subst (λ w. without_one w (with_one x (bag_of q)) ≡ bag_of q) same (out_again x (bag_of q))
      ∙ sym (ap (with_one x) (sym (out_of_bag v q)) ∙ subst (λ w. with_one w (without_one v (bag_of q)) ≡ bag_of q) (sym same) (put_back v (bag_of q) (bag_never_falls q) (in_bag q v there)))
  | inr differ ↦ out_of_other x v (bag_of q) differ (bag_never_falls q) ∙ ap (with_one x) (out_of_bag v q)
]

-- which of two is taken out first makes no difference
pub out_either : (v y : Item) (q : List Item) → without_one v (without_one y q) ≡ without_one y (without_one v q)
out_either v y [] = refl
out_either v y (z ∷ zs) = elim (this_or_other z v) [
  | inl same ↦ elim (this_or_other z y) [
    | inl too ↦ subst (λ w. without_one v (without_one w (z ∷ zs)) ≡ without_one w (without_one v (z ∷ zs))) (sym same ∙ too) refl
    | inr differ ↦ ap (without_one v) (out_later y z zs differ) ∙ out_first v z (without_one y zs) same ∙ sym (ap (without_one y) (out_first v z zs same))
  ]
  | inr other ↦ elim (this_or_other z y) [
    | inl same ↦ ap (without_one v) (out_first y z zs same) ∙ sym (ap (without_one y) (out_later v z zs other) ∙ out_first y z (without_one v zs) same)
    | inr differ ↦
        ap (without_one v) (out_later y z zs differ) ∙ out_later v z (without_one y zs) other ∙ ap (λ l. z ∷ l) (out_either v y zs)
        ∙ sym (ap (without_one y) (out_later v z zs other) ∙ out_later y z (without_one v zs) differ)
  ]
]

-- what isn't taken out stays
pub still_in : (y v : Item) (q : List Item) → y ≢ v → Contains q v → Contains (without_one y q) v
still_in y v [] differ there = there
still_in y v (z ∷ zs) differ there = elim (this_or_other z y) [
  | inl same ↦ subst (λ l. Contains l v) (sym (out_first y z zs same)) (elim (first_or_rest z zs v there) [
    | inl is ↦ absurd (differ (sym same ∙ is))
    | inr later ↦ later
  ])
  | inr other ↦ subst (λ l. Contains l v) (sym (out_later y z zs other)) (elim (first_or_rest z zs v there) [
    | inl is ↦ (0, omega arith, is)
    | inr later ↦ Contains-append_right (z ∷ []) (without_one y zs) v (still_in y v zs differ later)
  ])
]

-- nothing comes by taking out
pub was_in : (y v : Item) (q : List Item) → Contains (without_one y q) v → Contains q v
was_in y v [] there = there
was_in y v (z ∷ zs) there = elim (this_or_other z y) [
  | inl same ↦ Contains-append_right (z ∷ []) zs v (subst (λ l. Contains l v) (out_first y z zs same) there)
  | inr other ↦ elim (first_or_rest z (without_one y zs) v (subst (λ l. Contains l v) (out_later y z zs other) there)) [
    | inl is ↦ (0, omega arith, is)
    | inr later ↦ Contains-append_right (z ∷ []) zs v (was_in y v zs later)
  ]
]

pub one_less : (y : Item) (q : List Item) → Contains q y → suc (length (without_one y q)) ≡ length q
one_less y [] there = absurd (nothing_in y there)
one_less y (z ∷ zs) there = elim (this_or_other z y) [
  | inl same ↦ ap (λ l. suc (length l)) (out_first y z zs same)
  | inr other ↦ elim (first_or_rest z zs y there) [
    | inl is ↦ absurd (other is)
    | inr later ↦ ap (λ l. suc (length l)) (out_later y z zs other) ∙ ap suc (one_less y zs later)
  ]
]
