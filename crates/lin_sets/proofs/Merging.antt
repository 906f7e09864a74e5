-- Two rising lists that are compared by one pass through both.
use Rattle.std.proofs.Common.{◌≡◌, ◌<◌, ◌≤◌, ◌+◌, ◌⊎◌, ℕ, Bool, true, false, IsTrue, List, Contains, length, get_or, inl, inr, sym, ap, subst, ◌∙◌, arith}
use Rattle.std.proofs.lemmas.Bool.{cases_lt, true≢false}
use Rattle.std.proofs.lemmas.List.Elements.{Contains-get_or}
use Rattle.std.specs.Ordering.{ordering_reverse}
use Rattle.std.specs.declared.cmp.Ordering.TheVariants.{Less, Greater}
use Rattle.lin_lists.specs.Sets.{IsRising}
use Rattle.lin_lists.specs.lemmas.Rising as rising
use Rattle.lin_events.specs.declared.items.Item.{Item}
use Rattle.lin_events.specs.Items.{item_cmp}
use Rattle.lin_events.specs.Sameness.{items_total, items_tell}
use Rattle.lin_events.specs.lemmas.Rising.{rising_apart}
use Rattle.lin_sets.specs.Levels.{IsInside, IsOutside, IsLookedFor}
use Rattle.lin_sets.proofs.Finding.{any_default, not_there}

is_greater : (x y : Item) → item_cmp y x ≡ Less → item_cmp x y ≡ Greater
is_greater = rising.is_greater item_cmp items_total items_tell

pub is_less : (x y : Item) → item_cmp x y ≡ Greater → item_cmp y x ≡ Less
is_less x y greater = items_total.antisymm y x ∙ ap ordering_reverse greater

module _ (xs ys : List Item) (i j : ℕ) (seen : Bool) (half : IsLookedFor xs ys i j seen) where
  -- where the rest of the other list is above it, an item isn't there
  out_here : (d : Item) → i < length xs → ((k : ℕ) (e : Item) → j ≤ k → k < length ys → item_cmp (get_or xs i d) (get_or ys k e) ≡ Less) → IsOutside xs ys
  out_here d inside above = (
    get_or xs i d,
    Contains-get_or xs i d inside,
    not_there (get_or xs i d) ys j (λ k e from below. half.below k e d below inside) (λ k e from below. is_greater (get_or ys k e) (get_or xs i d) (above k e from below)),
  )

  module _ (up : IsRising item_cmp xs) where
    -- what was passed is below the next one too
    below_next : (d : Item) (k : ℕ) (e f : Item) → item_cmp (get_or ys k e) (get_or xs i d) ≡ Less → i + 1 < length xs → item_cmp (get_or ys k e) (get_or xs (i + 1) f) ≡ Less
    below_next d k e f less inside =
        let next = rising_apart xs up i (i + 1) f (omega arith) inside in
        let here : item_cmp (get_or ys k e) (get_or xs i f) ≡ Less = subst (λ x. item_cmp (get_or ys k e) x ≡ Less) (any_default xs i d f (omega (arith, inside))) less in
        items_total.trans (get_or ys k e) (get_or xs i f) (get_or xs (i + 1) f) here next

    -- an item that the other list lacks
    pub lacked : (d e : Item) → IsRising item_cmp ys → i < length xs → j < length ys → item_cmp (get_or xs i d) (get_or ys j e) ≡ Less → IsLookedFor xs ys (i + 1) j true
    lacked d e over inside within less = record {
      within = omega (arith, inside);
      out = λ _. out_here d inside (λ k f from below. elim (cases_lt j k) [
        | inl behind ↦ items_total.trans (get_or xs i d) (get_or ys j e) (get_or ys k f) less (subst (λ y. item_cmp y (get_or ys k f) ≡ Less) (any_default ys j f e within) (rising_apart ys over j k f behind below))
        | inr upto ↦
            let same : j ≡ k = omega (arith, upto, from) in
            subst (λ y. item_cmp (get_or xs i d) y ≡ Less) (any_default ys j e f within ∙ ap (λ n. get_or ys n f) same) less
      ]);
      found = λ no. absurd (true≢false no);
      below = λ k f g before more. below_next d k f g (half.below k f d before inside) more;
    }

    -- one that is there
    pub matched : (d e : Item) → i < length xs → j < length ys → get_or xs i d ≡ get_or ys j e → IsLookedFor xs ys (i + 1) (j + 1) seen
    matched d e inside within same = record {
      within = omega (arith, inside);
      out = half.out;
      found = λ none k f below. elim (cases_lt k i) [
        | inl before ↦ half.found none k f before
        | inr from ↦
            let at : i ≡ k = omega (arith, from, below) in
            (j, within, any_default ys j (get_or xs k f) e within ∙ sym same ∙ any_default xs i d f inside ∙ ap (λ n. get_or xs n f) at)
      ];
      below = λ k f g before more. elim (cases_lt k j) [
        | inl early ↦ below_next d k f g (half.below k f d early inside) more
        | inr late ↦
            let at : j ≡ k = omega (arith, late, before) in
            let next = rising_apart xs up i (i + 1) g (omega arith) more in
            let is : get_or xs i g ≡ get_or ys k f = any_default xs i g d inside ∙ same ∙ any_default ys j e f within ∙ ap (λ n. get_or ys n f) at in
            subst (λ y. item_cmp y (get_or xs (i + 1) g) ≡ Less) is next
      ];
    }

  -- the other list has one more, which is below
  pub passed_by : (d e : Item) → i < length xs → j < length ys → item_cmp (get_or ys j e) (get_or xs i d) ≡ Less → IsLookedFor xs ys i (j + 1) seen
  passed_by d e inside within less = record {
    within = half.within;
    out = half.out;
    found = half.found;
    below = λ k f g before more. elim (cases_lt k j) [
      | inl early ↦ half.below k f g early more
      | inr late ↦
          let at : j ≡ k = omega (arith, late, before) in
          let here : get_or ys j e ≡ get_or ys k f = any_default ys j e f within ∙ ap (λ n. get_or ys n f) at in
          subst (λ x. item_cmp (get_or ys k f) x ≡ Less) (any_default xs i d g inside) (subst (λ y. item_cmp y (get_or xs i d) ≡ Less) here less)
    ];
  }

  -- at the end of one of the lists
  pub all_found : seen ≡ false → length xs ≤ i → IsInside xs ys
  all_found none over item there = subst (Contains ys) there.2 (half.found none there.0 item (omega (arith, there.1, over)))

  pub some_out : (d : Item) → IsTrue seen ⊎ (i < length xs) → (i < length xs → length ys ≤ j) → IsOutside xs ys
  some_out d (inl one) over = half.out one
  some_out d (inr more) over = out_here d more (λ k e from below. let end = over more in let no : ⊥ = omega (arith, end, from, below) in absurd no)

-- the same of sets that are these lists
pub of_sets : (P : List Item → List Item → Type 0) (xs ys s t : List Item) → xs ≡ s → ys ≡ t → P xs ys → P s t
of_sets P xs ys s t first second is = subst (P s) second (subst (λ (l : List Item). P l ys) first is)
