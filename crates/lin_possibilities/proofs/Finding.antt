-- Items that are looked for among rising ones.
use Rattle.std.proofs.Common.{◌≡◌, ◌<◌, ℕ, true, false, List, length, get_or, sym, inl, inr, arith}
use Rattle.std.specs.List.{AllWithin, HoldsAt, list_any}
use Rattle.std.specs.declared.cmp.Ordering.TheVariants.{Less, Equal, Greater}
use Rattle.std.proofs.lemmas.Bool.{cases_Bool, cases_lt}
use Rattle.std.proofs.lemmas.List.Folds.{list_any_at, list_any_none}
use Rattle.lin_events.specs.declared.items.Item.{Item}
use Rattle.lin_events.specs.Sameness.{Decides-item_eq, items_tell}
use Rattle.lin_events.specs.Items.{item_cmp, item_eq}
use Rattle.lin_events.specs.lemmas.Rising.{is_equal}

pub is_found : (x : Item) (xs : List Item) (i : ℕ) → i < length xs → HoldsAt (λ y. item_cmp y x ≡ Equal) xs i → true ≡ list_any (item_eq x) xs
is_found x xs i within here =
    let y = get_or xs i x in
    sym (list_any_at (item_eq x) xs i x within ((Decides-item_eq x y).1 (sym (items_tell y x (here x)))))

other : (x y : Item) → (item_cmp y x ≡ Equal → ⊥) → item_eq x y ≡ false
other x y differ = elim (cases_Bool (item_eq x y)) [
  | inl yes' ↦ absurd (differ (is_equal y x (sym ((Decides-item_eq x y).0 yes'))))
  | inr no' ↦ no'
]

pub is_lacking : (x : Item) (xs : List Item) (i : ℕ) → AllWithin (λ y. item_cmp y x ≡ Less) xs 0 i → AllWithin (λ y. item_cmp y x ≡ Greater) xs i (length xs) → false ≡ list_any (item_eq x) xs
is_lacking x xs i below above = sym (list_any_none (item_eq x) xs (λ k d inside. other x (get_or xs k d) (λ e. elim (cases_lt k i) [
  | inl before ↦ let f = below k d (omega arith) before in cc
  | inr behind ↦ let f = above k d behind inside in cc
])))
