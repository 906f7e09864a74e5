-- Sets of items: what holds of strictly rising lists, at the order of items.
use Rattle.std.proofs.Common.{◌≡◌, ℕ, List, ◌∷◌, [], ◌++◌, ◌+◌, ◌-◌, ◌<◌, ◌≤◌, length, get_or, ◌⊎◌, ◌↔◌, Contains, IsPermutation, IsSorted}
use Rattle.std.specs.List.{insert, dedup, AllWithin, HoldsAt}
use Rattle.std.specs.List.Sorted.{IsNonDecreasingBy}
use Rattle.std.specs.Ordering.{ordering_index}
use Rattle.std.specs.declared.cmp.Ordering.TheVariants.{Less, Equal, Greater}
use Rattle.lin_lists.specs.Sets.{IsRising, with_member, members_of}
use Rattle.lin_lists.specs.lemmas.Rising as rising
use Rattle.lin_events.specs.declared.items.Item.{Item}
use Rattle.lin_events.specs.Items.{item_cmp, item_eq}
use Rattle.lin_events.specs.Sameness.{items_total, items_tell, ties}

pub contains_first : (x : Item) (xs : List Item) → Contains (x ∷ xs) x
contains_first = rising.contains_first item_cmp items_total items_tell

pub split : {G : Type 0} (x y : Item) → (item_cmp x y ≡ Less → G) → (x ≡ y → G) → (item_cmp y x ≡ Less → G) → G
split x y less equal greater = rising.split item_cmp items_total items_tell x y (λ _ h. less h) (λ _ h. equal h) (λ _ h. greater h)

pub is_equal : (x y : Item) → x ≡ y → item_cmp x y ≡ Equal
is_equal = rising.is_equal item_cmp items_total items_tell

pub rising_with : (x : Item) (xs : List Item) → IsRising item_cmp xs → IsRising item_cmp (with_member item_cmp x xs)
rising_with = rising.rising_with item_cmp items_total items_tell

pub with_has : (x : Item) (xs : List Item) → Contains (with_member item_cmp x xs) x
with_has = rising.with_has item_cmp items_total items_tell

pub with_keeps : (x z : Item) (xs : List Item) → Contains xs z → Contains (with_member item_cmp x xs) z
with_keeps = rising.with_keeps item_cmp items_total items_tell

pub with_adds_none : (x z : Item) (xs : List Item) → Contains (with_member item_cmp x xs) z → (z ≡ x) ⊎ Contains xs z
with_adds_none = rising.with_adds_none item_cmp items_total items_tell

pub has_member : (x y : Item) (xs : List Item) → Contains (with_member item_cmp x xs) y ↔ ((y ≡ x) ⊎ Contains xs y)
has_member = rising.has_member item_cmp items_total items_tell

pub same_sets : (xs ys : List Item) → IsRising item_cmp xs → IsRising item_cmp ys → ((z : Item) → Contains xs z ↔ Contains ys z) → xs ≡ ys
same_sets = rising.same_sets item_cmp items_total items_tell

pub members_are : (xs ys : List Item) → IsRising item_cmp ys → ((y : Item) → Contains ys y ↔ Contains xs y) → ys ≡ members_of item_cmp xs
members_are = rising.members_are item_cmp items_total items_tell

pub with_at : (x : Item) (xs : List Item) (i : ℕ) → i ≤ length xs → AllWithin (λ y. item_cmp y x ≡ Less) xs 0 i →
    AllWithin (λ y. item_cmp y x ≡ Greater) xs i (length xs) → with_member item_cmp x xs ≡ insert xs i x
with_at = rising.with_at item_cmp items_total items_tell

pub rising_apart : (xs : List Item) → IsRising item_cmp xs → (i j : ℕ) (d : Item) → i < j → j < length xs → item_cmp (get_or xs i d) (get_or xs j d) ≡ Less
rising_apart = rising.rising_apart item_cmp items_total items_tell

pub rising_from_steps : (xs : List Item) → ((k : ℕ) (d : Item) → k + 1 < length xs → item_cmp (get_or xs k d) (get_or xs (k + 1) d) ≡ Less) → IsRising item_cmp xs
rising_from_steps = rising.rising_from_steps item_cmp items_total items_tell

pub put_last : (x : Item) (xs : List Item) → IsRising item_cmp xs → (0 < length xs → item_cmp (get_or xs (length xs - 1) x) x ≡ Less) → with_member item_cmp x xs ≡ xs ++ x ∷ []
put_last = rising.put_last item_cmp items_total items_tell

pub compares_rising : (x : Item) (xs : List Item) → IsRising item_cmp xs → IsNonDecreasingBy (λ y. ordering_index (item_cmp y x)) xs
compares_rising = rising.compares_rising item_cmp items_total items_tell

pub found : (x : Item) (xs : List Item) (i : ℕ) → IsRising item_cmp xs → i < length xs → HoldsAt (λ y. item_cmp y x ≡ Equal) xs i → with_member item_cmp x xs ≡ xs
found = rising.found item_cmp items_total items_tell

pub rising_inserted : (x : Item) (xs ys : List Item) → IsRising item_cmp xs → ys ≡ with_member item_cmp x xs → IsRising item_cmp ys
rising_inserted = rising.rising_inserted item_cmp items_total items_tell

pub sorted_are_members : (xs ys zs : List Item) → IsPermutation xs ys → IsSorted item_cmp ys → zs ≡ dedup item_eq ys → IsRising item_cmp zs × (zs ≡ members_of item_cmp xs)
sorted_are_members = rising.sorted_are_members item_cmp items_total items_tell item_eq ties
