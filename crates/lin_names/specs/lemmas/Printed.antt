-- The order of items in print.
use Rattle.std.proofs.Common.{◌≡◌, ◌<◌, ◌+◌, ℕ, pos, zero, suc, Bool, true, false, List, [], ◌∷◌, length, map, get_or, refl, sym, ap, subst, ◌∙◌, arith, IsPermutation, IsSorted}
use Rattle.std.specs.Bool.{⊤}
use Rattle.std.specs.Cmp.{IsTotalOrder, bool_cmp_total, int_cmp_total}
use Rattle.std.specs.Cmp.Lexicographic.{nat_list_cmp_total, texts_ties, bytes_decides}
use Rattle.std.specs.List.{AllByRecursion}
use Rattle.std.specs.Ordering.{ordering_reverse, bool_cmp, is_eq, is_gt}
use Rattle.std.specs.declared.cmp.Ordering.TheVariants.{Less, Equal}
use Rattle.std.proofs.lemmas.Cmp.{int_ranked}
use Rattle.std.proofs.lemmas.List.Sorted.{IsPermutation-map, length_permutation}
use Rattle.lin_events.specs.declared.items.Item.{Item}
use Rattle.lin_events.specs.declared.items.Item.TheVariants.{Int, Bool as Truth, Word}
use Rattle.lin_names.specs.Sorted.{sorted}
use Rattle.lin_names.specs.Spelled.{Spelled, truth, number, word, printed, spelled, spelled_cmp}
use Rattle.lin_names.specs.lemmas.Sorted.{Ascends, ascends_in_steps, sorted_ascends, IsUp, ascending_is_sorted, ascends_from_steps, sorted_itself, sorted_permutes, sorted_same, turned}

antisymm : (x y : Spelled) → spelled_cmp x y ≡ ordering_reverse (spelled_cmp y x)
antisymm (truth x) (truth y) = bool_cmp_total.antisymm x y
antisymm (truth x) (number y) = refl
antisymm (truth x) (word y) = refl
antisymm (number x) (truth y) = refl
antisymm (number x) (number y) = int_cmp_total.antisymm x y
antisymm (number x) (word y) = refl
antisymm (word x) (truth y) = refl
antisymm (word x) (number y) = refl
antisymm (word x) (word y) = nat_list_cmp_total.antisymm x y

trans : (x y z : Spelled) → spelled_cmp x y ≡ Less → spelled_cmp y z ≡ Less → spelled_cmp x z ≡ Less
trans (truth x) (truth y) (truth z) p q = bool_cmp_total.trans x y z p q
trans (truth x) (truth y) (number z) p q = refl
trans (truth x) (truth y) (word z) p q = refl
trans (truth x) (number y) (truth z) p q = cc
trans (truth x) (number y) (number z) p q = refl
trans (truth x) (number y) (word z) p q = refl
trans (truth x) (word y) (truth z) p q = cc
trans (truth x) (word y) (number z) p q = cc
trans (truth x) (word y) (word z) p q = refl
trans (number x) (truth y) (truth z) p q = cc
trans (number x) (truth y) (number z) p q = cc
trans (number x) (truth y) (word z) p q = cc
trans (number x) (number y) (truth z) p q = cc
trans (number x) (number y) (number z) p q = int_cmp_total.trans x y z p q
trans (number x) (number y) (word z) p q = refl
trans (number x) (word y) (truth z) p q = cc
trans (number x) (word y) (number z) p q = cc
trans (number x) (word y) (word z) p q = refl
trans (word x) (truth y) (truth z) p q = cc
trans (word x) (truth y) (number z) p q = cc
trans (word x) (truth y) (word z) p q = cc
trans (word x) (number y) (truth z) p q = cc
trans (word x) (number y) (number z) p q = cc
trans (word x) (number y) (word z) p q = cc
trans (word x) (word y) (truth z) p q = cc
trans (word x) (word y) (number z) p q = cc
trans (word x) (word y) (word z) p q = nat_list_cmp_total.trans x y z p q

congr : (x y z : Spelled) → spelled_cmp x y ≡ Equal → spelled_cmp x z ≡ spelled_cmp y z
congr (truth x) (truth y) (truth z) p = bool_cmp_total.congr x y z p
congr (truth x) (truth y) (number z) p = refl
congr (truth x) (truth y) (word z) p = refl
congr (truth x) (number y) (truth z) p = cc
congr (truth x) (number y) (number z) p = cc
congr (truth x) (number y) (word z) p = cc
congr (truth x) (word y) (truth z) p = cc
congr (truth x) (word y) (number z) p = cc
congr (truth x) (word y) (word z) p = cc
congr (number x) (truth y) (truth z) p = cc
congr (number x) (truth y) (number z) p = cc
congr (number x) (truth y) (word z) p = cc
congr (number x) (number y) (truth z) p = refl
congr (number x) (number y) (number z) p = int_cmp_total.congr x y z p
congr (number x) (number y) (word z) p = refl
congr (number x) (word y) (truth z) p = cc
congr (number x) (word y) (number z) p = cc
congr (number x) (word y) (word z) p = cc
congr (word x) (truth y) (truth z) p = cc
congr (word x) (truth y) (number z) p = cc
congr (word x) (truth y) (word z) p = cc
congr (word x) (number y) (truth z) p = cc
congr (word x) (number y) (number z) p = cc
congr (word x) (number y) (word z) p = cc
congr (word x) (word y) (truth z) p = refl
congr (word x) (word y) (number z) p = refl
congr (word x) (word y) (word z) p = nat_list_cmp_total.congr x y z p

pub spelled_total : IsTotalOrder spelled_cmp
spelled_total = record { antisymm = antisymm; trans = trans; congr = congr }

same_truth : (s t : Bool) → bool_cmp s t ≡ Equal → s ≡ t
same_truth true true h = refl
same_truth true false h = cc
same_truth false true h = cc
same_truth false false h = refl

pub spelled_same : (x y : Spelled) → spelled_cmp x y ≡ Equal → x ≡ y
spelled_same (truth x) (truth y) e = ap truth (same_truth x y e)
spelled_same (truth x) (number y) e = cc
spelled_same (truth x) (word y) e = cc
spelled_same (number x) (truth y) e = cc
spelled_same (number x) (number y) e = ap number (int_ranked x y Equal (sym e))
spelled_same (number x) (word y) e = cc
spelled_same (word x) (truth y) e = cc
spelled_same (word x) (number y) e = cc
spelled_same (word x) (word y) e = ap word ((bytes_decides x y).0 (texts_ties x y ∙ ap is_eq e))

-- the item is no word
abbrev pub IsNoWord : Item → Type 0
IsNoWord (Word n) = ⊥
IsNoWord _ = ⊤

length_map : {X Y : Type 0} (f : X → Y) (xs : List X) → length (map f xs) ≡ length xs
length_map f [] = refl
length_map f (x ∷ xs) = ap suc (length_map f xs)

get_map : {X Y : Type 0} (f : X → Y) (xs : List X) (k : ℕ) (d : X) (e : Y) → k < length xs → get_or (map f xs) k e ≡ f (get_or xs k d)
get_map f [] k d e lt = absurd (omega arith)
get_map f (x ∷ xs) zero d e lt = refl
get_map f (x ∷ xs) (suc k) d e lt = get_map f xs k d e (omega arith)

-- steps up from item to item are steps up in print
up_map : (names : List (List ℕ)) (xs : List Item) → ((k : ℕ) (d : Item) → k + 1 < length xs → is_gt (spelled_cmp (spelled names (get_or xs k d)) (spelled names (get_or xs (k + 1) d))) ≡ false)
    → IsUp spelled_cmp (map (spelled names) xs)
up_map names xs up k d lt =
    let size = length_map (spelled names) xs in
    let here = get_map (spelled names) xs k (Int (pos 0)) d (omega (arith, size)) in
    let there = get_map (spelled names) xs (k + 1) (Int (pos 0)) d (omega (arith, size)) in
    (λ i. is_gt (spelled_cmp (here i) (there i))) ∙ up k (Int (pos 0)) (omega (arith, size))

-- what a sort by the order of print leaves is what is printed
pub sorted_is_printed : (names : List (List ℕ)) (xs ys : List Item) → IsPermutation xs ys → IsSorted (λ a b. spelled_cmp (spelled names a) (spelled names b)) ys
    → map (spelled names) ys ≡ printed names xs
sorted_is_printed names xs ys moved up = ascending_is_sorted spelled_cmp spelled_total spelled_same (map (spelled names) xs) (map (spelled names) ys)
    (IsPermutation-map (spelled names) xs ys moved)
    (ascends_from_steps spelled_cmp spelled_total spelled_same (map (spelled names) ys)
    (up_map names ys (λ k d lt. sym (turned spelled_cmp spelled_total spelled_same (spelled names (get_or ys (k + 1) d)) (spelled names (get_or ys k d))) ∙ up k d (omega arith) lt)))

-- items whose steps go up stand as they are printed
pub up_is_printed : (names : List (List ℕ)) (xs : List Item) → ((k : ℕ) (d : Item) → k + 1 < length xs → is_gt (spelled_cmp (spelled names (get_or xs k d)) (spelled names (get_or xs (k + 1) d))) ≡ false)
    → map (spelled names) xs ≡ printed names xs
up_is_printed names xs up = sorted_itself spelled_cmp spelled_total spelled_same (map (spelled names) xs) (up_map names xs up)

-- items that stand as they are printed go up in steps
pub printed_is_up : (names : List (List ℕ)) (xs : List Item) → map (spelled names) xs ≡ printed names xs → (k : ℕ) (d : Item) → k + 1 < length xs
    → is_gt (spelled_cmp (spelled names (get_or xs k d)) (spelled names (get_or xs (k + 1) d))) ≡ false
printed_is_up names xs same k d lt =
    let size = length_map (spelled names) xs in
    let up = ascends_in_steps spelled_cmp spelled_total spelled_same (map (spelled names) xs)
    (subst (Ascends spelled_cmp) (sym same) (sorted_ascends spelled_cmp spelled_total spelled_same (map (spelled names) xs))) in
    let here = get_map (spelled names) xs k d (spelled names d) (omega (arith, size)) in
    let there = get_map (spelled names) xs (k + 1) d (spelled names d) (omega (arith, size)) in
    (λ i. is_gt (spelled_cmp (sym here i) (sym there i))) ∙ up k (spelled names d) (omega (arith, size))

-- the same items are printed alike, in whichever order they stand
pub printed_same : (names : List (List ℕ)) (xs ys : List Item) → IsPermutation xs ys → printed names xs ≡ printed names ys
printed_same names xs ys moved = sorted_same spelled_cmp spelled_total spelled_same (map (spelled names) xs) (map (spelled names) ys) (IsPermutation-map (spelled names) xs ys moved)

-- what is printed of items is what is seen of them, in some order
pub printed_permutes : (names : List (List ℕ)) (xs : List Item) → IsPermutation (map (spelled names) xs) (printed names xs)
printed_permutes names xs = sorted_permutes spelled_cmp spelled_total spelled_same (map (spelled names) xs)

-- as many as there are items
pub printed_long : (names : List (List ℕ)) (xs : List Item) → length (printed names xs) ≡ length xs
printed_long names xs = length_permutation (map (spelled names) xs) (printed names xs) (printed_permutes names xs) ∙ length_map (spelled names) xs

-- an item that is no word is seen alike by any names
pub spelled_alike : (names others : List (List ℕ)) (x : Item) → IsNoWord x → spelled names x ≡ spelled others x
spelled_alike names others (Int i) h = refl
spelled_alike names others (Truth b) h = refl
spelled_alike names others (Word n) h = absurd h

pub all_spelled_alike : (names others : List (List ℕ)) (xs : List Item) → AllByRecursion IsNoWord xs → map (spelled names) xs ≡ map (spelled others) xs
all_spelled_alike names others [] all = refl
all_spelled_alike names others (x ∷ xs) all = (λ i. spelled_alike names others x all.0 i ∷ all_spelled_alike names others xs all.1 i)

-- so what is printed of items without words is the same by any names
pub printed_alike : (names others : List (List ℕ)) (xs : List Item) → AllByRecursion IsNoWord xs → printed names xs ≡ printed others xs
printed_alike names others xs all = ap (sorted spelled_cmp) (all_spelled_alike names others xs all)
