-- Members in the order of print, and put back into the order inside.
use Rattle.std.proofs.Common.{◌≡◌, ℕ, suc, ⊎_elim, List, [], ◌∷◌, map, All, refl, sym, ap, subst, ◌∙◌, arith}
use Rattle.std.specs.Cmp.{tied_itself}
use Rattle.std.specs.List.{Contains}
use Rattle.std.specs.Ordering.{match_ordering}
use Rattle.std.specs.declared.cmp.Ordering.{Ordering}
use Rattle.std.specs.declared.cmp.Ordering.TheVariants.{Less, Equal, Greater}
use Rattle.std.proofs.lemmas.List.Elements.{All-contains, All-head, All-tail}
use Rattle.std.proofs.lemmas.Option.{get_or_from_slice_get}
use Rattle.lin_lists.specs.Sets.{IsRising, members_of, with_member}
use Rattle.lin_lists.specs.lemmas.Elements.{first_or_rest, nothing_in}
use Rattle.lin_lists.specs.lemmas.Rising.{members_are, members_have, members_rise}
use Rattle.lin_events.specs.declared.items.Item.{Item}
use Rattle.lin_events.specs.declared.items.Item.TheVariants.{Int, Bool as Truth, Word}
use Rattle.lin_events.specs.Items.{item_cmp}
use Rattle.lin_events.specs.Sameness.{items_tell, items_total}
use Rattle.lin_names.specs.Names.{AgreesWith, Numbering}
use Rattle.lin_names.specs.Sorted.{with_one}
use Rattle.lin_names.specs.Spelled.{Spelled, numbered, printed, spelled, spelled_cmp}
use Rattle.lin_names.specs.lemmas.Printed.{spelled_same, spelled_total}
use Rattle.lin_texts.specs.OrderLaws.{IsItemOfCode}

stands_first : {X : Type 0} (x : X) (xs : List X) → Contains (x ∷ xs) x
stands_first x xs = (0, omega arith, refl)

stands_later : {X : Type 0} (x y : X) (xs : List X) → Contains xs y → Contains (x ∷ xs) y
stands_later x y xs (k, h, e) = (suc k, omega arith, e)

in_map : {X Y : Type 0} (f : X → Y) (x : X) (xs : List X) → Contains xs x → Contains (map f xs) (f x)
in_map f x [] h = absurd (nothing_in x h)
in_map f x (y ∷ xs) h = ⊎_elim
    (λ (e : y ≡ x). subst (λ z. Contains (f y ∷ map f xs) (f z)) e (stands_first (f y) (map f xs)))
    (λ (g : Contains xs x). stands_later (f y) (f x) (map f xs) (in_map f x xs g))
    (first_or_rest y xs x h)

pub from_map : {X Y : Type 0} (f : X → Y) (xs : List X) (z : Y) → Contains (map f xs) z → (x : X) × Contains xs x × (f x ≡ z)
from_map f [] z h = absurd (nothing_in z h)
from_map f (y ∷ xs) z h = ⊎_elim
    (λ (e : f y ≡ z). (y, stands_first y xs, e))
    (λ (g : Contains (map f xs) z). let (x, inside, e) = from_map f xs z g in (x, stands_later y x xs inside, e))
    (first_or_rest (f y) (map f xs) z h)

-- one that isn't there is put as a member is
put_new : (x : Spelled) (ys : List Spelled) → (Contains ys x → ⊥) → with_one spelled_cmp x ys ≡ with_member spelled_cmp x ys
put_new x [] new = refl
put_new x (y ∷ ys) new = by (spelled_cmp x y) refl (put_new x ys (λ h. new (stands_later y x ys h)))
  where
    by : (r : Ordering) → spelled_cmp x y ≡ r → with_one spelled_cmp x ys ≡ with_member spelled_cmp x ys
        → match_ordering r (x ∷ y ∷ ys) (x ∷ y ∷ ys) (y ∷ with_one spelled_cmp x ys) ≡ match_ordering r (x ∷ y ∷ ys) (y ∷ ys) (y ∷ with_member spelled_cmp x ys)
    by Less e rest = refl
    by Equal e rest = absurd (new (subst (Contains (y ∷ ys)) (sym (spelled_same x y e)) (stands_first y ys)))
    by Greater e rest = ap (λ zs. y ∷ zs) rest

module _ (names : List (List ℕ)) (number : Numbering) (agrees : AgreesWith names number) where
  -- an item is the one that is so seen
  pub seen_back : (x : Item) → IsItemOfCode names x → numbered number (spelled names x) ≡ x
  seen_back (Int i) fits = refl
  seen_back (Truth b) fits = refl
  seen_back (Word n) fits = ap Word (ap number (get_or_from_slice_get names n fits.0 [] fits.1) ∙ agrees fits.0 n fits.1)

  seen_apart : (x : Item) (xs : List Item) → IsItemOfCode names x → All (IsItemOfCode names) xs → (Contains xs x → ⊥) → Contains (map (spelled names) xs) (spelled names x) → ⊥
  seen_apart x xs fits all new h =
      let (y, inside, e) = from_map (spelled names) xs (spelled names x) h in
      let same : y ≡ x = sym (seen_back y (All-contains (IsItemOfCode names) xs y all inside)) ∙ ap (numbered number) e ∙ seen_back x fits in
      new (subst (Contains xs) same inside)

  above_new : (x : Item) (xs : List Item) → All (λ y. item_cmp x y ≡ Less) xs → Contains xs x → ⊥
  above_new x xs above inside =
      let less : item_cmp x x ≡ Less = All-contains (λ y. item_cmp x y ≡ Less) xs x above inside in
      let same : item_cmp x x ≡ Equal = tied_itself items_total x in
      cc

  -- members in the order of print rise in it
  printed_members : (xs : List Item) → All (IsItemOfCode names) xs → IsRising item_cmp xs → printed names xs ≡ members_of spelled_cmp (map (spelled names) xs)
  printed_members [] all rises = refl
  printed_members (x ∷ xs) all rises =
      let seen = map (spelled names) xs in
      let rest = printed_members xs (All-tail (IsItemOfCode names) x xs all) rises.1 in
      let new = seen_apart x xs (All-head (IsItemOfCode names) x xs all) (All-tail (IsItemOfCode names) x xs all) (above_new x xs rises.0) in
      ap (with_one spelled_cmp (spelled names x)) rest
      ∙ put_new (spelled names x) (members_of spelled_cmp seen) (λ h. new ((members_have spelled_cmp spelled_total spelled_same (spelled names x) seen).0 h))

  pub printed_rises : (xs : List Item) → All (IsItemOfCode names) xs → IsRising item_cmp xs → IsRising spelled_cmp (printed names xs)
  printed_rises xs all rises = subst (IsRising spelled_cmp) (sym (printed_members xs all rises)) (members_rise spelled_cmp spelled_total spelled_same (map (spelled names) xs))

  -- and put into the order inside they are the members
  pub set_back : (xs : List Item) → All (IsItemOfCode names) xs → IsRising item_cmp xs → members_of item_cmp (map (numbered number) (printed names xs)) ≡ xs
  set_back xs all rises =
      let seen = map (spelled names) xs in
      let back : (x : Item) → Contains xs x → numbered number (spelled names x) ≡ x = λ x inside. seen_back x (All-contains (IsItemOfCode names) xs x all inside) in
      ap (λ ss. members_of item_cmp (map (numbered number) ss)) (printed_members xs all rises)
      ∙ sym (members_are item_cmp items_total items_tell (map (numbered number) (members_of spelled_cmp seen)) xs rises (λ y. (
        λ inside. subst (Contains (map (numbered number) (members_of spelled_cmp seen))) (back y inside)
            (in_map (numbered number) (spelled names y) (members_of spelled_cmp seen)
            ((members_have spelled_cmp spelled_total spelled_same (spelled names y) seen).1 (in_map (spelled names) y xs inside))),
        λ h.
            let (s, is_member, e) = from_map (numbered number) (members_of spelled_cmp seen) y h in
            let (x, inside, f) = from_map (spelled names) xs s ((members_have spelled_cmp spelled_total spelled_same s seen).0 is_member) in
            subst (Contains xs) (sym (back x inside) ∙ ap (numbered number) f ∙ e) inside,
      )))
