-- Items and lists of items that compare alike are the same.
use Rattle.std.specs.Prelude.{◌≡◌, ◌==◌, ◌<◌, ℕ, Bool, true, false, ◌&&◌, ◌<ℤ◌, List, [], ◌∷◌, Decides}
use Rattle.std.proofs.Common.{refl, sym, ◌∙◌, ap, true≢false, arith}
use Rattle.std.specs.Cmp.{IsEquivalence, IsTotalOrder, bool_cmp_total, ranked}
use Rattle.std.specs.Ordering.{MatchOrdering, nat_cmp, int_cmp, is_eq, eq_by_cmp, ordering_reverse}
use Rattle.std.specs.declared.cmp.Ordering.{Ordering}
use Rattle.std.specs.declared.cmp.Ordering.TheVariants.{Less, Equal, Greater}
use Rattle.std.specs.Cmp.Lexicographic.{pointwise}
use Rattle.std.proofs.lemmas.Bool.Decides.{Decides-int_eq, Decides-eqb}
use Rattle.std.proofs.lemmas.Cmp.{nat_cmp_total, nat_eq_equiv, int_cmp_total, int_eq_equiv, int_ranked, by_ranked}
use Rattle.lin_events.specs.declared.items.Item.{Item}
use Rattle.lin_events.specs.declared.items.Item.TheVariants.{Int, Bool as Truth, Word}
use Rattle.lin_events.specs.Items.{item_cmp, item_eq}

-- items that are equal by `==` are one
pub item_same : (x y : Item) → item_eq x y ≡ true → x ≡ y
item_same (Int a) (Int b) h = ap Int ((Decides-int_eq a b).0 h)
item_same (Truth true) (Truth true) h = refl
item_same (Truth false) (Truth false) h = refl
item_same (Truth true) (Truth false) h = absurd (true≢false (sym h))
item_same (Truth false) (Truth true) h = absurd (true≢false (sym h))
item_same (Word a) (Word b) h = ap Word ((Decides-eqb a b).0 h)
item_same (Int a) (Truth b) h = absurd (true≢false (sym h))
item_same (Int a) (Word b) h = absurd (true≢false (sym h))
item_same (Truth a) (Int b) h = absurd (true≢false (sym h))
item_same (Truth a) (Word b) h = absurd (true≢false (sym h))
item_same (Word a) (Int b) h = absurd (true≢false (sym h))
item_same (Word a) (Truth b) h = absurd (true≢false (sym h))

pub item_itself : (x : Item) → item_eq x x ≡ true
item_itself (Int a) = (Decides-int_eq a a).1 refl
item_itself (Truth true) = refl
item_itself (Truth false) = refl
item_itself (Word a) = (Decides-eqb a a).1 refl

pub Decides-item_eq : (x y : Item) → Decides (item_eq x y) (x ≡ y)
Decides-item_eq x y = (item_same x y, λ e. ap (item_eq x) (sym e) ∙ item_itself x)

symmetric : (x y : Item) → item_eq x y ≡ item_eq y x
symmetric (Int a) (Int b) = int_eq_equiv.symm a b
symmetric (Truth true) (Truth true) = refl
symmetric (Truth true) (Truth false) = refl
symmetric (Truth false) (Truth true) = refl
symmetric (Truth false) (Truth false) = refl
symmetric (Word a) (Word b) = nat_eq_equiv.symm a b
symmetric (Int a) (Truth b) = refl
symmetric (Int a) (Word b) = refl
symmetric (Truth a) (Int b) = refl
symmetric (Truth a) (Word b) = refl
symmetric (Word a) (Int b) = refl
symmetric (Word a) (Truth b) = refl

pub item_eq_equiv : IsEquivalence item_eq
item_eq_equiv = record {
  refl = item_itself;
  symm = symmetric;
  congr = λ x y z e. ap (λ w. item_eq w z) (item_same x y e);
}

pub items_total : IsTotalOrder item_cmp
items_total = record { antisymm = antisymm; trans = trans; congr = congr }
  where
    antisymm : (x y : Item) → item_cmp x y ≡ ordering_reverse (item_cmp y x)
    antisymm (Truth a) (Truth b) = bool_cmp_total.antisymm a b
    antisymm (Truth a) (Int b) = refl
    antisymm (Truth a) (Word b) = refl
    antisymm (Int a) (Truth b) = refl
    antisymm (Int a) (Int b) = int_cmp_total.antisymm a b
    antisymm (Int a) (Word b) = refl
    antisymm (Word a) (Truth b) = refl
    antisymm (Word a) (Int b) = refl
    antisymm (Word a) (Word b) = nat_cmp_total.antisymm a b

    trans : (x y z : Item) → item_cmp x y ≡ Less → item_cmp y z ≡ Less → item_cmp x z ≡ Less
    trans (Truth a) (Truth b) (Truth d) h k = bool_cmp_total.trans a b d h k
    trans (Truth a) (Truth b) (Int d) h k = refl
    trans (Truth a) (Truth b) (Word d) h k = refl
    trans (Truth a) (Int b) (Truth d) h k = absurd (cc)
    trans (Truth a) (Int b) (Int d) h k = refl
    trans (Truth a) (Int b) (Word d) h k = refl
    trans (Truth a) (Word b) (Truth d) h k = absurd (cc)
    trans (Truth a) (Word b) (Int d) h k = absurd (cc)
    trans (Truth a) (Word b) (Word d) h k = refl
    trans (Int a) (Truth b) z h k = absurd (cc)
    trans (Int a) (Int b) (Truth d) h k = absurd (cc)
    trans (Int a) (Int b) (Int d) h k = int_cmp_total.trans a b d h k
    trans (Int a) (Int b) (Word d) h k = refl
    trans (Int a) (Word b) (Truth d) h k = absurd (cc)
    trans (Int a) (Word b) (Int d) h k = absurd (cc)
    trans (Int a) (Word b) (Word d) h k = refl
    trans (Word a) (Truth b) z h k = absurd (cc)
    trans (Word a) (Int b) z h k = absurd (cc)
    trans (Word a) (Word b) (Truth d) h k = absurd (cc)
    trans (Word a) (Word b) (Int d) h k = absurd (cc)
    trans (Word a) (Word b) (Word d) h k = nat_cmp_total.trans a b d h k

    congr : (x y z : Item) → item_cmp x y ≡ Equal → item_cmp x z ≡ item_cmp y z
    congr (Truth a) (Truth b) (Truth d) h = bool_cmp_total.congr a b d h
    congr (Truth a) (Truth b) (Int d) h = refl
    congr (Truth a) (Truth b) (Word d) h = refl
    congr (Truth a) (Int b) z h = absurd (cc)
    congr (Truth a) (Word b) z h = absurd (cc)
    congr (Int a) (Truth b) z h = absurd (cc)
    congr (Int a) (Int b) (Truth d) h = refl
    congr (Int a) (Int b) (Int d) h = int_cmp_total.congr a b d h
    congr (Int a) (Int b) (Word d) h = refl
    congr (Int a) (Word b) z h = absurd (cc)
    congr (Word a) (Truth b) z h = absurd (cc)
    congr (Word a) (Int b) z h = absurd (cc)
    congr (Word a) (Word b) (Truth d) h = refl
    congr (Word a) (Word b) (Int d) h = refl
    congr (Word a) (Word b) (Word d) h = nat_cmp_total.congr a b d h

-- `==` of numbers and their order agree
nat_ties : (a b : ℕ) → (a == b) ≡ is_eq (nat_cmp a b)
nat_ties a b = by (a == b) (nat_cmp a b) (Decides-eqb a b) (ranked a b (nat_cmp a b) refl)
  where
    by : (t : Bool) (r : Ordering) → Decides t (a ≡ b) → MatchOrdering r (a < b) (a ≡ b) (b < a) → t ≡ is_eq r
    by t Equal d h = d.1 h
    by true Less d h = let e : a ≡ b = d.0 refl in absurd (omega (arith, e, h))
    by true Greater d h = let e : a ≡ b = d.0 refl in absurd (omega (arith, e, h))
    by false Less d h = refl
    by false Greater d h = refl

-- items that the order doesn't tell apart are one
pub items_tell : (x y : Item) → item_cmp x y ≡ Equal → x ≡ y
items_tell (Int a) (Int b) h = by_ranked (a <ℤ b) (a ≡ b) (b <ℤ a) {G = Int a ≡ Int b} (int_cmp a b) (int_ranked a b (int_cmp a b) refl) (λ e _. absurd (cc)) (λ e q. ap Int q) (λ e _. absurd (cc))
items_tell (Truth true) (Truth true) h = refl
items_tell (Truth false) (Truth false) h = refl
items_tell (Truth true) (Truth false) h = absurd (cc)
items_tell (Truth false) (Truth true) h = absurd (cc)
items_tell (Word a) (Word b) h = ap Word ((Decides-eqb a b).0 (nat_ties a b ∙ ap is_eq h))
items_tell (Int a) (Truth b) h = absurd (cc)
items_tell (Int a) (Word b) h = absurd (cc)
items_tell (Truth a) (Int b) h = absurd (cc)
items_tell (Truth a) (Word b) h = absurd (cc)
items_tell (Word a) (Int b) h = absurd (cc)
items_tell (Word a) (Truth b) h = absurd (cc)

-- `==` and the order agree
pub ties : (x y : Item) → item_eq x y ≡ eq_by_cmp item_cmp x y
ties (Int a) (Int b) = refl
ties (Word a) (Word b) = nat_ties a b
ties (Int a) (Truth b) = refl
ties (Int a) (Word b) = refl
ties (Truth a) (Int b) = refl
ties (Truth a) (Word b) = refl
ties (Word a) (Int b) = refl
ties (Word a) (Truth b) = refl
ties (Truth true) (Truth true) = refl
ties (Truth true) (Truth false) = refl
ties (Truth false) (Truth true) = refl
ties (Truth false) (Truth false) = refl

-- lists of items that compare alike are one
pub items_same : (xs ys : List Item) → pointwise item_eq xs ys ≡ true → xs ≡ ys
items_same [] [] h = refl
items_same [] (y ∷ ys) h = absurd (true≢false (sym h))
items_same (x ∷ xs) [] h = absurd (true≢false (sym h))
items_same (x ∷ xs) (y ∷ ys) h = by (item_eq x y) refl (items_same xs ys)
  where
    by : (b : Bool) → item_eq x y ≡ b → (pointwise item_eq xs ys ≡ true → xs ≡ ys) → x ∷ xs ≡ y ∷ ys
    by true e more =
        let first = item_same x y e in
        let rest = more (sym (ap (λ b. b && pointwise item_eq xs ys) e) ∙ h) in
        cc
    by false e more = absurd (true≢false (sym h ∙ ap (λ b. b && pointwise item_eq xs ys) e))

pub items_itself : (xs : List Item) → pointwise item_eq xs xs ≡ true
items_itself [] = refl
items_itself (x ∷ xs) = ap (λ b. b && pointwise item_eq xs xs) (item_itself x) ∙ items_itself xs

pub items_Decides : (xs ys : List Item) → Decides (pointwise item_eq xs ys) (xs ≡ ys)
items_Decides xs ys = (items_same xs ys, λ e. ap (λ zs. pointwise item_eq xs zs) (sym e) ∙ items_itself xs)
