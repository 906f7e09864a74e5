-- How items stand to one another, by their order.
use Rattle.std.proofs.Common.{◌≡◌, ◌≢◌, ◌⊎◌, inl, inr, sym, subst}
use Rattle.std.specs.declared.cmp.Ordering.TheVariants.{Less, Greater}
use Rattle.lin_lists.specs.lemmas.Rising.{is_greater}
use Rattle.lin_events.specs.declared.items.Item.{Item}
use Rattle.lin_events.specs.Items.{item_cmp}
use Rattle.lin_events.specs.Sameness.{items_tell, items_total}
use Rattle.lin_events.specs.lemmas.Rising.{is_equal, split}

infix 40 ◌⊏◌
-- the one is below the other
abbrev pub ◌⊏◌ : Item → Item → Type 0
x ⊏ y = item_cmp x y ≡ Less

infix 40 ◌⊑◌
-- the one isn't above the other
abbrev pub ◌⊑◌ : Item → Item → Type 0
x ⊑ y = item_cmp x y ≢ Greater

pub above : (x y : Item) → y ⊏ x → item_cmp x y ≡ Greater
above = is_greater item_cmp items_total items_tell

pub at_most : (x y : Item) → x ⊏ y → x ⊑ y
at_most x y below over = absurd (cc)

pub at_itself : (x y : Item) → x ≡ y → x ⊑ y
at_itself x y same over = let tied = is_equal x y same in absurd (cc)

pub not_both : (x y : Item) → x ⊑ y → y ⊏ x → ⊥
not_both x y least below = least (above x y below)

pub apart : (x y : Item) → x ⊏ y → x ≢ y
apart x y below same = let tied = is_equal x y same in absurd (cc)

-- one of two items is at most the other
pub ordered : (x y : Item) → (x ⊑ y) ⊎ (y ⊏ x)
ordered x y = split x y (λ h. inl (at_most x y h)) (λ h. inl (at_itself x y h)) (λ h. inr h)

-- an item is this one, or another
pub this_or_other : (x y : Item) → (x ≡ y) ⊎ (x ≢ y)
this_or_other x y = split x y (λ h. inr (apart x y h)) (λ h. inl h) (λ h. inr (λ same. apart y x h (sym same)))

pub below : (x y : Item) → x ⊑ y → x ≢ y → x ⊏ y
below x y least differ = split x y (λ h. h) (λ h. absurd (differ h)) (λ h. absurd (not_both x y least h))

pub same : (x y : Item) → x ⊑ y → y ⊑ x → x ≡ y
same x y up down = split x y (λ h. absurd (not_both y x down h)) (λ h. h) (λ h. absurd (not_both x y up h))

pub below_on : (x y z : Item) → x ⊏ y → y ⊑ z → x ⊏ z
below_on x y z h up = split y z (λ k. items_total.trans x y z h k) (λ k. subst (λ w. x ⊏ w) k h) (λ k. absurd (not_both y z up k))

pub up_below : (x y z : Item) → x ⊑ y → y ⊏ z → x ⊏ z
up_below x y z up h = split x y (λ k. items_total.trans x y z k h) (λ k. subst (λ w. w ⊏ z) (sym k) h) (λ k. absurd (not_both x y up k))

pub onward : (x y z : Item) → x ⊑ y → y ⊑ z → x ⊑ z
onward x y z up on = split x y (λ k. at_most x z (below_on x y z k on)) (λ k. subst (λ w. w ⊑ z) (sym k) on) (λ k. absurd (not_both x y up k))
