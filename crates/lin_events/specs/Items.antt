-- Items, and lists of items that copies share.
use Rattle.std.specs.Prelude.{◌≡◌, ◌==◌, true, false, List, [], ◌∷◌, ◌+◌, ◌*◌, ◌%◌, ◌^◌, ℕ, Bool, Option, Some, None, Decides}
use Rattle.std.proofs.Math.Bool.{beq}
use Rattle.std.specs.Cmp.{IsTotalOrder}
use Rattle.std.specs.Int.{cast_unsigned, w64}
use Rattle.std.specs.Int.Bits.{bit_xor}
use Rattle.std.specs.Ordering.{nat_cmp, int_cmp, int_eq, bool_cmp}
use Rattle.std.specs.declared.cmp.Ordering.{Ordering}
use Rattle.std.specs.declared.cmp.Ordering.TheVariants.{Less, Equal, Greater}
use Rattle.std.specs.Hash as fed
use Rattle.std.specs.Hash.{HashWrites}
use Rattle.std.specs.declared.rc.Rc.{Rc}
use Rattle.std.specs.Global.{Vec}
use Rattle.lin_events.specs.declared.items.Item.{Item}
use Rattle.lin_events.specs.declared.items.Item.TheVariants.{Int, Bool as Truth, Word}

-- how two items compare: truth values, false first, integers rising, and words by their numbers
abbrev pub item_cmp : Item → Item → Ordering
item_cmp (Truth a) (Truth b) = bool_cmp a b
item_cmp (Truth a) (Int b) = Less
item_cmp (Truth a) (Word b) = Less
item_cmp (Int a) (Truth b) = Greater
item_cmp (Int a) (Int b) = int_cmp a b
item_cmp (Int a) (Word b) = Less
item_cmp (Word a) (Truth b) = Greater
item_cmp (Word a) (Int b) = Greater
item_cmp (Word a) (Word b) = nat_cmp a b

-- whether two items are the same
abbrev pub item_eq : Item → Item → Bool
item_eq (Truth a) (Truth b) = beq a b
item_eq (Truth a) (Int b) = false
item_eq (Truth a) (Word b) = false
item_eq (Int a) (Truth b) = false
item_eq (Int a) (Int b) = int_eq a b
item_eq (Int a) (Word b) = false
item_eq (Word a) (Truth b) = false
item_eq (Word a) (Int b) = false
item_eq (Word a) (Word b) = a == b

abbrev pub ItemsAreOrdered : Type 0
ItemsAreOrdered = IsTotalOrder item_cmp

-- items that the order doesn't tell apart, or that are equal by `==`, are one
abbrev pub ItemsCompareAlike : Type 0
ItemsCompareAlike = ((a b : Item) → item_cmp a b ≡ Equal → a ≡ b) × ((a b : Item) → Decides (item_eq a b) (a ≡ b))

-- the items of the list, none where there is no list
abbrev pub listed : {Z : Type 0} → Option (Rc (Vec Item) Z) → List Item
listed None = []
listed (Some rc) = rc.value.items

-- a number for an item, which other items may have too
abbrev pub code_of : Item → ℕ
code_of (Truth false) = 2 ^ 62 + 1
code_of (Truth true) = 2 ^ 63 + 2
code_of (Int i) = cast_unsigned w64 i
code_of (Word n) = bit_xor n (5 * 2 ^ 60)

-- what is hashed of an item
abbrev pub hashed_item : Item → HashWrites
hashed_item x = fed.u64 (code_of x)

-- what an item weighs in a digest beside the one ahead of it: an odd number, so that it can be taken off again
abbrev pub factor : ℕ
factor = 11400714819323198485

-- the sum of the items' numbers, each by its weight
abbrev pub weighed : List Item → ℕ
weighed [] = 0
weighed (x ∷ xs) = code_of x + factor * weighed xs

abbrev pub digest_of : List Item → ℕ
digest_of items = weighed items % 18446744073709551616

-- what is hashed of the items
abbrev pub hashed : List Item → HashWrites
hashed items = fed.u64 (digest_of items)
