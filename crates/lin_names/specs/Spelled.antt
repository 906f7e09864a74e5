-- Items as they are seen in print.
use Rattle.std.specs.Prelude.{◌≡◌, ℕ, ℤ, Bool, List, [], map, slice_index_or}
use Rattle.std.specs.Cmp.{IsTotalOrder}
use Rattle.std.specs.Cmp.Lexicographic.{slice_cmp}
use Rattle.std.specs.Ordering.{nat_cmp, int_cmp, bool_cmp}
use Rattle.std.specs.declared.cmp.Ordering.{Ordering}
use Rattle.std.specs.declared.cmp.Ordering.TheVariants.{Less, Equal, Greater}
use Rattle.lin_events.specs.declared.items.Item.{Item}
use Rattle.lin_events.specs.declared.items.Item.TheVariants as item
use Rattle.lin_names.specs.Names.{Numbering}
use Rattle.lin_names.specs.Sorted.{sorted}
use Rattle.lin_names.specs.declared.said.Said.{Said}
use Rattle.lin_names.specs.declared.said.Said.TheVariants as said

-- a truth value, an integer, or a word with its spelling
pub data Spelled : Type 0 where
  truth : Bool → Spelled
  number : ℤ → Spelled
  word : List ℕ → Spelled

-- what a text says
abbrev pub seen : Said → Spelled
seen (said.Int i) = number i
seen (said.Bool b) = truth b
seen (said.Word w) = word w.now

-- the spelling of a word; nothing where it has none
abbrev pub spelling_of : List (List ℕ) → ℕ → List ℕ
spelling_of names n = slice_index_or names n []

-- what is seen of an item
abbrev pub spelled : List (List ℕ) → Item → Spelled
spelled names (item.Int i) = number i
spelled names (item.Bool b) = truth b
spelled names (item.Word n) = word (spelling_of names n)

-- the item that is so seen, by a numbering of spellings
abbrev pub numbered : Numbering → Spelled → Item
numbered of (truth b) = item.Bool b
numbered of (number i) = item.Int i
numbered of (word w) = item.Word (of w)

-- `false`, `true`, integers rising, then words by the bytes of their spellings
abbrev pub spelled_cmp : Spelled → Spelled → Ordering
spelled_cmp (truth a) (truth b) = bool_cmp a b
spelled_cmp (truth a) (number b) = Less
spelled_cmp (truth a) (word b) = Less
spelled_cmp (number a) (truth b) = Greater
spelled_cmp (number a) (number b) = int_cmp a b
spelled_cmp (number a) (word b) = Less
spelled_cmp (word a) (truth b) = Greater
spelled_cmp (word a) (number b) = Greater
spelled_cmp (word a) (word b) = slice_cmp nat_cmp a b

-- the items as they are printed
abbrev pub printed : List (List ℕ) → List Item → List Spelled
printed names is = sorted spelled_cmp (map (spelled names) is)

abbrev pub SpelledIsTotal : Type 0
SpelledIsTotal = IsTotalOrder spelled_cmp

-- what the order doesn't tell apart is one
abbrev pub SpelledTellsApart : Type 0
SpelledTellsApart = (x y : Spelled) → spelled_cmp x y ≡ Equal → x ≡ y
