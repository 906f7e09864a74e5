-- The laws that what is written of an item, or of an order, is read as that.
use Rattle.std.specs.Prelude.{◌≡◌, ◌<◌, ◌^◌, ℕ, ℤ, true, List, Ok, Some}
use Rattle.std.specs.List.{All}
use Rattle.std.specs.Int.Signed.{mag}
use Rattle.std.specs.Option.{option_map}
use Rattle.lin_lists.specs.Sets.{IsRising}
use Rattle.lin_events.specs.declared.items.Item.{Item}
use Rattle.lin_events.specs.declared.items.Item.TheVariants.{Int, Bool as Truth, Word}
use Rattle.lin_events.specs.declared.calls.Val.TheVariants.{Item as Held, Nil}
use Rattle.lin_events.specs.declared.calls.Reply.{Reply}
use Rattle.lin_events.specs.declared.calls.Reply.TheVariants.{Done, Value, Members}
use Rattle.lin_events.specs.Items.{item_cmp}
use Rattle.lin_names.specs.Names.{AgreesWith, IsSpelling, Numbering}
use Rattle.lin_names.specs.Spelled.{numbered}
use Rattle.lin_order.specs.declared.placed.Placed.{Placed}
use Rattle.lin_texts.specs.Items.{is_word, item_text, item_written}
use Rattle.lin_texts.specs.Orders.{order_of}
use Rattle.lin_texts.specs.Texts.{order_text}

-- an integer of 64 bits with its sign
abbrev pub HasBits : ℤ → Type 0
HasBits i = mag i < 2 ^ 63

module _ (names : List (List ℕ)) where
  -- an item as the code has them: an integer has 64 bits, and a word is spelled as one
  abbrev pub IsItemOfCode : Item → Type 0
  IsItemOfCode (Int i) = HasBits i
  IsItemOfCode (Truth b) = Unit {0}
  IsItemOfCode (Word n) = (spelling : List ℕ) × IsSpelling names spelling n × (is_word spelling ≡ true)

  -- a reply as the code has them: its items are such, and its members rise
  abbrev pub IsReplyOfCode : Reply → Type 0
  IsReplyOfCode Done = Unit {0}
  IsReplyOfCode (Value Nil) = Unit {0}
  IsReplyOfCode (Value (Held item)) = IsItemOfCode item
  IsReplyOfCode (Members xs) = All IsItemOfCode xs × IsRising item_cmp xs

  -- a pair as the code has them
  abbrev pub IsPairOfCode : Placed → Type 0
  IsPairOfCode pair = (pair.at < 2 ^ 64) × IsReplyOfCode pair.reply

-- the text of an item is read as that item
abbrev pub WrittenItemsAreRead : Type 0
WrittenItemsAreRead = (names : List (List ℕ)) (number : Numbering) (item : Item) → AgreesWith names number → IsItemOfCode names item
    → option_map (numbered number) (item_written (item_text names item)) ≡ Some item

-- the text of an order is read as that order
abbrev pub WrittenOrdersAreRead : Type 0
WrittenOrdersAreRead = (names : List (List ℕ)) (number : Numbering) (order : List Placed) → AgreesWith names number → All (IsPairOfCode names) order
    → order_of number (order_text names order) ≡ Ok order
