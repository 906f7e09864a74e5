-- The texts of orders, by the spellings of words.
use Rattle.std.specs.Prelude.{ℕ, List, [], ◌∷◌, ◌++◌, codes, decimal}
use Rattle.std.specs.List.{join_by}
use Rattle.lin_events.specs.declared.items.Item.{Item}
use Rattle.lin_events.specs.declared.calls.Val.TheVariants.{Item as Held, Nil}
use Rattle.lin_events.specs.declared.calls.Reply.{Reply}
use Rattle.lin_events.specs.declared.calls.Reply.TheVariants.{Done, Value, Members}
use Rattle.lin_names.specs.Spelled.{printed}
use Rattle.lin_order.specs.declared.placed.Placed.{Placed}
use Rattle.lin_texts.specs.Items.{item_text, spelled_text}

module _ (names : List (List ℕ)) where
  -- items as they stand, with commas between them
  abbrev pub list_text : List Item → List ℕ
  list_text xs = join_by (item_text names) (codes ",") xs

  -- members in the order of print, with commas between them
  abbrev pub members_text : List Item → List ℕ
  members_text xs = join_by spelled_text (codes ",") (printed names xs)

  -- the text of a reply
  abbrev pub reply_text : Reply → List ℕ
  reply_text Done = codes "done"
  reply_text (Value Nil) = codes "nil"
  reply_text (Value (Held item)) = item_text names item
  reply_text (Members xs) = codes "{" ++ members_text xs ++ codes "}"

  -- the text of a pair of an order
  abbrev pub placed_text : Placed → List ℕ
  placed_text pair = decimal pair.at ++ codes "=" ++ reply_text pair.reply

  -- the text of an order: its pairs with a space between two, or `empty`
  abbrev pub order_text : List Placed → List ℕ
  order_text [] = codes "empty"
  order_text (pair ∷ pairs) = join_by placed_text (codes " ") (pair ∷ pairs)
