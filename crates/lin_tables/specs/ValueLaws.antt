-- Laws of the words of values.
use Rattle.std.specs.Prelude.{◌≡◌, ℕ, List}
use Rattle.lin_events.specs.declared.items.Item.{Item}
use Rattle.lin_events.specs.declared.calls.Val.{Val}
use Rattle.lin_events.specs.declared.calls.Reply.TheVariants.{Value}
use Rattle.lin_names.specs.Names.{AreEachOnce}
use Rattle.lin_tables.specs.Values.{short_item_text, value_text}
use Rattle.lin_texts.specs.Items.{item_text}
use Rattle.lin_texts.specs.OrderLaws.{IsReplyOfCode}

-- items that are told alike have the same whole text
abbrev pub ShortTextsTellTexts : Type 0
ShortTextsTellTexts = (names : List (List ℕ)) (one other : Item) → short_item_text names one ≡ short_item_text names other → item_text names one ≡ item_text names other

-- values as the code has them that are told alike are the same
abbrev pub ShortTextsTellValues : Type 0
ShortTextsTellValues = (names : List (List ℕ)) → AreEachOnce names → (one other : Val) → IsReplyOfCode names (Value one) → IsReplyOfCode names (Value other)
    → value_text names one ≡ value_text names other → one ≡ other
