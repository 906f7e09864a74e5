-- Values as they are, with nothing left out: so machines are told them.
use Rattle.std.specs.Prelude.{ℕ, List, [], codes, map, true, false}
use Rattle.std.specs.List.{join_by}
use Rattle.lin_events.specs.declared.items.Item.{Item}
use Rattle.lin_events.specs.declared.calls.Val.{Val}
use Rattle.lin_events.specs.declared.calls.Val.TheVariants.{Item as Held, Nil}
use Rattle.lin_events.specs.declared.calls.Reply.{Reply}
use Rattle.lin_events.specs.declared.calls.Reply.TheVariants.{Done}
use Rattle.lin_events.specs.declared.calls.Reply.TheVariants.{Value as Answered, Members as AllMembers}
use Rattle.lin_names.specs.Spelled.{printed, spelled}
use Rattle.lin_objects.specs.declared.states.State.{State}
use Rattle.lin_objects.specs.declared.states.State.TheVariants.{Value, Queue, Members, Held as IsHeld, Bag}
use Rattle.lin_tables.specs.Values.{between}
use Rattle.lin_texts.specs.Items.{item_text, spelled_text}

module _ (names : List (List ℕ)) where
  -- an item by its whole spelling
  abbrev pub whole_value : Val → List ℕ
  whole_value Nil = codes "nil"
  whole_value (Held i) = item_text names i

  -- all items of a set or a bag, in the order in which items are printed
  abbrev pub whole_items : List Item → List ℕ
  whole_items xs = join_by spelled_text (codes ",") (printed names xs)

  abbrev pub whole_members : List Item → List ℕ
  whole_members xs = between 123 (whole_items xs) 125

  -- all items of a queue, the oldest first
  abbrev pub whole_queue : List Item → List ℕ
  whole_queue xs = between 91 (join_by spelled_text (codes ",") (map (spelled names) xs)) 93

  abbrev pub whole_state : State → List ℕ
  whole_state (Value v) = whole_value v
  whole_state (Queue xs) = whole_queue xs
  whole_state (Members xs) = whole_members xs
  whole_state (Bag xs) = whole_members xs
  whole_state (IsHeld true) = codes "held"
  whole_state (IsHeld false) = codes "free"

  -- a reply that says only that the call was done has no words
  abbrev pub whole_reply : Reply → List ℕ
  whole_reply Done = []
  whole_reply (Answered v) = whole_value v
  whole_reply (AllMembers xs) = whole_members xs
