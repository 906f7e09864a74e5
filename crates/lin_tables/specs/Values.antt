-- The words of values and of where an object stands, as an explanation tells them.
use Rattle.std.specs.Prelude.{ℕ, List, [], ◌∷◌, ◌++◌, codes, decimal, length, map, nat_le, take, true, false, if◌then◌else◌}
use Rattle.std.specs.List.{join_by}
use Rattle.lin_events.specs.declared.items.Item.{Item}
use Rattle.lin_events.specs.declared.calls.Val.{Val}
use Rattle.lin_events.specs.declared.calls.Val.TheVariants.{Item as Held, Nil}
use Rattle.lin_events.specs.declared.calls.Reply.{Reply}
use Rattle.lin_events.specs.declared.calls.Reply.TheVariants.{Done}
use Rattle.lin_events.specs.declared.calls.Reply.TheVariants.{Value as Answered, Members as AllMembers}
use Rattle.lin_names.specs.Spelled.{Spelled, number, printed, spelled, truth, word}
use Rattle.lin_objects.specs.declared.states.State.{State}
use Rattle.lin_objects.specs.declared.states.State.TheVariants.{Value, Queue, Members, Held as IsHeld, Bag}
use Rattle.lin_tables.specs.Shortening.{word_text}
use Rattle.lin_tables.specs.declared.spellings.Wording.{Wording}
use Rattle.lin_tables.specs.declared.spellings.Wording.TheVariants.{Short}
use Rattle.lin_texts.specs.Items.{spelled_text}

-- items in brackets
abbrev pub between : ℕ → List ℕ → ℕ → List ℕ
between left text right = left ∷ text ++ right ∷ []

module _ (wording : Wording) (names : List (List ℕ)) where
  -- only words are ever told short
  abbrev pub spelled_worded : Spelled → List ℕ
  spelled_worded (truth b) = spelled_text (truth b)
  spelled_worded (number i) = spelled_text (number i)
  spelled_worded (word w) = word_text wording names w

  -- an item among values; keys are always told whole
  abbrev pub item_worded : Item → List ℕ
  item_worded i = spelled_worded (spelled names i)

  abbrev pub value_worded : Val → List ℕ
  value_worded Nil = codes "nil"
  value_worded (Held i) = item_worded i

  -- items with commas between them; of more than eight the first eight, and how many there are
  abbrev pub told_worded : List Spelled → List ℕ
  told_worded ss = if nat_le (length ss) 8 then join_by spelled_worded (codes ",") ss
      else join_by spelled_worded (codes ",") (take 8 ss) ++ codes ",... " ++ decimal (length ss) ++ codes " in all"

  -- the members of a set or a bag, in the order in which items are printed
  abbrev pub items_worded : List Item → List ℕ
  items_worded xs = told_worded (printed names xs)

  -- a queue as it stands
  abbrev pub queue_worded : List Item → List ℕ
  queue_worded xs = told_worded (map (spelled names) xs)

  -- a reply that says only that the call was done has no words
  abbrev pub reply_worded : Reply → List ℕ
  reply_worded Done = []
  reply_worded (Answered v) = value_worded v
  reply_worded (AllMembers xs) = between 123 (items_worded xs) 125

-- as lines tell them
module _ (names : List (List ℕ)) where
  abbrev pub short_item_text : Item → List ℕ
  short_item_text i = item_worded Short names i

  abbrev pub value_text : Val → List ℕ
  value_text v = value_worded Short names v

  abbrev pub items_text : List Item → List ℕ
  items_text xs = items_worded Short names xs

  abbrev pub state_text : State → List ℕ
  state_text (Value v) = value_text v
  state_text (Queue xs) = between 91 (queue_worded Short names xs) 93
  state_text (Members xs) = between 123 (items_text xs) 125
  state_text (Bag xs) = between 123 (items_text xs) 125
  state_text (IsHeld true) = codes "held"
  state_text (IsHeld false) = codes "free"

  abbrev pub reply_text : Reply → List ℕ
  reply_text reply = reply_worded Short names reply
