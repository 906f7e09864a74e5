-- The words of what was possible, and of the operations that lead to it.
use Rattle.std.specs.Prelude.{ℕ, ◌==◌, ◌-◌, not, List, [], ◌∷◌, ◌++◌, Option, Some, None, codes, drop, length, nat_le, slice_get, if◌then◌else◌}
use Rattle.std.specs.List.{join_by, take_while}
use Rattle.lin_events.specs.declared.items.Item.{Item}
use Rattle.lin_events.specs.declared.calls.Val.{Val}
use Rattle.lin_events.specs.declared.calls.Reply.{Reply}
use Rattle.lin_events.specs.declared.calls.Reply.TheVariants.{Done, Value, Members}
use Rattle.lin_events.specs.declared.events.Body.{Body}
use Rattle.lin_events.specs.declared.events.Body.TheVariants.{Invoke, Ok, Fail, Info}
use Rattle.lin_events.specs.declared.events.Event.{Event}
use Rattle.lin_objects.specs.declared.states.State.{State}
use Rattle.lin_order.specs.declared.placed.Placed.{Placed}
use Rattle.lin_tables.specs.Operations.{operation_text}
use Rattle.lin_tables.specs.Values.{between, items_text, state_text, value_text}
use Rattle.lin_possibilities.specs.Ranks.{lacked}
use Rattle.lin_possibilities.specs.Whole.{whole_items, whole_state, whole_value}
use Rattle.lin_possibilities.specs.declared.words.Extent.{Extent}
use Rattle.lin_possibilities.specs.declared.words.Extent.TheVariants.{Short, Whole}

-- the operations of an order ahead of the one that was invoked there
abbrev pub ahead_of : ℕ → List Placed → List Placed
ahead_of call order = take_while (λ p. not (p.at == call)) order

-- those ahead of an operation, if one is meant, or all of them
abbrev pub leading_to : Option ℕ → List Placed → List Placed
leading_to None order = order
leading_to (Some call) order = ahead_of call order

-- the items of a set or a bag, a value, and a state, as lines tell them, or whole
abbrev pub items_words : Extent → List (List ℕ) → List Item → List ℕ
items_words Short names xs = items_text names xs
items_words Whole names xs = whole_items names xs

abbrev pub value_words : Extent → List (List ℕ) → Val → List ℕ
value_words Short names v = value_text names v
value_words Whole names v = whole_value names v

abbrev pub state_words : Extent → List (List ℕ) → State → List ℕ
state_words Short names state = state_text names state
state_words Whole names state = whole_state names state

module _ (extent : Extent) (names : List (List ℕ)) where
  -- what a set has besides another, and what it lacks of it
  abbrev pub difference_text : List Item → List Item → List ℕ
  difference_text [] [] = []
  difference_text [] (y ∷ ys) = codes "without " ++ items_words extent names (y ∷ ys)
  difference_text (x ∷ xs) [] = codes "with " ++ items_words extent names (x ∷ xs)
  difference_text (x ∷ xs) (y ∷ ys) = (codes "with " ++ items_words extent names (x ∷ xs)) ++ codes " " ++ (codes "without " ++ items_words extent names (y ∷ ys))

  -- members are told against those that were recorded, if members were
  abbrev pub members_words : Option (List Item) → List Item → List ℕ
  members_words None xs = between 123 (items_words extent names xs) 125
  members_words (Some recorded) xs = difference_text (lacked recorded xs) (lacked xs recorded)

  -- a reply that says only that the call was done has no words
  abbrev pub reply_words : Option (List Item) → Reply → List ℕ
  reply_words recorded Done = []
  reply_words recorded (Value v) = value_words extent names v
  reply_words recorded (Members xs) = members_words recorded xs

module _ (names : List (List ℕ)) where
  -- the operation that the event invokes, with its reply
  abbrev pub called_text : ℕ → Body → Reply → List ℕ
  called_text process (Invoke call) reply = operation_text names process call (Some reply)
  called_text process (Ok name answer) reply = []
  called_text process (Fail name) reply = []
  called_text process (Info name) reply = []

  abbrev pub invoked_text : Option Event → Reply → List ℕ
  invoked_text None reply = []
  invoked_text (Some event) reply = called_text event.process event.body reply

  -- an operation that an order places, with the reply that the order gives it
  abbrev pub placed_text : List Event → Placed → List ℕ
  placed_text h p = invoked_text (slice_get h p.at) p.reply

  abbrev pub operations_text : List Event → List Placed → List ℕ
  operations_text h order = join_by (placed_text h) (codes ", ") order

  -- the last three operations; dots stand for those ahead of them
  abbrev pub after_text : List Event → List Placed → List ℕ
  after_text h [] = codes "nothing"
  after_text h (p ∷ ps) = if nat_le (length (p ∷ ps)) 3 then operations_text h (p ∷ ps)
      else codes "..., " ++ operations_text h (drop (length (p ∷ ps) - 3) (p ∷ ps))
