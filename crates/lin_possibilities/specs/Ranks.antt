-- In which order states and replies are listed.
use Rattle.std.specs.Prelude.{ℕ, pos, ◌+◌, true, false, not, List, [], ◌∷◌, Option, Some, None, filter, length, map}
use Rattle.std.specs.Cmp.Lexicographic.{slice_cmp}
use Rattle.std.specs.List.{list_any}
use Rattle.std.specs.List.Sorted.{IsSortedByKey}
use Rattle.std.specs.Ordering.{nat_cmp, ordering_then}
use Rattle.std.specs.declared.cmp.Ordering.{Ordering}
use Rattle.lin_events.specs.declared.items.Item.{Item}
use Rattle.lin_events.specs.Items.{item_eq}
use Rattle.lin_events.specs.declared.calls.Val.{Val}
use Rattle.lin_events.specs.declared.calls.Val.TheVariants.{Item as Held, Nil}
use Rattle.lin_events.specs.declared.calls.Reply.{Reply}
use Rattle.lin_events.specs.declared.calls.Reply.TheVariants.{Done}
use Rattle.lin_events.specs.declared.calls.Reply.TheVariants.{Value as Answered, Members as AllMembers}
use Rattle.lin_names.specs.Spelled.{Spelled, number, printed, spelled, spelled_cmp}
use Rattle.lin_objects.specs.declared.states.State.{State}
use Rattle.lin_objects.specs.declared.states.State.TheVariants.{Value, Queue, Members, Held as IsHeld, Bag}

-- by how many items differ, and then by the items as they are printed: the first difference decides, and a beginning comes first
abbrev pub rank_cmp : ℕ × List Spelled → ℕ × List Spelled → Ordering
rank_cmp a b = ordering_then (nat_cmp a.0 b.0) (slice_cmp spelled_cmp a.1 b.1)

abbrev pub IsRisingBy : {T : Type 0} → (T → ℕ × List Spelled) → List T → Type 0
IsRisingBy rank xs = IsSortedByKey rank rank_cmp xs

-- those of the other items that the items lack
abbrev pub lacked : List Item → List Item → List Item
lacked xs others = filter (λ x. not (list_any (item_eq x) xs)) others

-- the members that a reply has, if it has members
abbrev pub members_of_reply : Reply → Option (List Item)
members_of_reply Done = None
members_of_reply (Answered v) = None
members_of_reply (AllMembers xs) = Some xs

abbrev pub members_in : Option Reply → Option (List Item)
members_in None = None
members_in (Some reply) = members_of_reply reply

-- how many items only one of the two has; none where there is no other one
abbrev pub differing : Option (List Item) → List Item → ℕ
differing None xs = 0
differing (Some recorded) xs = length (lacked recorded xs) + length (lacked xs recorded)

-- nil first, then the items
abbrev pub value_items : Val → List Item
value_items Nil = []
value_items (Held i) = i ∷ []

module _ (names : List (List ℕ)) where
  -- queues as they are, sets and bags as they are printed; a lock that is free before one that is held
  abbrev pub state_items : State → List Spelled
  state_items (Value v) = map (spelled names) (value_items v)
  state_items (Queue xs) = map (spelled names) xs
  state_items (Members xs) = printed names xs
  state_items (Bag xs) = printed names xs
  state_items (IsHeld false) = []
  state_items (IsHeld true) = number (pos 1) ∷ []

  abbrev pub state_rank : State → ℕ × List Spelled
  state_rank state = (0, state_items state)

  -- members that are told against recorded ones by how many differ
  abbrev pub members_rank : Option (List Item) → List Item → ℕ × List Spelled
  members_rank recorded xs = (differing recorded xs, printed names xs)

  abbrev pub reply_rank : Option (List Item) → Reply → ℕ × List Spelled
  reply_rank recorded Done = (0, [])
  reply_rank recorded (Answered v) = (0, map (spelled names) (value_items v))
  reply_rank recorded (AllMembers xs) = members_rank recorded xs
