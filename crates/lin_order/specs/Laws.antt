-- Laws of legal orders.
use Rattle.std.specs.Prelude.{◌≡◌, ℕ, List, [], take}
use Rattle.lin_events.specs.declared.items.Item.{Item}
use Rattle.lin_events.specs.declared.events.Event.{Event}
use Rattle.lin_events.specs.declared.calls.Reply.{Reply}
use Rattle.lin_events.specs.Operations.{IsOk}
use Rattle.lin_objects.specs.declared.kinds.Kind.{Kind}
use Rattle.lin_order.specs.declared.placed.Placed.{Placed}
use Rattle.lin_order.specs.Orders.{IsOrder, Places, part_of}
use Rattle.lin_order.specs.Linearizable.{IsLegalOrder, IsLegalOrderFor, IsLinearizable, IsLinearizableFor}

-- the empty order is a legal order of the empty history, and for each object
abbrev pub EmptyIsLegal : Type 0
EmptyIsLegal = (kinds : Item → Kind) → IsLegalOrder kinds [] [] × ((key : Item) → IsLegalOrderFor kinds key [] [])

-- an ok operation stands in an order with its recorded reply and with no other
abbrev pub RepliesAreRecorded : Type 0
RepliesAreRecorded = (h : List Event) (order : List Placed) → IsOrder h order → (at end : ℕ) (reply other : Reply) → IsOk h at end reply → Places order at other → other ≡ reply

-- the part of a legal order that is of a key is a legal order for its object
abbrev pub PartsAreLegal : Type 0
PartsAreLegal = (kinds : Item → Kind) (h : List Event) (order : List Placed) → IsLegalOrder kinds h order → (key : Item) → IsLegalOrderFor kinds key h (part_of h key order)

-- each prefix of a linearizable history is linearizable
abbrev pub PrefixesAreLinearizable : Type 0
PrefixesAreLinearizable = (kinds : Item → Kind) (h : List Event) (n : ℕ) → IsLinearizable kinds h → IsLinearizable kinds (take n h)

-- each prefix of a history that is linearizable for an object is so too
abbrev pub PrefixesAreLinearizableFor : Type 0
PrefixesAreLinearizableFor = (kinds : Item → Kind) (key : Item) (h : List Event) (n : ℕ) → IsLinearizableFor kinds key h → IsLinearizableFor kinds key (take n h)
