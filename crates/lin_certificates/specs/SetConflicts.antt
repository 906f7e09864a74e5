-- Operations of a set that can't stand in one legal order: a set only grows, so an item that is in it is found by each later read.
use Rattle.std.specs.Prelude.{◌≡◌, ℕ, List, Contains}
use Rattle.lin_events.specs.declared.items.Item.{Item}
use Rattle.lin_events.specs.declared.calls.Call.{Call}
use Rattle.lin_events.specs.declared.calls.Call.TheVariants.{Read, Add}
use Rattle.lin_events.specs.declared.calls.Reply.{Reply}
use Rattle.lin_events.specs.declared.calls.Reply.TheVariants as Replied
use Rattle.lin_events.specs.declared.events.Event.{Event}
use Rattle.lin_events.specs.Operations.{IsOk}
use Rattle.lin_order.specs.Orders.{IsCall}

-- the set has the item behind the call with this reply
abbrev pub Has : Call → Reply → Item → Type 0
Has (Add x) reply n = x ≡ n
Has Read (Replied.Members s) n = Contains s n
Has _ _ n = ⊥

-- the call with this reply found the set without the item
abbrev pub Lacks : Call → Reply → Item → Type 0
Lacks Read (Replied.Members s) n = Contains s n → ⊥
Lacks _ _ n = ⊥

-- the operation is known to be ok at `end`, and the set has the item behind it
abbrev pub HadAt : List Event → ℕ → Item → ℕ → Type 0
HadAt h at n end = (call : Call) × (reply : Reply) × IsCall h at call × IsOk h at end reply × Has call reply n

-- the operation is known to be ok at `end`, and found the set without the item
abbrev pub LackedAt : List Event → ℕ → Item → ℕ → Type 0
LackedAt h at n end = (call : Call) × (reply : Reply) × IsCall h at call × IsOk h at end reply × Lacks call reply n

-- the operation is known to be ok, and found the set with the one item and without the other
abbrev pub FoundAt : List Event → ℕ → Item → Item → Type 0
FoundAt h at n m = (call : Call) × (reply : Reply) × IsCall h at call × ((end : ℕ) × IsOk h at end reply) × Has call reply n × Lacks call reply m
