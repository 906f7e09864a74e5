-- Conflicts of a set: operations of a history that can't stand in one legal order. A set only grows, so what was in it once each
-- later read finds, and of two reads the one finds all that the other does.
use Rattle.std.specs.Prelude.{◌≡◌, ◌<◌, ◌≤◌, ◌⊎◌, ℕ, List}
use Rattle.lin_events.specs.declared.items.Item.{Item}
use Rattle.lin_events.specs.Items.{item_cmp}
use Rattle.lin_events.specs.declared.calls.Call.{Call}
use Rattle.lin_events.specs.declared.calls.Call.TheVariants.{Read, Add}
use Rattle.lin_events.specs.declared.calls.Reply.{Reply}
use Rattle.lin_events.specs.declared.calls.Reply.TheVariants as Replied
use Rattle.lin_events.specs.declared.events.Event.{Event}
use Rattle.lin_events.specs.Operations.{IsOk, IsFailed}
use Rattle.lin_lists.specs.Sets.{IsRising}
use Rattle.lin_order.specs.Orders.{IsCall}
use Rattle.lin_certificates.specs.SetConflicts.{HadAt, LackedAt, FoundAt}

-- some set gives this reply to the call
abbrev pub IsAnswer : Call → Reply → Type 0
IsAnswer (Add x) reply = reply ≡ Replied.Done
IsAnswer Read (Replied.Members s) = IsRising item_cmp s
IsAnswer _ _ = ⊥

-- each add of the item that was invoked up to and with the place failed
abbrev pub HasNoAddBy : List Event → Item → ℕ → Type 0
HasNoAddBy h n place = (at : ℕ) → at ≤ place → IsCall h at (Add n) → IsFailed h at

-- an ok operation has a reply that no set gives
abbrev pub HasWrongReply : List Event → Type 0
HasWrongReply h = (at end : ℕ) × (call : Call) × (reply : Reply) × IsCall h at call × IsOk h at end reply × (IsAnswer call reply → ⊥)

-- an item was found, and all that add it failed or were invoked later
abbrev pub HasUnadded : List Event → Type 0
HasUnadded h = (read end : ℕ) × (n : Item) × HadAt h read n end × HasNoAddBy h n end

-- an item was there, and a read that was invoked later did not find it
abbrev pub HasLost : List Event → Type 0
HasLost h = (earlier end later until : ℕ) × (n : Item) × HadAt h earlier n end × LackedAt h later n until × (end < later)

-- an item was there before each add of another one, and a read found that one and not the item
abbrev pub HasPassed : List Event → Type 0
HasPassed h = (earlier end read : ℕ) × (n other : Item) × HadAt h earlier n end × FoundAt h read other n × HasNoAddBy h other end

-- of two reads each found an item that the other did not
abbrev pub HasApart : List Event → Type 0
HasApart h = (first second : ℕ) × (n other : Item) × FoundAt h first n other × FoundAt h second other n

-- some operations of the history conflict
abbrev pub IsInConflict : List Event → Type 0
IsInConflict h = HasWrongReply h ⊎ (HasUnadded h ⊎ (HasLost h ⊎ (HasPassed h ⊎ HasApart h)))
