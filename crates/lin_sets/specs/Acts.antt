-- The operations of a set that are put into an order: each add that did not fail, and each ok read.
use Rattle.std.specs.Prelude.{◌≡◌, ◌≢◌, ◌↔◌, ℕ, List, Option, Some, Contains, AllPairs, slice_get}
use Rattle.lin_events.specs.declared.items.Item.{Item}
use Rattle.lin_events.specs.declared.calls.Call.TheVariants.{Read, Add}
use Rattle.lin_events.specs.declared.calls.Reply.TheVariants as Replied
use Rattle.lin_events.specs.declared.events.Event.{Event}
use Rattle.lin_events.specs.Operations.{IsOk, IsFailed}
use Rattle.lin_order.specs.Orders.{IsCall}

-- an add of the item stands at the place
abbrev pub IsAdd : List (Option Item) → ℕ → Item → Type 0
IsAdd adds at n = slice_get adds at ≡ Some (Some n)

-- the adds stand at their places, and the reads each with its place and what it found, in any order
pub record AreActs (adds : List (Option Item)) (reads : List (ℕ × List Item)) (h : List Event) : Type 0 where
  -- those adds stand that have not failed
  pub add : (at : ℕ) (n : Item) → IsAdd adds at n ↔ (IsCall h at (Add n) × (IsFailed h at → ⊥))
  -- those reads are there that are ok
  pub read : (at : ℕ) (s : List Item) → Contains reads (at, s) ↔ (IsCall h at Read × ((end : ℕ) × IsOk h at end (Replied.Members s)))
  -- each once
  pub once : AllPairs (λ q r. q.0 ≢ r.0) reads
