-- Exchanges: crashed operations that have the same call stand in for one another. None of them ever returns or fails, so whatever comes
-- after the events so far treats them alike.
use Rattle.std.specs.Prelude.{◌≡◌, ◌⊎◌, ℕ, List, Contains}
use Rattle.lin_events.specs.declared.items.Item.{Item}
use Rattle.lin_events.specs.declared.calls.Call.{Call}
use Rattle.lin_events.specs.declared.calls.Reply.{Reply}
use Rattle.lin_events.specs.declared.events.Event.{Event}
use Rattle.lin_events.specs.Operations.{IsOpen}
use Rattle.lin_order.specs.Configurations.{IsRising}
use Rattle.lin_members.specs.Covers.{HasCrashed}

-- both processes crashed, in operations that have the same call
pub record AreAlike (h : List Event) (p q : ℕ) : Type 0 where
  pub at : ℕ
  pub other : ℕ
  pub key : Item
  pub other_key : Item
  pub call : Call
  pub first : IsOpen h at p key call
  pub second : IsOpen h other q other_key call
  pub crashed : HasCrashed h p
  pub other_crashed : HasCrashed h q

-- each process is given another one's place, or its own; only such change places as are alike
pub record Exchange (h : List Event) : Type 0 where
  pub to : ℕ → ℕ
  pub from : ℕ → ℕ
  pub there : (q : ℕ) → from (to q) ≡ q
  pub back : (q : ℕ) → to (from q) ≡ q
  pub moves : (q : ℕ) → (to q ≡ q) ⊎ AreAlike h q (to q)

-- the one placed operations are the other ones, exchanged
pub record IsExchanged {h : List Event} (e : Exchange h) (placed others : List (ℕ × Reply)) : Type 0 where
  pub before : IsRising placed
  pub rising : IsRising others
  pub part : (x : ℕ × Reply) → Contains placed x → Contains others (e.to x.0, x.1)
  pub rest : (x : ℕ × Reply) → Contains others x → Contains placed (e.from x.0, x.1)
