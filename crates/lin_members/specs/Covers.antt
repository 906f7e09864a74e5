-- Covers: fewer configurations that stand in for all of a history that has one object. Whether a crashed operation took effect is
-- never told, so a configuration that places one more of them allows nothing that the one without it doesn't.
use Rattle.std.specs.Prelude.{◌≡◌, ◌⊎◌, ℕ, List, All, Contains}
use Rattle.lin_events.specs.declared.items.Item.{Item}
use Rattle.lin_events.specs.declared.events.Event.{Event}
use Rattle.lin_events.specs.declared.calls.Call.{Call}
use Rattle.lin_events.specs.declared.calls.Reply.{Reply}
use Rattle.lin_events.specs.Operations.{IsCrashed, IsOperation}

-- an operation of the process crashed
abbrev pub HasCrashed : List Event → ℕ → Type 0
HasCrashed h process = (at : ℕ) × (key : Item) × (call : Call) × IsOperation h at process key call × IsCrashed h at

-- The first configuration covers the second: it is in the same state, each pair that it places the second places too, and each other pair that
-- the second places is of a process that crashed.
pub record Covers {S : Type 0} (crashed : ℕ → Type 0) (c d : S × List (ℕ × Reply)) : Type 0 where
  pub state : c.0 ≡ d.0
  pub part : All (Contains d.1) c.1
  pub rest : All (λ x. Contains c.1 x ⊎ crashed x.0) d.1
