-- What a search tells on its way.
use Rattle.std.specs.Prelude.{◌≡◌, ℕ, zero, suc, List, All, Contains, Option, Some, None}
use Rattle.lin_events.specs.declared.calls.Call.{Call}
use Rattle.lin_events.specs.declared.calls.Reply.{Reply}

-- what a number tells of a round: 0 none, and each other one the round before it
abbrev pub round_at : ℕ → Option ℕ
round_at zero = None
round_at (suc round) = Some round

-- the steps by the call from the state, with their replies
pub record AreSteps {S : Type 0} (step : S → Call → S → Reply → Type 0) (state : S) (call : Call) (steps : List (S × Reply)) : Type 0 where
  pub sound : All (λ a. step state call a.0 a.1) steps
  pub complete : (a : S × Reply) → step state call a.0 a.1 → Contains steps a

-- of the call that is known these are the steps
abbrev pub Knows : {S : Type 0} → (S → Call → S → Reply → Type 0) → S → Option Call → List (S × Reply) → Type 0
Knows step state known steps = (call : Call) → known ≡ Some call → AreSteps step state call steps

-- one of the steps has the reply, for the process
abbrev pub Told : {S : Type 0} → ℕ → List (S × Reply) → ℕ × Reply → Type 0
Told {S} process steps x = (x.0 ≡ process) × (next : S) × Contains steps (next, x.1)
