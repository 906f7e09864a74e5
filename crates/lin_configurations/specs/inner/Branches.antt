-- How many configurations there are at least, where each of some open operations can be placed or not: words of private contracts.
use Rattle.std.specs.Prelude.{◌≡◌, ◌≢◌, ◌*◌, ℕ, zero, suc, Bool, true, false, List, All, AllPairs, Contains}
use Rattle.lin_events.specs.declared.calls.Call.{Call}
use Rattle.lin_events.specs.declared.calls.Reply.{Reply}
use Rattle.lin_frontier.specs.declared.pending.Open.{Open}
use Rattle.lin_frontier.specs.Placing.{IsAbsent}

-- the number to the power of the other
abbrev pub power : ℕ → ℕ → ℕ
power x zero = 1
power x (suc n) = x * power x n

-- the operation's call is total, and it has no place yet
abbrev pub IsFree : (Call → Bool) → List (ℕ × Reply) → Open → Type 0
IsFree total placed o = (total o.call ≡ true) × IsAbsent o.process placed

-- replies to the reads show the operation's call, and the state hasn't taken it
abbrev pub IsUntold : {S : Type 0} → (Call → Call → Bool) → (S → Call → Bool) → S → Call → Open → Type 0
IsUntold shown has state reads o = (shown o.call reads ≡ true) × (has state o.call ≡ false) × (reads ≢ o.call)

-- some of the operations, in their order, of which P holds
pub record ArePicked (P : Open → Type 0) (xs ys : List Open) : Type 0 where
  pub each : All P ys
  pub among : All (Contains xs) ys
  pub apart : AllPairs (λ o p. o.at ≢ p.at) xs → AllPairs (λ o p. o.at ≢ p.at) ys
