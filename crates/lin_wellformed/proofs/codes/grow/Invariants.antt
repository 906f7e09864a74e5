use Rattle.std.proofs.Common.{◌≡◌, ◌+◌, ◌-◌, ◌≤◌, ◌⊎◌, ℕ, Some, length, slice_get}
use Rattle.lin_wellformed.proofs.codes.grow.Given as goal

-- the codes that there were stay, and behind them none stands
abbrev pub invariant-loop-codes : goal.invariant-loop-codes
invariant-loop-codes l = record {
  longer : length l.initial.codes.items ≤ length l.codes.items;
  kept : (k code : ℕ) → slice_get l.codes.items k ≡ Some code → (slice_get l.initial.codes.items k ≡ Some code) ⊎ ((length l.initial.codes.items ≤ k) × (code ≡ 0));
}

abbrev pub decreases-loop-codes : goal.decreases-loop-codes
decreases-loop-codes l = l.at + 1 - length l.codes.items
