-- Counts of work.
use Rattle.std.specs.Prelude.{◌+◌, ◌-◌, ◌^◌, zero, suc, min, ℕ}

-- a count of 64 bits after so many more ticks: it stays at its greatest value
abbrev pub ticked : ℕ → ℕ → ℕ
ticked count zero = count
ticked count (suc more) = min (ticked count more + 1) (2 ^ 64 - 1)
