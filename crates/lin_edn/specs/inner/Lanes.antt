-- Sixteen bytes at once.
use Rattle.std.specs.Prelude.{◌≡◌, ℕ, ◌<◌, ◌≤◌, true, List, slice_index, if◌then◌else◌, ◌==◌}
use Rattle.std.specs.Int.{w64, trailing_zeros}
use Rattle.lin_bytes.specs.Bytes.{class, is_inside}

-- the place of the lowest bit that is set, or n
abbrev pub first_set : ℕ → ℕ → ℕ
first_set mask n = if mask == 0 then n else trailing_zeros w64 mask

-- each byte from one place up to another may begin a run
abbrev pub AreInside : List ℕ → ℕ → ℕ → Type 0
AreInside s from until = (k : ℕ) → from ≤ k → k < until → is_inside (class (slice_index s k)) ≡ true
