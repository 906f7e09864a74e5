-- Where a row of bytes ends.
use Rattle.std.specs.Prelude.{◌≡◌, ℕ, ◌<◌, ◌≤◌, Bool, true, false, not, ◌||◌, ◌==◌, List, slice_index}
use Rattle.lin_bytes.specs.Bytes.{is_white}

-- the first byte from a place on that stops, or the end
abbrev pub IsStopAt : (ℕ → Bool) → List ℕ → ℕ → ℕ → ℕ → Type 0
IsStopAt stops s from end r = (from ≤ r) × (r ≤ end) × ((i : ℕ) → from ≤ i → i < r → stops (slice_index s i) ≡ false)
    × (r < end → stops (slice_index s r) ≡ true)

abbrev pub is_dark : ℕ → Bool
is_dark c = not (is_white c)

-- a quote or a backslash
abbrev pub is_quoting : ℕ → Bool
is_quoting c = (c == 34) || (c == 92)
