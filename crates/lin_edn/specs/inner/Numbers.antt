-- How far below 0 the integers of 64 bits go: cited by the contract of a private function alone.
use Rattle.std.specs.Prelude.{ℕ, ◌^◌, nat_le, if◌then◌else◌, Option, Some, None}

-- a number that an integer of 64 bits has behind a minus
abbrev pub capped : Option ℕ → Option ℕ
capped None = None
capped (Some n) = if nat_le n (2 ^ 63) then Some n else None
