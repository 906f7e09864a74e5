-- Readers and writers that count their failures.
use Rattle.std.specs.Prelude.{◌≡◌, ℕ, ◌+◌, ◌-◌, ◌^◌, ◌==◌, ◌&&◌, nat_lt, min, Bool, true, false, List, length, Option, Result, Ok, Err}
use Rattle.lin_history.specs.Counts.{Passed}
use Rattle.lin_formats.specs.declared.verdicts.Refusal.{Refusal}
use Rattle.lin_formats.specs.declared.counted.Counted.{Counted}

-- the reader or writer inside
abbrev pub device_of : {T : Type 0} → Counted T → T
device_of c = c.inner

-- how often it failed
abbrev pub failures_of : {T : Type 0} → Counted T → ℕ
failures_of c = c.failures

-- whether the history that was read from it last was whole and had no event
abbrev pub is_empty_of : {T : Type 0} → Counted T → Bool
is_empty_of c = c.is_empty

-- the maps that were passed over in the history that was read from it last
abbrev pub passed_of : {T : Type 0} → Counted T → Passed
passed_of c = c.passed

-- why what was read from it last is refused, if it is
abbrev pub refused_of : {T : Type 0} → Counted T → Option Refusal
refused_of c = c.refused

-- a write fails by an error, or where it takes none of some bytes
abbrev pub takes_nothing : {E : Type 0} → List ℕ → Result ℕ E → Bool
takes_nothing buf (Ok n) = (n == 0) && nat_lt 0 (length buf)
takes_nothing buf (Err e) = true

-- a call that failed adds one to the count of failures, up to its greatest value, and any other call leaves it
abbrev pub Counts : Bool → ℕ → ℕ → Type 0
Counts true old new = new ≡ min (old + 1) (2 ^ 64 - 1)
Counts false old new = new ≡ old
