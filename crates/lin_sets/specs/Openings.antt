-- The latest operation of each process.
use Rattle.std.specs.Prelude.{◌≡◌, ℕ, List, Option, None, Some, IsSome, if◌then◌else◌, nat_eq}
use Rattle.std.specs.Map.{lookup}
use Rattle.lin_sets.specs.declared.openings.Opened.{Opened}

-- what the process invoked last
abbrev pub opened_in : List (ℕ × Opened) → ℕ → Option Opened
opened_in listed process = lookup (nat_eq process) listed

-- once a process that is listed has this one again, or, where it had none, once nothing changed
abbrev pub IsRestored : List (ℕ × Opened) → List (ℕ × Opened) → ℕ → Option Opened → Type 0
IsRestored old new process None = new ≡ old
IsRestored old new process (Some opened) = IsSome (opened_in old process) → (other : ℕ) → opened_in new other ≡ (if nat_eq process other then Some opened else opened_in old other)
