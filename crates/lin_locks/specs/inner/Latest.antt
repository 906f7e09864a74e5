-- What each process invoked last.
use Rattle.std.specs.Prelude.{ℕ, Option, None, Some, if◌then◌else◌, nat_eq}
use Rattle.std.specs.Map.{lookup}
use Rattle.lin_locks.specs.declared.latest.Latest.{Latest}
use Rattle.lin_locks.specs.declared.latest.Running.{Running}

abbrev pub latest_in : Latest → ℕ → Option Running
latest_in latest process = lookup (nat_eq process) latest.listed.entries

-- what is told of one process once that invoked this
abbrev pub with_latest : (ℕ → Option Running) → ℕ → Running → ℕ → Option Running
with_latest latest process running other = if nat_eq process other then Some running else latest other

-- what a process that invoked something invoked last before it
abbrev pub recalled : Option Running → Option Running → Option Running
recalled before None = None
recalled before (Some running) = before

-- and what is told of the others stays
abbrev pub with_recalled : (ℕ → Option Running) → ℕ → Option Running → ℕ → Option Running
with_recalled latest process before other = if nat_eq process other then recalled before (latest other) else latest other
