-- Where a follower of a stream stands between two pieces.
use Rattle.std.specs.Prelude.{◌≡◌, ℕ, ◌≤◌, Bool, true, false, List, length, drop, Option, None, Result, Ok, Err}
use Rattle.lin_edn.specs.Grammar.{Spells}
use Rattle.lin_edn.specs.Rows.{row_begun}
use Rattle.lin_edn.specs.Skimming.{HasSeen}
use Rattle.lin_edn.specs.Value.{Value}
use Rattle.lin_history.specs.Reading.{Reading}
use Rattle.lin_history.specs.Stream.{told}
use Rattle.lin_history.specs.PassedMaps.{counted, keywords_in}
use Rattle.lin_history.specs.inner.Passing.{Gathered}
use Rattle.lin_history.specs.inner.Reads.{IsReadTo}
use Rattle.lin_history.specs.declared.follow.Read.{Read}
use Rattle.lin_history.specs.declared.follow.Rest.{Rest}
use Rattle.lin_events.specs.declared.lists.OutOfMemory.{OutOfMemory}
use Rattle.lin_history.specs.declared.row.Far.{Far}
use Rattle.lin_history.specs.declared.row.Far.TheVariants as far
use Rattle.lin_history.specs.declared.row.Row.{Row}
use Rattle.lin_history.specs.Rests.{told_of, IsOpen, IsOpenRow, IsWaiting, Knows}

-- a list or vector in front of a text ends before a place
abbrev pub IsWholeRow : Row → List ℕ → ℕ → Type 0
IsWholeRow row text used = (v : Value) × Spells text v (row_begun row.series) used

-- and what it tells waits, and those of its maps that are passed over are counted
abbrev pub IsWhole : Reading → Row → List ℕ → ℕ → Type 0
IsWhole m row text used = (v : Value) × Spells text v (row_begun row.series) used × (told m v ≡ told_of row) × (row.passed ≡ counted (keywords_in v))

-- a list or vector is read as far as its maps are whole
abbrev pub IsFarRow : Row → List ℕ → Far → Type 0
IsFarRow row text (far.Closed used) = IsWholeRow row text used
IsFarRow row text (far.Open more) = IsOpenRow row text

-- and what they tell waits
abbrev pub IsFar : Reading → Row → List ℕ → Far → Type 0
IsFar m row text (far.Closed used) = IsWhole m row text used
IsFar m row text (far.Open more) = IsOpen m row text

-- nothing is known
abbrev pub IsUnaware : Rest → Type 0
IsUnaware rest = (rest.is_seen ≡ false) × (rest.row ≡ None)

-- whether a text is still unfinished, as the skim tells that has seen it
abbrev pub GoesOn : Rest → List ℕ → Bool → Type 0
GoesOn rest text true = (rest.is_seen ≡ true) × HasSeen rest.skim text
GoesOn rest text false = rest.is_seen ≡ false

-- what is held is read as far as it goes, and something is known of what is left
abbrev pub IsHeld : List ℕ → Rest → Result Read OutOfMemory → Type 0
IsHeld text rest (Ok r) = (r.used ≤ length text) × Knows rest (drop r.used text)
IsHeld text rest (Err _) = IsUnaware rest

-- and what is read so is told, or waits
abbrev pub IsReadHeld : Reading → List ℕ → ℕ → Gathered → Gathered → Option Row → Read → Type 0
IsReadHeld m text p old new row r = IsReadTo m text p old new r × IsWaiting m row (drop r.used text)
