-- What is known of the bytes that a follower holds: cited by the contracts of private functions,
-- by the invariant of `Follow` over its private fields, and by what a follower sees.
use Rattle.std.specs.Prelude.{◌≡◌, ℕ, true, List, Option, Some, None}
use Rattle.lin_edn.specs.Rows.{IsRow}
use Rattle.lin_edn.specs.Skimming.{HasSeen}
use Rattle.lin_edn.specs.Value.{Value, values_of}
use Rattle.lin_history.specs.PassedMaps.{counted, keywords_of}
use Rattle.lin_history.specs.Reading.{Reading}
use Rattle.lin_history.specs.Stream.{Told, told_by}
use Rattle.lin_history.specs.declared.follow.Rest.{Rest}
use Rattle.lin_history.specs.declared.row.Row.{Row}

-- what the maps tell that are read so far
abbrev pub told_of : Row → Told
told_of row = record { events = row.waiting.items; ends = row.ends }

-- a text begins with an unfinished list or vector, which is read so far
abbrev pub IsOpenRow : Row → List ℕ → Type 0
IsOpenRow row text = (vs : List Value) × IsRow row.series text vs

-- and what its maps tell, as far as they are read, waits; those that are passed over are counted
abbrev pub IsOpen : Reading → Row → List ℕ → Type 0
IsOpen m row text = (vs : List Value) × IsRow row.series text vs × (told_by m (values_of vs) ≡ told_of row) × (row.passed ≡ counted (keywords_of (values_of vs)))

abbrev pub IsWaiting : Reading → Option Row → List ℕ → Type 0
IsWaiting m None text = Unit {0}
IsWaiting m (Some row) text = IsOpen m row text

abbrev pub IsBegun : Option Row → List ℕ → Type 0
IsBegun None text = Unit {0}
IsBegun (Some row) text = IsOpenRow row text

-- if the skim has seen what is held, it is right for it
abbrev pub IsSeen : Rest → List ℕ → Type 0
IsSeen rest text = rest.is_seen ≡ true → HasSeen rest.skim text

-- skim and row, where there are, are right for what is held
abbrev pub Knows : Rest → List ℕ → Type 0
Knows rest text = IsSeen rest text × IsBegun rest.row text
