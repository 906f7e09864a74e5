-- What telling how an object ends costs: each event once for each engine, and no more than a constant for each event in searches.
use Rattle.std.specs.Prelude.{◌≤◌, ◌+◌, ◌-◌, ◌*◌, ℕ, Bool, false, Option, None, Some, if◌then◌else◌, nat_eq}
use Rattle.lin_engines.specs.declared.ends.End.{End}
use Rattle.lin_engines.specs.declared.ends.End.TheVariants.{Alive}

-- What is known of an object: how its first so many events end, if that is told; how many of them are no longer due to its frontiers, to the engine beside
-- these, and to searches; and whether a witness couldn't go on since the last edit.
pub record Mark : Type 0 where
  pub told : ℕ → Option End
  pub frontier : ℕ
  pub beside : ℕ
  pub searched : ℕ
  pub stopped : Bool

-- of an object of which nothing is known yet: it has no events
abbrev pub unasked : Mark
unasked = record { told = λ count. if nat_eq 0 count then Some Alive else None; frontier = 0; beside = 0; searched = 0; stopped = false }

-- How many steps are left for so many events. Frontiers take each event in once; so does the engine beside them, and a search may say how it goes on;
-- searches of all events take nine steps for each, and aren't made again before the events have doubled.
abbrev pub left : Mark → ℕ → ℕ
left mark count = (count - mark.frontier) + 2 * (count - mark.beside) + 18 * (count - mark.searched)

-- where a witness can't go on, for the first time since an edit, it is mended or the failure sought there, and all events may be searched anew
abbrev pub for_stop : Mark → Mark → ℕ → ℕ
for_stop old new count = if old.stopped then 0 else if new.stopped then 22 * count else 0

-- the bound on work: what was spent and what is left are no more than what was left before
abbrev pub IsSpent : Mark → Mark → ℕ → ℕ → ℕ → Type 0
IsSpent old new count before after = after + left new count ≤ before + left old count + for_stop old new count

-- and where it was broken off
abbrev pub IsSpentAtMost : Mark → Mark → ℕ → ℕ → ℕ → Type 0
IsSpentAtMost old new count before after = after ≤ before + left old count + for_stop old new count
