-- Where a run stands, and what is read of the file for a pull: cited by the contracts of private functions alone.
use Rattle.std.specs.Prelude.{◌≡◌, ◌<◌, ◌≤◌, ◌-◌, ◌++◌, [], ℕ, Bool, true, false, List, Option, None, Some, length}
use Rattle.lin_events.specs.declared.events.Event.{Event}
use Rattle.lin_history.specs.Reading.{Reading}
use Rattle.lin_history.specs.Sees.{Followed, Sees}
use Rattle.lin_names.specs.Names.{AreEachOnce}
use Rattle.lin_answers.specs.Edits.{Present}
use Rattle.lin_formats.specs.Inputs.{limit}
use Rattle.lin_formats.specs.Intakes.{AreSeen}
use Rattle.lin_report.specs.Runs.{RunState, refusal_in}
use Rattle.lin_formats.specs.declared.verdicts.Refusal.{Refusal}
use Rattle.lin_formats.specs.declared.verdicts.Refusal.TheVariants.{Full}

-- these events went from the follower, where they were ready, to the end of the history; there was room
pub record Enters (now new : Present) (follow after : Followed) (entered : List Event) : Type 0 where
  pub present : new ≡ record now { history = now.history ++ entered }
  pub keyed : after.keyed ≡ follow.keyed
  pub sees : (m : Reading) (bytes : List ℕ) (put : List Event) → Sees m follow bytes put → Sees m after bytes (put ++ entered)
  pub room : length entered ≤ limit - length now.history

-- whether all that were ready did; else no room is left
abbrev pub IsAllOrFull : Bool → Present → Followed → Type 0
IsAllOrFull true now follow = follow.ready ≡ []
IsAllOrFull false now follow = (0 < length follow.ready) × (limit ≤ length now.history)

-- no more may be read for this: no room is left for what is ready, or there is a fault; else nothing is ready
abbrev pub IsStop : Option Refusal → Present → Followed → Type 0
IsStop (Some Full) now follow = (0 < length follow.ready) × (limit ≤ length now.history)
IsStop (Some other) now follow = (follow.ready ≡ []) × (refusal_in follow.outcome ≡ Some other)
IsStop None now follow = (follow.ready ≡ []) × (refusal_in follow.outcome ≡ None)

-- the session, the names and the follower stand where the run stands
pub record StandsAt (keyed : Bool) (state : RunState) (present : Present) (names : List (List ℕ)) (follow : Followed) (left : Option (List ℕ)) : Type 0 where
  pub present_is : present ≡ state.present
  pub names_are : names ≡ state.names
  pub once : AreEachOnce names
  pub sees : AreSeen names follow state.bytes state.put
  pub keyed_is : follow.keyed ≡ keyed
  pub left_is : left ≡ state.left
