-- What contracts see of a session, what is always true of one, and what questions have in common.
use Rattle.std.specs.Prelude.{◌≡◌, ◌≤◌, ◌+◌, ◌⊎◌, ℕ, List, Option, None, Some, length}
use Rattle.lin_events.specs.declared.items.Item.{Item}
use Rattle.lin_events.specs.declared.meter.Meter.{Meter}
use Rattle.lin_events.specs.WellFormed.{IsWellFormed}
use Rattle.lin_objects.specs.Kinds.{functions_of, kind_of}
use Rattle.lin_wellformed.specs.declared.scan.Scan.{Scan}
use Rattle.lin_wellformed.specs.Scans.{IsRight, ready_count}
use Rattle.lin_answers.specs.declared.answers.Scope.{Scope}
use Rattle.lin_answers.specs.Answers.{kinds_in}
use Rattle.lin_answers.specs.Edits.{Present, IsBudget}
use Rattle.lin_session.specs.declared.kept.Objects.{Objects}
use Rattle.lin_session.specs.Marks.{AreCarriedOn, AreExact, IsNothingDue}
use Rattle.lin_session.specs.Objects.{AreRight, split_in}
use Rattle.lin_session.specs.Known.{AreSameMarks, Known, mark_of}
use Rattle.lin_session.specs.Work.{IsSpentAtMostIn, IsSpentIn, anew, due_in}

-- What the session speaks of, and how much it worked for it; how many of the first events are still known to be well-formed or not, none where all
-- are; and what is known of the objects that are listed, with their keys.
pub record Standing : Type 0 where
  pub present : Present
  pub meter : Meter
  pub low : Option ℕ
  pub marks : List (Item × Known)

-- of so many events, so many are taken in: all, or no fewer than the first that stand
abbrev pub AreTakenIn : Option ℕ → ℕ → ℕ → Type 0
AreTakenIn None taken count = taken ≡ count
AreTakenIn (Some first) taken count = first ≤ taken

-- what is kept agrees with the present history and kinds
pub record IsUpToDate (now : Present) (low : Option ℕ) (scan : Scan) (objects : Objects) : Type 0 where
  pub few : length now.history ≤ 1000000
  pub budgeted : IsBudget now.budget
  pub scanned : IsRight scan (kind_of now.kinds) now.history
  pub taken_in : AreTakenIn low (ready_count scan) (length now.history)
  pub kept : AreRight objects (kind_of now.kinds) now.budget now.history
  -- where nothing changed since a question, all events are told apart, if they are well-formed
  pub apart : low ≡ None → IsWellFormed (functions_of (kind_of now.kinds)) now.history → split_in objects ≡ length now.history

-- What every question leaves, whatever comes of it. Its engines take no more steps than were left for them, and none where nothing has to be found; objects
-- that have an engine of their own take one for each event that is due to it. It takes so many besides.
pub record IsQuestion (scope : Scope) (besides : ℕ) (old new : Standing) : Type 0 where
  pub low : (new.low ≡ old.low) ⊎ (new.low ≡ None)
  pub scans : new.meter.scans ≤ old.meter.scans + anew old.low (length old.present.history)
  pub marks : AreCarriedOn old.present.history scope (mark_of old.marks) (mark_of new.marks)
  pub most : IsSpentAtMostIn old.present.history scope (mark_of old.marks) (mark_of new.marks) (old.meter.steps + besides) new.meter.steps
  pub idle : IsNothingDue old.present.history scope (mark_of old.marks) → new.meter.steps ≤ old.meter.steps + besides
  pub exact : AreExact (kinds_in old.present) old.present.history scope → 1024 ≤ old.present.budget → new.meter.steps ≤ old.meter.steps + besides + due_in old.present.history scope (mark_of old.marks)
  pub ill_formed : (IsWellFormed (functions_of (kinds_in old.present)) old.present.history → ⊥) → AreSameMarks (mark_of old.marks) (mark_of new.marks)

-- and where it is answered: of the objects that it is about nothing has to be found any more
pub record IsAnswered (scope : Scope) (besides : ℕ) (old new : Standing) : Type 0 where
  pub low : new.low ≡ None
  pub known : IsWellFormed (functions_of (kinds_in old.present)) old.present.history → IsNothingDue old.present.history scope (mark_of new.marks)
  pub spent : IsSpentIn old.present.history scope (mark_of old.marks) (mark_of new.marks) (old.meter.steps + besides) new.meter.steps
