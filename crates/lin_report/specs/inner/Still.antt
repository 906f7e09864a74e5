-- Questions about objects of which all is known: words of private contracts.
use Rattle.std.specs.Prelude.{◌≡◌, ◌≤◌, ◌+◌, ℕ, Option, None}
use Rattle.lin_events.specs.declared.items.Item.{Item}
use Rattle.lin_events.specs.WellFormed.{IsWellFormed}
use Rattle.lin_objects.specs.Kinds.{functions_of}
use Rattle.lin_answers.specs.Answers.{kinds_in}
use Rattle.lin_answers.specs.declared.answers.Answer.{Answer}
use Rattle.lin_answers.specs.declared.answers.Answer.TheVariants.{IllFormed, Yes, No, Undecided}
use Rattle.lin_answers.specs.declared.answers.Scope.{Scope}
use Rattle.lin_answers.specs.declared.answers.Scope.TheVariants.{Whole}
use Rattle.lin_answers.specs.declared.answers.Verdict.{Verdict}
use Rattle.lin_answers.specs.declared.answers.Verdict.TheVariants as verdict
use Rattle.lin_session.specs.Known.{AreSameMarks, mark_of}
use Rattle.lin_session.specs.Marks.{IsNothingDue}
use Rattle.lin_session.specs.Sessions.{Standing}

-- of each object it is known how all its events end
pub record IsAllKnown (s : Standing) : Type 0 where
  pub low : s.low ≡ None
  pub known : IsNothingDue s.present.history Whole (mark_of s.marks)

-- so it is behind an answer for the scope, if the events are well-formed
pub record IsSettled (scope : Scope) (s : Standing) : Type 0 where
  pub low : s.low ≡ None
  pub known : IsWellFormed (functions_of (kinds_in s.present)) s.present.history → IsNothingDue s.present.history scope (mark_of s.marks)

-- nothing is found anew: what is known stays, nothing is scanned, and no more than so many steps are taken
pub record IsStill (most : ℕ) (old new : Standing) : Type 0 where
  pub present : new.present ≡ old.present
  pub low : new.low ≡ None
  pub scans : new.meter.scans ≤ old.meter.scans
  pub marks : AreSameMarks (mark_of old.marks) (mark_of new.marks)
  pub steps : new.meter.steps ≤ old.meter.steps + most

-- behind a question about the whole that is undecided all is known; behind each other one nothing is asked any more
abbrev pub IsSettledFor : Option Item → Verdict → Standing → Type 0
IsSettledFor None (verdict.Undecided at) s = IsAllKnown s
IsSettledFor _ _ s = s.low ≡ None

-- so many passes through the whole history are made beside the answer
abbrev pub beside_passes : Answer → ℕ
beside_passes (IllFormed at cause) = 0
beside_passes (Yes order) = 0
beside_passes (No n) = 0
beside_passes (Undecided at) = 7
