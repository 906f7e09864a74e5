-- What is known of an object before a failure: words of private contracts.
use Rattle.std.specs.Prelude.{ℕ, List, Option, Some, None, take}
use Rattle.lin_events.specs.declared.events.Event.{Event}
use Rattle.lin_objects.specs.declared.kinds.Kind.{Kind}
use Rattle.lin_possibilities.specs.After.{IsAfter}
use Rattle.lin_possibilities.specs.declared.possible.Possible.{Possible}
use Rattle.lin_tables.specs.WindowOperations.{IsLastQuiet}
use Rattle.lin_explain.specs.Possible.{IsPassed, IsWasText}
use Rattle.lin_explain.specs.declared.known.Quiet.{Quiet}

-- what is possible after the events; nothing where the budget is passed
abbrev pub ArePossible : Kind → List Event → ℕ → Option Possible → Type 0
ArePossible kind h budget None = IsPassed kind h budget
ArePossible kind h budget (Some possible) = IsAfter possible kind h

-- since when nothing else ran, and what the object was before that
pub record IsQuietBefore (names : List (List ℕ)) (kind : Kind) (budget : ℕ) (h : List Event) (call : ℕ) (quiet : Quiet) : Type 0 where
  pub last : IsLastQuiet h call quiet.from
  pub is_was : IsWasText names kind (take quiet.from h) budget quiet.was.items
