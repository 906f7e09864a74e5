-- Operations that were done, and those that have to come before them.
use Rattle.std.specs.Prelude.{ℕ, List, ◌++◌}
use Rattle.lin_events.specs.declared.events.Event.{Event}
use Rattle.lin_certificates.specs.Words.{Counts, Returned}
use Rattle.lin_certificate_lines.specs.Groups.{Fails, IsListing, IsOfAnswers, IsOfCalls}
use Rattle.lin_certificate_lines.specs.Series.{firsts}
use Rattle.lin_certificate_lines.specs.declared.groups.ReplyGroup.{ReplyGroup}
use Rattle.lin_certificate_lines.specs.declared.groups.CallGroup.{CallGroup}
use Rattle.lin_certificate_lines.specs.declared.sides.Sides.{Sides}

-- all that returned and are such; all of the other sort that aren't failed; all of that sort that failed
pub record AreSides (h : List Event) (answers : ReplyGroup) (calls : CallGroup) (sides : Sides) : Type 0 where
  pub all_done : IsListing (Returned h (IsOfAnswers answers)) sides.done.items
  pub all_may : IsListing (Counts h (IsOfCalls calls)) sides.may.items
  pub all_failed : IsListing (Fails h (IsOfCalls calls)) sides.failed.items

-- the first of each are named
abbrev pub named_sides : List ℕ → List ℕ → List ℕ → List ℕ
named_sides done may failed = firsts done ++ firsts may ++ firsts failed
