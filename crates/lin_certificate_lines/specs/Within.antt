-- How a lock is told that had one of its calls too often between two places.
use Rattle.std.specs.Prelude.{◌≡◌, ◌-◌, ℕ, List, [], ◌++◌, codes, length, reverse}
use Rattle.lin_events.specs.declared.calls.Name.{Name}
use Rattle.lin_events.specs.declared.calls.Name.TheVariants as Named
use Rattle.lin_events.specs.declared.events.Event.{Event}
use Rattle.lin_certificates.specs.Certificates.{CanWithin, DidWithin}
use Rattle.lin_certificates.specs.Words.{IsOfCalls}
use Rattle.lin_certificates.specs.declared.words.Calls.{Calls}
use Rattle.lin_certificates.specs.declared.words.Calls.TheVariants.{Acquires, Releases}
use Rattle.lin_certificate_lines.specs.Groups.{FailsWithin, IsListing}
use Rattle.lin_certificate_lines.specs.Lines.{past_text}
use Rattle.lin_certificate_lines.specs.Series.{sides_text, times_text}
use Rattle.lin_certificate_lines.specs.Sides.{named_sides}
use Rattle.lin_certificate_lines.specs.Telling.{spot_at}
use Rattle.lin_certificate_lines.specs.declared.sides.Sides.{Sides}
use Rattle.lin_certificate_lines.specs.declared.told.ObjectEvents.{ObjectEvents}

-- all of the one call that ran between the places, all of the other that may have, and all of that one that failed then, each the last called first
pub record AreWithin (h : List Event) (calls other : Calls) (from to : ℕ) (sides : Sides) : Type 0 where
  pub all_done : IsListing (DidWithin h calls from to) (reverse sides.done.items)
  pub all_may : IsListing (CanWithin h other from to) (reverse sides.may.items)
  pub all_failed : IsListing (FailsWithin h (IsOfCalls other) from to) (reverse sides.failed.items)

-- from the one event up to the one ahead of the other place
abbrev pub span_text : ObjectEvents → ℕ → ℕ → List ℕ
span_text told from to = codes " from " ++ spot_at told from ++ codes " to " ++ spot_at told (to - 1)

abbrev pub within_why : ObjectEvents → Name → Name → ℕ → ℕ → List ℕ → List ℕ → List ℕ
within_why told over under from to done may = codes "why: " ++ past_text over ++ codes " " ++ times_text (length done) ++ span_text told from to
    ++ codes ", and " ++ past_text under ++ codes " at most " ++ times_text (length may) ++ codes "\n"

abbrev pub within_text : ObjectEvents → Name → Name → ℕ → ℕ → Sides → List ℕ
within_text told over under from to sides = within_why told over under from to sides.done.items sides.may.items
    ++ sides_text told sides.done.items sides.may.items sides.failed.items

-- the lines tell how often the one call was made between the places, and how often the other can have been
pub record IsWithinBy (told : ObjectEvents) (calls other : Calls) (over under : Name) (from to : ℕ) (lines operations : List ℕ) : Type 0 where
  pub sides : Sides
  pub are : AreWithin told.events.now calls other from to sides
  pub put : lines ≡ within_text told over under from to sides
  pub named : operations ≡ named_sides sides.done.items sides.may.items sides.failed.items

abbrev pub IsWithinTold : ObjectEvents → Calls → ℕ → ℕ → List ℕ → List ℕ → Type 0
IsWithinTold told Acquires from to lines operations = IsWithinBy told Acquires Releases Named.Acquire Named.Release from to lines operations
IsWithinTold told Releases from to lines operations = IsWithinBy told Releases Acquires Named.Release Named.Acquire from to lines operations
IsWithinTold told _ from to lines operations = (lines ≡ []) × (operations ≡ [])
