-- Groups of operations that the lines of a certificate list.
use Rattle.std.specs.Prelude.{◌≡◌, ◌≢◌, ◌<◌, ◌↔◌, ℕ, List, AllPairs, Contains}
use Rattle.lin_events.specs.declared.calls.Call.{Call}
use Rattle.lin_events.specs.declared.calls.Call.TheVariants.{Acquire, Release}
use Rattle.lin_events.specs.declared.calls.Reply.{Reply}
use Rattle.lin_events.specs.declared.events.Event.{Event}
use Rattle.lin_events.specs.Operations.{IsEnd, IsFailed}
use Rattle.lin_order.specs.Orders.{IsBefore, IsCall}
use Rattle.lin_certificates.specs.Adding.{Adds}
use Rattle.lin_certificates.specs.Conflicts.{Leaves}
use Rattle.lin_certificates.specs.QueueConflicts.{Takes}
use Rattle.lin_certificates.specs.Certificates.{Overwrites}
use Rattle.lin_certificates.specs.Words.{Counts, IsOfWhich, Returned, Spends, Updates}
use Rattle.lin_certificate_lines.specs.declared.groups.CallGroup.{CallGroup}
use Rattle.lin_certificate_lines.specs.declared.groups.CallGroup.TheVariants as Called
use Rattle.lin_certificate_lines.specs.declared.groups.ReplyGroup.{ReplyGroup}
use Rattle.lin_certificate_lines.specs.declared.groups.ReplyGroup.TheVariants as Answered
use Rattle.lin_certificate_lines.specs.declared.groups.Group.{Group}
use Rattle.lin_certificate_lines.specs.declared.groups.Group.TheVariants as Chosen

-- the list has just those that are such, rising
abbrev pub IsListing : (ℕ → Type 0) → List ℕ → Type 0
IsListing P list = AllPairs ◌<◌ list × ((at : ℕ) → P at ↔ Contains list at)

-- the operation failed, and its call is such
abbrev pub Fails : List Event → (Call → Type 0) → ℕ → Type 0
Fails h P at = (call : Call) × IsCall h at call × IsFailed h at × P call

-- the operation ended before the place
abbrev pub EndsBefore : List Event → ℕ → ℕ → Type 0
EndsBefore h at place = (end : ℕ) × (ending : Event) × IsEnd h at end ending × (end < place)

-- it failed, its call is such, it was called before the second place, and hadn't ended before the first
abbrev pub FailsWithin : List Event → (Call → Type 0) → ℕ → ℕ → ℕ → Type 0
FailsWithin h P from to at = Fails h P at × (at < to) × (EndsBefore h at from → ⊥)

-- between the one operation and the other stands an ok one that leaves some value
abbrev pub IsBetween : List Event → ℕ → ℕ → ℕ → Type 0
IsBetween h first last over = Overwrites h last over × IsBefore h first over

-- the call is of this sort
abbrev pub IsOfCalls : CallGroup → Call → Type 0
IsOfCalls (Called.Leaves v) call = Leaves call v
IsOfCalls Called.Updates call = Updates call
IsOfCalls (Called.Spends v) call = Spends call v
IsOfCalls (Called.Adds n) call = Adds call n
IsOfCalls Called.Acquires call = call ≡ Acquire
IsOfCalls Called.Releases call = call ≡ Release

-- the call with this reply is of this sort
abbrev pub IsOfAnswers : ReplyGroup → Call → Reply → Type 0
IsOfAnswers (Answered.Called calls) call reply = IsOfCalls calls call
IsOfAnswers (Answered.Takes n) call reply = Takes call reply n

-- the operation is one of the group
abbrev pub IsInGroup : List Event → Group → ℕ → Type 0
IsInGroup h (Chosen.Counts calls) at = Counts h (IsOfCalls calls) at
IsInGroup h (Chosen.CountsBut calls but) at = (at ≢ but) × Counts h (IsOfCalls calls) at
IsInGroup h (Chosen.Fails calls) at = Fails h (IsOfCalls calls) at
IsInGroup h (Chosen.FailsWithin calls from to) at = FailsWithin h (IsOfCalls calls) from to at
IsInGroup h (Chosen.Returned answers) at = Returned h (IsOfAnswers answers) at
IsInGroup h (Chosen.Overwrites place) at = Overwrites h place at
IsInGroup h (Chosen.Between first last) at = IsBetween h first last at
IsInGroup h (Chosen.Such which) at = IsOfWhich h which at
