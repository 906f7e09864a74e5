-- What reading a file comes to.
use Rattle.std.specs.Prelude.{◌≡◌, ◌==◌, ℕ, length, nat_lt, if◌then◌else◌, Bool, true, false, List, Option, Result, Ok, Err}
use Rattle.std.specs.Io.KnownBytes.{IsAtEnd}
use Rattle.lin_history.specs.Counts.{Passed, none_passed}
use Rattle.lin_history.specs.PassedMaps.{IsPassed}
use Rattle.lin_formats.specs.Inputs.{AreRefused, AreRefusedFor, IsEnough, IsWhole}
use Rattle.lin_formats.specs.declared.verdicts.Refusal.{Refusal}
use Rattle.lin_formats.specs.declared.verdicts.Refusal.TheVariants as refusal
use Rattle.lin_formats.specs.declared.inputs.History.{History}
use Rattle.lin_formats.specs.declared.inputs.History.TheVariants.{Whole, Refused}
use Rattle.lin_texts.specs.declared.faults.RunFault.{RunFault}
use Rattle.lin_texts.specs.declared.faults.RunFault.TheVariants.{ReadFailed, WriteFailed, OutOfMemory, TooMuch}

-- by these names the bytes say this
abbrev pub IsHistory : Bool → List (List ℕ) → List ℕ → History → Type 0
IsHistory keyed names text (Whole events) = IsWhole keyed names text events.items
IsHistory keyed names text (Refused refusal) = AreRefused keyed names text refusal

-- what a file says where so many events are wanted at least: a whole history of fewer is refused
abbrev pub with_least : ℕ → History → History
with_least least (Whole events) = if nat_lt (length events.items) least then Refused (refusal.Few (length events.items) least) else Whole events
with_least least (Refused refusal) = Refused refusal

-- the file says a whole history, one of no event
abbrev pub says_nothing : History → Bool
says_nothing (Whole events) = length events.items == 0
says_nothing (Refused refusal) = false

-- of a whole history all maps are told that are passed over
abbrev pub AreAllPassed : List ℕ → History → Passed → Type 0
AreAllPassed text (Whole events) passed = IsPassed text passed
AreAllPassed text (Refused refusal) passed = Unit {0}

-- and of one that is refused none
abbrev pub passed_with : History → Passed → Passed
passed_with (Whole events) passed = passed
passed_with (Refused refusal) passed = none_passed

abbrev pub IsPassedIn : List ℕ → History → Passed → Type 0
IsPassedIn text (Whole events) passed = IsPassed text passed
IsPassedIn text (Refused refusal) passed = passed ≡ none_passed

-- Whether a file says a whole history of no event, however many are wanted, and which of its maps are passed over; by these names the bytes
-- say what it says.
abbrev pub IsNoted : Bool → List (List ℕ) → List ℕ → Bool → Passed → Type 0
IsNoted keyed names text is_empty passed = (history : History) × IsHistory keyed names text history × (is_empty ≡ says_nothing history) × IsPassedIn text history passed

-- by these names the bytes say this, where so many events are wanted at least
abbrev pub IsHistoryFor : ℕ → Bool → List (List ℕ) → List ℕ → History → Type 0
IsHistoryFor least keyed names text (Whole events) = IsEnough keyed names least text events.items
IsHistoryFor least keyed names text (Refused refusal) = AreRefusedFor keyed names least text refusal

-- at a fault of form, and where there are too many events, no more is read; else the reader came to its end
abbrev pub StopsFor : Refusal → Option (List ℕ) → Type 0
StopsFor (refusal.Edn at cause) left = Unit {0}
StopsFor (refusal.Event at cause) left = Unit {0}
StopsFor refusal.Full left = Unit {0}
StopsFor (refusal.Truncated at) left = IsAtEnd left
StopsFor (refusal.BadPair at) left = IsAtEnd left
StopsFor (refusal.Few count wanted) left = IsAtEnd left

abbrev pub EndsFor : History → Option (List ℕ) → Type 0
EndsFor (Whole events) left = IsAtEnd left
EndsFor (Refused refusal) left = StopsFor refusal left

-- whether the run ended because the reader failed
abbrev pub is_read_failed : {T : Type 0} → Result T RunFault → Bool
is_read_failed (Ok x) = false
is_read_failed (Err ReadFailed) = true
is_read_failed (Err WriteFailed) = false
is_read_failed (Err OutOfMemory) = false
is_read_failed (Err TooMuch) = false
