-- The texts of what is found, and the status of a run that found it.
use Rattle.std.specs.Prelude.{ℕ, List, ◌++◌, codes, decimal}
use Rattle.lin_edn.specs.declared.EdnCause.{EdnCause}
use Rattle.lin_edn.specs.declared.EdnCause.TheVariants as edn
use Rattle.lin_history.specs.declared.table.EventFault.{EventFault}
use Rattle.lin_history.specs.declared.table.EventFault.TheVariants as fault
use Rattle.lin_texts.specs.Causes.{cause_text}
use Rattle.lin_texts.specs.declared.status.Status.{Status}
use Rattle.lin_texts.specs.declared.status.Status.TheVariants as status
use Rattle.lin_formats.specs.declared.verdicts.Refusal.{Refusal}
use Rattle.lin_formats.specs.declared.verdicts.Refusal.TheVariants.{Edn, Event, Truncated, Full, BadPair, Few}
use Rattle.lin_formats.specs.declared.verdicts.OrderVerdict.{OrderVerdict}
use Rattle.lin_formats.specs.declared.verdicts.OrderVerdict.TheVariants.{Yes, No, IllFormed, Refused}

-- the number and the name of a fault of EDN
abbrev pub edn_cause_text : EdnCause → List ℕ
edn_cause_text edn.Unbalanced = codes "1 Unbalanced"
edn_cause_text edn.OddMap = codes "2 OddMap"
edn_cause_text edn.TooDeep = codes "3 TooDeep"
edn_cause_text edn.TooLong = codes "4 TooLong"
edn_cause_text edn.OutOfMemory = codes "5 OutOfMemory"

-- the number and the name of a fault of an event
abbrev pub event_fault_text : EventFault → List ℕ
event_fault_text fault.NotAMap = codes "1 NotAMap"
event_fault_text fault.DuplicateKey = codes "2 DuplicateKey"
event_fault_text fault.Missing = codes "3 Missing"
event_fault_text fault.BadProcess = codes "4 BadProcess"
event_fault_text fault.BadType = codes "5 BadType"
event_fault_text fault.BadFunction = codes "6 BadFunction"
event_fault_text fault.BadKey = codes "7 BadKey"
event_fault_text fault.BadValue = codes "8 BadValue"
event_fault_text fault.OutOfMemory = codes "9 OutOfMemory"

-- the text of the refusal of a history that has so many events, where more are wanted
abbrev pub few_text : ℕ → ℕ → List ℕ
few_text events wanted = codes "refused input few " ++ decimal events ++ codes " events, " ++ decimal wanted ++ codes " wanted"

-- the text of a refusal
abbrev pub refusal_text : Refusal → List ℕ
refusal_text (Edn at cause) = codes "refused input edn " ++ edn_cause_text cause ++ codes " at " ++ decimal at
refusal_text (Event at cause) = codes "refused input event " ++ event_fault_text cause ++ codes " at " ++ decimal at
refusal_text (Truncated at) = codes "refused input truncated at " ++ decimal at
refusal_text Full = codes "refused edit 2 Full"
refusal_text (BadPair at) = codes "refused order 1 BadPair at " ++ decimal at
refusal_text (Few events wanted) = few_text events wanted

-- the text of what is found
abbrev pub verdict_text : OrderVerdict → List ℕ
verdict_text Yes = codes "yes"
verdict_text No = codes "no"
verdict_text (IllFormed at cause) = codes "ill-formed at " ++ decimal at ++ codes " cause " ++ cause_text cause
verdict_text (Refused refusal) = refusal_text refusal

-- the line that tells what is found
abbrev pub line_of : OrderVerdict → List ℕ
line_of verdict = verdict_text verdict ++ codes "\n"

-- the status of a run that found this
abbrev pub status_of : OrderVerdict → Status
status_of Yes = status.Yes
status_of No = status.No
status_of (IllFormed at cause) = status.IllFormed
status_of (Refused refusal) = status.Refused
