-- The texts of refused commands and edits.
use Rattle.std.specs.Prelude.{ℕ, List, ◌++◌, codes, decimal}
use Rattle.lin_answers.specs.declared.edits.EditFault.{EditFault}
use Rattle.lin_answers.specs.declared.edits.EditFault.TheVariants as edit
use Rattle.lin_formats.specs.VerdictTexts.{edn_cause_text, event_fault_text}
use Rattle.lin_report.specs.declared.commands.CommandFault.{CommandFault}
use Rattle.lin_report.specs.declared.commands.CommandFault.TheVariants.{UnknownCommand, BadWords, BadNumber, BadKind, NotOneMap, LineTooLong, Edn, Event, OutOfMemory}

-- the text of a refused command
abbrev pub fault_text : CommandFault → List ℕ
fault_text UnknownCommand = codes "refused command 1 UnknownCommand"
fault_text BadWords = codes "refused command 2 BadWords"
fault_text BadNumber = codes "refused command 3 BadNumber"
fault_text BadKind = codes "refused command 4 BadKind"
fault_text NotOneMap = codes "refused command 5 NotOneMap"
fault_text LineTooLong = codes "refused command 6 LineTooLong"
fault_text (Edn fault) = codes "refused edn " ++ edn_cause_text fault.cause ++ codes " at " ++ decimal fault.at
fault_text (Event fault) = codes "refused event " ++ event_fault_text fault
fault_text OutOfMemory = codes "refused command 9 OutOfMemory"

-- the text of a refused edit
abbrev pub edit_fault_text : EditFault → List ℕ
edit_fault_text edit.BadPosition = codes "refused edit 1 BadPosition"
edit_fault_text edit.Full = codes "refused edit 2 Full"
edit_fault_text edit.BadBudget = codes "refused edit 3 BadBudget"
edit_fault_text edit.OutOfMemory = codes "refused edit 4 OutOfMemory"
