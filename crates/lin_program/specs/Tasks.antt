-- What is done with one file.
use Rattle.std.specs.Prelude.{◌≡◌, ◌≤◌, ◌++◌, ℕ, Bool, true, false, List, Option, Some, None, Result, Ok, Err, codes}
use Rattle.lin_json.specs.Answers.{file_front}
use Rattle.lin_json.specs.Unopened.{unopened_json}
use Rattle.lin_report.specs.Explanations.{IsExplainRun}
use Rattle.lin_report.specs.Pictures.{IsDrawRun}
use Rattle.lin_report.specs.Reports.{IsCheckRun}
use Rattle.lin_report.specs.declared.asked_keys.RunEnding.{RunEnding}
use Rattle.lin_report.specs.declared.asked_keys.RunEnding.TheVariants.{Answered}
use Rattle.lin_report.specs.declared.formats.ReportFormat.{ReportFormat as ReportFormat}
use Rattle.lin_report.specs.declared.formats.ReportFormat.TheVariants as report
use Rattle.lin_formats.specs.Verdicts.{IsVerifyRun}
use Rattle.lin_texts.specs.declared.status.Status.{Status}
use Rattle.lin_texts.specs.declared.faults.RunFault.{RunFault}
use Rattle.lin_texts.specs.declared.faults.RunFault.TheVariants.{ReadFailed, WriteFailed, OutOfMemory, TooMuch}
use Rattle.lin_texts.specs.declared.settings.Settings.{Settings}
use Rattle.lin_program.specs.declared.words.Format.{Format}
use Rattle.lin_program.specs.declared.words.Format.TheVariants.{Text, Json}
use Rattle.lin_program.specs.declared.tasks.Task.{Task}
use Rattle.lin_program.specs.declared.tasks.Task.TheVariants.{Check, Explain, Draw, Verify}

abbrev pub report_format : Format → ReportFormat
report_format Text = report.Text
report_format Json = report.Json

-- one of several reports follows what names its file
abbrev pub format_among : Bool → ReportFormat → ReportFormat
format_among several report.Text = report.Text
format_among false report.Json = report.Json
format_among true report.Json = report.Rest
format_among several report.Rest = report.Rest

-- what names a file: a line, or the beginning of a map
abbrev pub heading_in : ReportFormat → List ℕ → List ℕ
heading_in report.Text name = codes "file " ++ name ++ codes "\n"
heading_in report.Json name = codes "file " ++ name ++ codes "\n"
heading_in report.Rest name = file_front name

-- the line of a map that tells that the file of this name can't be opened
abbrev pub lack_line : List ℕ → List ℕ
lack_line name = unopened_json name ++ codes "\n"

-- what is written in place of a report on such a file: that line where reports are maps that name their files, else nothing
abbrev pub lack_in : ReportFormat → List ℕ → Option (List ℕ)
lack_in report.Text name = None
lack_in report.Json name = None
lack_in report.Rest name = Some (lack_line name)

-- what is left of the map that tells of a file over which a run failed so, behind the beginning that names the file
abbrev pub fault_rest : RunFault → List ℕ
fault_rest ReadFailed = codes "\"valid?\":\"unknown\",\"status\":6,\"answer\":\"1 ReadFailed\"}\n"
fault_rest WriteFailed = codes "\"valid?\":\"unknown\",\"status\":6,\"answer\":\"2 WriteFailed\"}\n"
fault_rest OutOfMemory = codes "\"valid?\":\"unknown\",\"status\":6,\"answer\":\"3 OutOfMemory\"}\n"
fault_rest TooMuch = codes "\"valid?\":\"unknown\",\"status\":4,\"answer\":\"4 TooMuch\"}\n"

-- whether such a map is ended behind a run that failed so: where reports are maps that name their files, unless nothing can be written
abbrev pub is_map_ended : ReportFormat → RunFault → Bool
is_map_ended report.Text fault = false
is_map_ended report.Json fault = false
is_map_ended report.Rest ReadFailed = true
is_map_ended report.Rest WriteFailed = false
is_map_ended report.Rest OutOfMemory = true
is_map_ended report.Rest TooMuch = true

-- a run can be made with this budget
abbrev pub HasBudget : Settings → Type 0
HasBudget settings = (1 ≤ settings.budget) × (settings.budget ≤ 1000000)

abbrev pub settings_of : Task → Settings
settings_of (Check settings format) = settings
settings_of (Explain settings question) = settings
settings_of (Draw settings key last) = settings
settings_of (Verify settings order) = settings

-- What a run over one file is: what is left of the file goes from the first to the second, what is written from the third to the fourth, and
-- so it ends.
abbrev pub Running : Type 1
Running = Option (List ℕ) → Option (List ℕ) → Option (List ℕ) → Option (List ℕ) → Result RunEnding RunFault → Type 0

-- the outcome of a run that asks about no key
abbrev pub answered : Result Status RunFault → Result RunEnding RunFault
answered (Ok status) = Ok (Answered status)
answered (Err fault) = Err fault

-- such a run
abbrev pub IsUnkeyedRun : (Option (List ℕ) → Option (List ℕ) → Option (List ℕ) → Option (List ℕ) → Result Status RunFault → Type 0) → Running
IsUnkeyedRun is_run old new before after ended = (outcome : Result Status RunFault) × is_run old new before after outcome × (ended ≡ answered outcome)

-- what is done with the file is what the task says, with its settings
abbrev pub IsTaskRun : Task → Running
IsTaskRun (Check settings format) old new before after outcome = IsUnkeyedRun (IsCheckRun settings format) old new before after outcome
IsTaskRun (Explain settings question) old new before after outcome = IsExplainRun settings question old new before after outcome
IsTaskRun (Draw settings key last) old new before after outcome = IsDrawRun settings key old new before after outcome
IsTaskRun (Verify settings order) old new before after outcome = IsUnkeyedRun (IsVerifyRun settings order.now) old new before after outcome

-- what is done with a file that is one of several, or not
abbrev pub task_among : Bool → Task → Task
task_among several (Check settings format) = Check settings (format_among several format)
task_among several (Explain settings question) = Explain settings question
task_among several (Draw settings key last) = Draw settings key last
task_among several (Verify settings order) = Verify settings order

-- how what is found is printed, as far as it tells how a file is named
abbrev pub format_of : Task → ReportFormat
format_of (Check settings format) = format
format_of (Explain settings question) = report.Text
format_of (Draw settings key last) = report.Text
format_of (Verify settings order) = report.Text
