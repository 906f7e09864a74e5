-- The text of a report, and what is right to report of a history and of a file.
use Rattle.std.specs.Prelude.{◌≡◌, ◌≤◌, ◌^◌, ◌++◌, ◌⊎◌, if◌then◌else◌, ℕ, Bool, true, false, List, [], Option, Result, Ok, Err, All, codes, decimal, drop, length, map, take}
use Rattle.std.specs.Io.KnownBytes.{Appends, Consumes, IsAtEnd, Keeps}
use Rattle.std.specs.List.{flat_map, join_by}
use Rattle.lin_events.specs.declared.events.Event.{Event}
use Rattle.lin_events.specs.declared.items.Item.{Item}
use Rattle.lin_history.specs.Counts.{Passed}
use Rattle.lin_names.specs.Names.{AreEachOnce}
use Rattle.lin_objects.specs.declared.kinds.Kind.{Kind}
use Rattle.lin_objects.specs.Kinds.{same_for_all}
use Rattle.lin_json.specs.Answers.{answer_json, checked_json, object_json}
use Rattle.lin_answers.specs.Answers.{IsVerdict, kinds_in}
use Rattle.lin_answers.specs.Edits.{Present}
use Rattle.lin_answers.specs.Keys.{AreKeys}
use Rattle.lin_answers.specs.declared.answers.Scope.TheVariants.{Object, Whole}
use Rattle.lin_answers.specs.declared.answers.Verdict.{Verdict}
use Rattle.lin_answers.specs.declared.answers.Verdict.TheVariants.{IllFormed, Yes, No, Undecided}
use Rattle.lin_texts.specs.Causes.{cause_text}
use Rattle.lin_formats.specs.VerdictTexts.{refusal_text}
use Rattle.lin_formats.specs.Histories.{IsNoted, StopsFor}
use Rattle.lin_formats.specs.Inputs.{AreRefusedFor, IsEnough}
use Rattle.lin_texts.specs.Items.{item_text}
use Rattle.lin_texts.specs.Kinds.{kind_text}
use Rattle.lin_formats.specs.Verdicts.{IsReadTooFar}
use Rattle.lin_formats.specs.declared.verdicts.Refusal.{Refusal}
use Rattle.lin_texts.specs.declared.status.Status.{Status}
use Rattle.lin_texts.specs.declared.status.Status.TheVariants as ends
use Rattle.lin_texts.specs.declared.faults.RunFault.{RunFault}
use Rattle.lin_texts.specs.declared.faults.RunFault.TheVariants.{ReadFailed, WriteFailed, OutOfMemory, TooMuch}
use Rattle.lin_texts.specs.declared.settings.Settings.{Settings}
use Rattle.lin_report.specs.Failing.{failing_key}
use Rattle.lin_report.specs.declared.findings.Finding.{Finding}
use Rattle.lin_report.specs.declared.findings.Findings.{Findings}
use Rattle.lin_report.specs.declared.formats.ReportFormat.{ReportFormat}
use Rattle.lin_report.specs.declared.formats.ReportFormat.TheVariants.{Text, Json, Rest}

-- the text of an answer without its order
abbrev pub answer_text : Verdict → List ℕ
answer_text (IllFormed at cause) = codes "ill-formed at " ++ decimal at ++ codes " cause " ++ cause_text cause
answer_text Yes = codes "yes"
answer_text (No n) = codes "no prefix " ++ decimal n
answer_text (Undecided at) = codes "undecided at " ++ decimal at

abbrev pub is_ill_formed : Verdict → Bool
is_ill_formed (IllFormed at cause) = true
is_ill_formed Yes = false
is_ill_formed (No n) = false
is_ill_formed (Undecided at) = false

-- the status of a run that ends with the answer
abbrev pub answer_status : Verdict → Status
answer_status (IllFormed at cause) = ends.IllFormed
answer_status Yes = ends.Yes
answer_status (No n) = ends.No
answer_status (Undecided at) = ends.Undecided

-- the line that names so many events and objects
abbrev pub counts_text : ℕ → ℕ → List ℕ
counts_text events objects = codes "events " ++ decimal events ++ codes " objects " ++ decimal objects ++ codes "\n"

-- the answer's line, and behind it these
abbrev pub told_text : Verdict → List ℕ → List ℕ
told_text verdict lines = answer_text verdict ++ codes "\n" ++ lines

-- what is found of the objects of these keys, one after another; each may be any answer that is right
pub record AreFindings (now : Present) (keys : List Item) (found : List Finding) : Type 0 where
  pub listed : map (λ f. f.key) found ≡ keys
  pub each : All (λ f. IsVerdict now (Object f.key) f.verdict) found

-- with these spellings of words
module _ (names : List (List ℕ)) where
  -- the line of an object
  abbrev pub line_text : Kind → Finding → List ℕ
  line_text kind found = codes "object " ++ item_text names found.key ++ codes " " ++ kind_text kind ++ codes ": " ++ (answer_text found.verdict ++ codes "\n")

  abbrev pub lines_text : (Item → Kind) → List Finding → List ℕ
  lines_text kinds found = flat_map (λ f. line_text (kinds f.key) f) found

  -- the map of an object
  abbrev pub json_object : Kind → Finding → List ℕ
  json_object kind found = object_json names found.key kind (answer_status found.verdict) (answer_text found.verdict)

  abbrev pub json_objects : (Item → Kind) → List Finding → List ℕ
  json_objects kinds found = join_by (λ f. json_object (kinds f.key) f) (codes ",") found

  -- The report of a history of so many keys, beside which so many maps are passed over: what is found of its objects, and of the whole. As text there is a line that counts, one for each
  -- object, and one for the whole; as JSON one line for all, which names the object that fails first where the whole is undecided and one is a no,
  -- or what follows the brace that opens this line.
  abbrev pub json_report : ℕ → Present → ℕ → List Finding → Verdict → List ℕ
  json_report passed now keys found whole =
      checked_json names (failing_key whole found) (answer_status whole) (answer_text whole) (length now.history) passed (json_objects (kinds_in now) found) ++ codes "\n"

  abbrev pub report_text : ReportFormat → ℕ → Present → ℕ → List Finding → Verdict → List ℕ
  report_text Text passed now keys found whole =
      counts_text (length now.history) keys ++ lines_text (kinds_in now) found ++ codes "whole: " ++ (answer_text whole ++ codes "\n")
  report_text Json passed now keys found whole = json_report passed now keys found whole
  report_text Rest passed now keys found whole = drop 1 (json_report passed now keys found whole)

  -- What is found of a history: of each of its keys, in the order of print, what is found of its object, and what is found of the whole. Of a
  -- history that isn't well-formed no object is named.
  pub record AreFound (now : Present) (keys : List Item) (found : List Finding) (whole : Verdict) : Type 0 where
    pub are_keys : AreKeys names now.history keys
    pub objects : AreFindings now (if is_ill_formed whole then [] else keys) found
    pub is_whole : IsVerdict now Whole whole

  abbrev pub HasFound : Present → Findings → Type 0
  HasFound now f = (keys : List Item) × (f.keys ≡ length keys) × AreFound now keys f.objects.items f.whole

  -- what is right to report, where so many maps are passed over, and the status of a run that ends with it: what is found of the history, and of the whole
  pub record IsReport (format : ReportFormat) (passed : ℕ) (now : Present) (text : List ℕ) (status : Status) : Type 0 where
    pub keys : List Item
    pub found : List Finding
    pub whole : Verdict
    pub are_found : AreFound now keys found whole
    pub says : text ≡ report_text format passed now (length keys) found whole
    pub status_is : status ≡ answer_status whole

-- these events, with the kind and the budget of the settings
abbrev pub opened : Settings → List Event → Present
opened settings events = record { history = events; kinds = same_for_all settings.kind; budget = settings.budget }

-- the line that refuses a file
abbrev pub refusal_line : ReportFormat → Refusal → List ℕ
refusal_line Text refusal = refusal_text refusal ++ codes "\n"
refusal_line Json refusal = answer_json ends.Refused (refusal_text refusal) ++ codes "\n"
refusal_line Rest refusal = drop 1 (answer_json ends.Refused (refusal_text refusal) ++ codes "\n")

-- What is right to print of the bytes of a file, with the status: why they are refused; or, where they are a whole history and no
-- byte is left, a report of it. Words are told by the spellings by which they are read.
abbrev pub IsRightReport : Settings → ReportFormat → List ℕ → Option (List ℕ) → List ℕ → Status → Type 0
IsRightReport settings format bytes left text status = (names : List (List ℕ)) × AreEachOnce names
    × (((refusal : Refusal) × AreRefusedFor settings.keyed names settings.at_least bytes refusal × StopsFor refusal left × (text ≡ refusal_line format refusal) × (status ≡ ends.Refused))
    ⊎ ((events : List Event) × IsEnough settings.keyed names settings.at_least bytes events × IsAtEnd left
    × ((is_empty : Bool) × (passed : Passed) × IsNoted settings.keyed names bytes is_empty passed × IsReport names format passed.count (opened settings events) text status)))

-- what is right to print of bytes, of which so much is left, and the status
abbrev pub Printing : Type 1
Printing = List ℕ → Option (List ℕ) → List ℕ → Status → Type 0

-- what is left of a file went from the one to the other, the bytes between are not too many, and this is right to print of them
abbrev pub IsPrinted : Printing → Option (List ℕ) → Option (List ℕ) → List ℕ → Status → Type 0
IsPrinted is_right old new text status =
    (bytes : List ℕ) × Consumes old new bytes × (length bytes ≤ 2 ^ 40) × is_right bytes new text status

abbrev pub IsChecked : Settings → ReportFormat → Option (List ℕ) → Option (List ℕ) → List ℕ → Status → Type 0
IsChecked settings format old new text status = IsPrinted (IsRightReport settings format) old new text status

-- What a run reads and writes, and how it ends: with what is right to print written, and its status; or early. After a fault of
-- the writer a beginning of what is right to print is written, after any other fault nothing.
abbrev pub IsPrintRun : Printing → Option (List ℕ) → Option (List ℕ) → Option (List ℕ) → Option (List ℕ) → Result Status RunFault → Type 0
IsPrintRun is_right old new before after (Ok status) =
    (text : List ℕ) × IsPrinted is_right old new text status × Appends before after text
IsPrintRun is_right old new before after (Err ReadFailed) = Keeps before after
IsPrintRun is_right old new before after (Err OutOfMemory) = Keeps before after
IsPrintRun is_right old new before after (Err TooMuch) = Keeps before after × IsReadTooFar old new
IsPrintRun is_right old new before after (Err WriteFailed) =
    (text : List ℕ) × (status : Status) × IsPrinted is_right old new text status × ((n : ℕ) × Appends before after (take n text))

abbrev pub IsCheckRun : Settings → ReportFormat → Option (List ℕ) → Option (List ℕ) → Option (List ℕ) → Option (List ℕ) → Result Status RunFault → Type 0
IsCheckRun settings format old new before after result = IsPrintRun (IsRightReport settings format) old new before after result
