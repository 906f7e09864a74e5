-- What a call hands back.
use Rattle.std.specs.Prelude.{◌≡◌, ◌++◌, ◌<◌, ◌≤◌, ℕ, List, Option, Some, drop, length}
use Rattle.lin_names.specs.declared.said.Said.{Said}
use Rattle.lin_texts.specs.declared.settings.Settings.{Settings}
use Rattle.lin_report.specs.AskedKeys.{IsAbsenceTold}
use Rattle.lin_texts.specs.declared.status.Status.{Status}
use Rattle.lin_texts.specs.declared.status.Status.TheVariants.{Yes, No, Undecided, IllFormed, Refused}
use Rattle.lin_report.specs.Explanations.{IsRightExplanation}
use Rattle.lin_report.specs.Reports.{IsPrinted, IsRightReport, Printing}
use Rattle.lin_report.specs.declared.explaining.Question.{Question}
use Rattle.lin_embedded.specs.Options.{IsQuestion, format_of, settings_of}
use Rattle.lin_embedded.specs.declared.options.Options.{Options}
use Rattle.lin_embedded.specs.declared.handing.CallEnd.{CallEnd}
use Rattle.lin_embedded.specs.declared.handing.CallEnd.TheVariants.{Told, BadOptions, NoKey, OutOfMemory, TooLittleRoom, Done, NoSession}

-- It is right to print of these bytes: of all of them, or, where a fault of form or too many events refuse them, of those up to there.
abbrev pub IsPrintedOf : Printing → List ℕ → List ℕ → Status → Type 0
IsPrintedOf is_right history text status = (left : List ℕ) × IsPrinted is_right (Some history) (Some left) text status

-- a text is right, with the status of a run that prints it
abbrev pub Telling : Type 1
Telling = List ℕ → Status → Type 0

-- just this text, with this status
abbrev pub IsJust : List ℕ → Status → Telling
IsJust found ends text status = (text ≡ found) × (status ≡ ends)

-- a report of the bytes
abbrev pub IsReportOf : Options → List ℕ → Telling
IsReportOf options history = IsPrintedOf (IsRightReport (settings_of options) (format_of options)) history

-- an explanation of the bytes, for the object of the key that a text names, or the whole
abbrev pub IsExplanationOf : Options → List ℕ → List ℕ → Telling
IsExplanationOf options key history text status =
    (question : Question) × IsQuestion options key question × IsPrintedOf (IsRightExplanation (settings_of options) question) history text status

-- the bytes are a whole history, of which no event has the key that is said
abbrev pub IsAbsentFrom : Settings → Option Said → List ℕ → Type 0
IsAbsentFrom settings said history = (left : List ℕ) × (words : List ℕ) × IsAbsenceTold settings said (Some history) (Some left) words

-- the same of the key that a text names
abbrev pub IsAbsent : Options → List ℕ → List ℕ → Type 0
IsAbsent options key history = (question : Question) × IsQuestion options key question × IsAbsentFrom (settings_of options) question.key history

-- What stands behind a call in the caller's room and in its count: a right text and its length, and behind it what was there; where the text has
-- no room, its length alone; and else all is as it was.
abbrev pub HandsBack : Telling → List ℕ → List ℕ → ℕ → ℕ → CallEnd → Type 0
HandsBack is_right before after was needed (Told status) =
    (text : List ℕ) × is_right text status × (length text ≤ length before) × (after ≡ text ++ drop (length text) before) × (needed ≡ length text)
HandsBack is_right before after was needed TooLittleRoom =
    (text : List ℕ) × (status : Status) × is_right text status × (length before < length text) × (after ≡ before) × (needed ≡ length text)
HandsBack is_right before after was needed BadOptions = (after ≡ before) × (needed ≡ was)
HandsBack is_right before after was needed OutOfMemory = (after ≡ before) × (needed ≡ was)
HandsBack is_right before after was needed Done = ⊥
HandsBack is_right before after was needed NoSession = ⊥
HandsBack is_right before after was needed NoKey = ⊥

-- the same of an explanation; where no event has the key that is asked about, all is as it was
abbrev pub HandsExplained : Telling → Type 0 → List ℕ → List ℕ → ℕ → ℕ → CallEnd → Type 0
HandsExplained is_right is_absent before after was needed NoKey = is_absent × (after ≡ before) × (needed ≡ was)
HandsExplained is_right is_absent before after was needed ended = HandsBack is_right before after was needed ended

-- the numbers of statuses, as the command exits with them
abbrev pub status_number : Status → ℕ
status_number Yes = 0
status_number No = 1
status_number Undecided = 2
status_number IllFormed = 3
status_number Refused = 4

-- the number that a call gives
abbrev pub number_of : CallEnd → ℕ
number_of (Told status) = status_number status
number_of BadOptions = 5
number_of NoKey = 5
number_of OutOfMemory = 6
number_of NoSession = 7
number_of TooLittleRoom = 8
number_of Done = 0

-- what the number of a call says: it is that of an end which hands this back, and bad options end it just where they are bad
abbrev pub EndsBy : (CallEnd → Type 0) → Type 0 → ℕ → Type 0
EndsBy hands are_good number = (ended : CallEnd) × (number ≡ number_of ended) × hands ended × ((ended ≡ BadOptions → are_good → ⊥) × ((are_good → ⊥) → ended ≡ BadOptions))

abbrev pub Ends : Telling → Type 0 → List ℕ → List ℕ → ℕ → ℕ → ℕ → Type 0
Ends is_right are_good before after was needed number = EndsBy (HandsBack is_right before after was needed) are_good number

abbrev pub EndsExplained : Telling → Type 0 → Type 0 → List ℕ → List ℕ → ℕ → ℕ → ℕ → Type 0
EndsExplained is_right is_absent are_good before after was needed number = EndsBy (HandsExplained is_right is_absent before after was needed) are_good number
