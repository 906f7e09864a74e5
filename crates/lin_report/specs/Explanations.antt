-- What is right to tell of why an answer is what it is.
use Rattle.std.specs.Prelude.{◌≡◌, ◌≢◌, ◌-◌, ◌++◌, ◌∷◌, ◌⊎◌, ℕ, Bool, true, false, List, [], Option, Some, None, Result, codes, count_by, decimal, drop, length, nat_eq, option_map, take}
use Rattle.std.specs.Io.KnownBytes.{IsAtEnd}
use Rattle.lin_events.specs.declared.events.Event.{Event}
use Rattle.lin_events.specs.declared.items.Item.{Item}
use Rattle.lin_history.specs.Reading.{IsReading, Reading}
use Rattle.lin_names.specs.Names.{AreEachOnce}
use Rattle.lin_answers.specs.Answers.{IsAnswer, verdict_of}
use Rattle.lin_answers.specs.Edits.{Present}
use Rattle.lin_answers.specs.Keys.{AreKeys}
use Rattle.lin_answers.specs.declared.answers.Answer.{Answer}
use Rattle.lin_answers.specs.declared.answers.Answer.TheVariants as answers
use Rattle.lin_answers.specs.declared.answers.Scope.{Scope}
use Rattle.lin_answers.specs.declared.answers.Verdict.{Verdict}
use Rattle.lin_answers.specs.declared.answers.Verdict.TheVariants.{IllFormed, Yes, No, Undecided}
use Rattle.lin_answers.specs.declared.answers.Scope.TheVariants.{Object, Whole}
use Rattle.lin_formats.specs.VerdictTexts.{refusal_text}
use Rattle.lin_formats.specs.Histories.{StopsFor}
use Rattle.lin_formats.specs.Inputs.{AreRefusedFor, IsEnough}
use Rattle.lin_texts.specs.declared.faults.RunFault.{RunFault}
use Rattle.lin_texts.specs.declared.settings.Settings.{Settings}
use Rattle.lin_formats.specs.declared.verdicts.Refusal.{Refusal}
use Rattle.lin_texts.specs.declared.status.Status.{Status}
use Rattle.lin_texts.specs.declared.status.Status.TheVariants as ends
use Rattle.lin_formats.specs.Places.{Marked, Marks}
use Rattle.lin_texts.specs.declared.place.Place.{Place}
use Rattle.lin_explain.specs.Certain.{certain_line}
use Rattle.lin_explain.specs.Explained.{Explains, scope_of}
use Rattle.lin_formats.specs.Hints.{IsHint}
use Rattle.lin_formats.specs.Refused.{place_in, refused_text}
use Rattle.lin_explain.specs.declared.parts.Parts.{Parts}
use Rattle.lin_explain.specs.declared.telling.Asked.{Asked}
use Rattle.lin_json.specs.Explanations.{explanation_json, refusal_json}
use Rattle.lin_report.specs.Failing.{first_failing}
use Rattle.lin_report.specs.AskedKeys.{HasEvents, IsAbsence, IsAskedRun, IsKey}
use Rattle.lin_report.specs.Reports.{AreFindings, HasFound, Printing, answer_status, answer_text, opened, told_text}
use Rattle.lin_report.specs.declared.asked_keys.RunEnding.{RunEnding}
use Rattle.lin_report.specs.declared.beside.Beside.{Beside}
use Rattle.lin_report.specs.declared.explaining.Question.{Question}
use Rattle.lin_report.specs.declared.failing.Failing.{Failing}
use Rattle.lin_report.specs.declared.findings.Finding.{Finding}
use Rattle.lin_report.specs.declared.findings.Findings.{Findings}
use Rattle.lin_report.specs.declared.formats.ReportFormat.{ReportFormat}
use Rattle.lin_report.specs.declared.formats.ReportFormat.TheVariants.{Text, Json, Rest}

-- without the byte that ends the last line
abbrev pub without_end : List ℕ → List ℕ
without_end text = take (length text - 1) text

-- how many lines a text has, of which each ends with a byte 10
abbrev pub line_count : List ℕ → ℕ
line_count text = count_by (λ c. nat_eq c 10) text

abbrev pub key_of : Scope → Option Item
key_of (Object key) = Some key
key_of Whole = None

-- what a command asks: a yes is told without its order
abbrev pub asked_by : Bool → Scope → Asked
asked_by keyed scope = record { key = key_of scope; with_order = false; keyed = keyed }

-- with these spellings of words
module _ (names : List (List ℕ)) where
  -- The object that is told beside an answer: where the whole is asked about and undecided, the one that fails first of all objects, if one is a no.
  -- What is found of an object may be any answer that is right.
  abbrev pub IsFailing : Present → Option Item → Verdict → Option Failing → Type 0
  IsFailing now None (Undecided at) failing = (keys : List Item) × AreKeys names now.history keys
      × (found : List Finding) × AreFindings now keys found × (failing ≡ first_failing found)
  IsFailing now _ _ failing = failing ≡ None

  -- what is told of it: the same as where its key alone is asked about
  abbrev pub IsBeside : Present → Asked → Option (List Place) → Verdict → Option Beside → Type 0
  IsBeside now asked places verdict None = IsFailing now asked.key verdict None
  IsBeside now asked places verdict (Some beside) = IsFailing now asked.key verdict (Some beside.failing)
      × Explains names now (record asked { key = Some beside.failing.key }) places (answers.No beside.failing.prefix) beside.told.lines.items beside.told.parts

  -- its lines, from that of its answer on, behind one that says that the whole isn't linearizable
  abbrev pub beside_text : Option Beside → List ℕ
  beside_text None = []
  beside_text (Some beside) = certain_line names beside.failing.key ++ told_text (No beside.failing.prefix) beside.told.lines.items

  abbrev pub beside_json : ℕ → Beside → List ℕ
  beside_json events beside = explanation_json names ends.No (answer_text (No beside.failing.prefix)) events beside.told.parts None
      (without_end (told_text (No beside.failing.prefix) beside.told.lines.items))

  -- its map, for a history of so many events
  abbrev pub beside_map : ℕ → Option Beside → Option (List ℕ)
  beside_map events beside = option_map (beside_json events) beside

  abbrev pub whole_text : Verdict → List ℕ → Option Beside → List ℕ
  whole_text verdict lines beside = told_text verdict lines ++ beside_text beside

  abbrev pub json_line : ℕ → Verdict → List ℕ → Parts → Option Beside → List ℕ
  json_line events verdict lines parts beside =
      explanation_json names (answer_status verdict) (answer_text verdict) events parts (beside_map events beside) (without_end (whole_text verdict lines beside)) ++ codes "\n"

  -- An explanation: the answer's line, those that explain it, and those of an object that fails beside it; or one line of JSON, which has this text
  -- as well, or what follows the brace that opens it.
  abbrev pub explanation_text : ReportFormat → ℕ → Verdict → List ℕ → Parts → Option Beside → List ℕ
  explanation_text Text events verdict lines parts beside = whole_text verdict lines beside
  explanation_text Json events verdict lines parts beside = json_line events verdict lines parts beside
  explanation_text Rest events verdict lines parts beside = drop 1 (json_line events verdict lines parts beside)

  -- an answer that is right, with what explains it, and what is told beside it
  pub record IsExplanation (format : ReportFormat) (now : Present) (asked : Asked) (places : Option (List Place)) (text : List ℕ) (status : Status) : Type 0 where
    pub answer : Answer
    pub lines : List ℕ
    pub parts : Parts
    pub beside : Option Beside
    pub is_answer : IsAnswer now (scope_of asked.key) answer
    pub explained : Explains names now asked places answer lines parts
    pub is_beside : IsBeside now asked places (verdict_of answer) beside
    pub says : text ≡ explanation_text format (length now.history) (verdict_of answer) lines parts beside
    pub status_is : status ≡ answer_status (verdict_of answer)

  -- what is told behind an explanation for a key that no event has, a line that says so; else nothing
  abbrev pub IsToldBehind : List Event → Option Item → List ℕ → Type 0
  IsToldBehind events key line = (HasEvents events key × (line ≡ [])) ⊎ ((words : List ℕ) × IsAbsence names events key words × (line ≡ words ++ codes "\n"))

  -- The reply to a command: how many lines follow, and they, with a line more for a key that no event has. Events that come by commands have no places.
  abbrev pub IsExplainReply : Bool → Present → Scope → List ℕ → Option Status → Type 0
  IsExplainReply keyed now scope reply status = (text : List ℕ) × (found : Status) × IsExplanation Text now (asked_by keyed scope) None text found
      × (line : List ℕ) × IsToldBehind now.history (key_of scope) line
      × (reply ≡ codes "explained " ++ decimal (line_count (text ++ line)) ++ codes "\n" ++ (text ++ line)) × (status ≡ Some found)

abbrev pub is_yes : Verdict → Bool
is_yes (IllFormed at cause) = false
is_yes Yes = true
is_yes (No n) = false
is_yes (Undecided at) = false

-- what stands between two explanations: an empty line, but nothing between lines of JSON, and nothing in front of the first
abbrev pub between : ReportFormat → List ℕ → List ℕ
between Text [] = []
between Text (c ∷ text) = codes "\n"
between Json text = []
between Rest text = []

-- of objects of which this is found, the explanations of those that aren't a yes, each as where its key is asked about
pub data AreExplained (names : List (List ℕ)) (format : ReportFormat) (now : Present) (asked : Asked) (places : Option (List Place)) : List Finding → List ℕ → Type 0 where
  nothing : AreExplained names format now asked places [] []
  one_yes : {found : List Finding} {text : List ℕ} → AreExplained names format now asked places found text → (f : Finding) → is_yes f.verdict ≡ true
      → AreExplained names format now asked places (found ++ f ∷ []) text
  one_more : {found : List Finding} {text : List ℕ} → AreExplained names format now asked places found text → (f : Finding) (more : List ℕ) (status : Status)
      → is_yes f.verdict ≡ false → IsExplanation names format now (record asked { key = Some f.key }) places more status
      → AreExplained names format now asked places (found ++ f ∷ []) ((text ++ between format text) ++ more)

-- of each object that isn't a yes, with the status of the whole; or, where there is none such, the explanation of the whole
pub record IsAllExplained (names : List (List ℕ)) (format : ReportFormat) (now : Present) (asked : Asked) (places : Option (List Place)) (text : List ℕ) (status : Status) : Type 0 where
  pub findings : Findings
  pub each : List ℕ
  pub has_found : HasFound names now findings
  pub are_explained : AreExplained names format now asked places findings.objects.items each
  pub some : each ≢ [] → (text ≡ each) × (status ≡ answer_status findings.whole)
  pub none : each ≡ [] → IsExplanation names format now asked places text status

-- each object is asked about, as no key is named
abbrev pub is_for_all : Bool → Option Item → Bool
is_for_all false key = false
is_for_all true None = true
is_for_all true (Some key) = false

-- of each object, or as the key says
abbrev pub IsToldBy : Bool → List (List ℕ) → ReportFormat → Present → Asked → Option (List Place) → List ℕ → Status → Type 0
IsToldBy true names format now asked places text status = IsAllExplained names format now asked places text status
IsToldBy false names format now asked places text status = IsExplanation names format now asked places text status

-- as it is asked
abbrev pub IsToldFor : List (List ℕ) → Bool → ReportFormat → Present → Asked → Option (List Place) → List ℕ → Status → Type 0
IsToldFor names all_keys format now asked places text status = IsToldBy (is_for_all all_keys asked.key) names format now asked places text status

-- the line that refuses a file, the one that tells where and why, and the lines that hint at what to do
abbrev pub refusal_lines : Marked → Refusal → List ℕ → List ℕ
refusal_lines marked refusal hint = refusal_text refusal ++ codes "\n" ++ refused_text marked refusal ++ hint

abbrev pub refused_line : Marked → Refusal → List ℕ → List ℕ
refused_line marked refusal hint =
    refusal_json ends.Refused (refusal_text refusal) (place_in marked refusal) (without_end (refusal_lines marked refusal hint)) ++ codes "\n"

-- what is told of a file that is refused
abbrev pub refused_told : ReportFormat → Marked → Refusal → List ℕ → List ℕ
refused_told Text marked refusal hint = refusal_lines marked refusal hint
refused_told Json marked refusal hint = refused_line marked refusal hint
refused_told Rest marked refusal hint = drop 1 (refused_line marked refusal hint)

abbrev pub asked_in : Settings → Question → Option Item → Asked
asked_in settings question key = record { key = key; with_order = question.with_order; keyed = settings.keyed }

-- What is right to print of the bytes of a file, with the status: why they are refused, and where; or an explanation of the history that they
-- are, for the object of the key that is said, which an event has, the whole, or each object that isn't a yes. The places are those that the bytes
-- have.
abbrev pub IsRightExplanation : Settings → Question → Printing
IsRightExplanation settings question bytes left text status = (names : List (List ℕ)) × AreEachOnce names
    × (marked : Marked) × ((m : Reading) → IsReading settings.keyed names m → Marks m marked bytes) × (marked.keyed ≡ settings.keyed)
    × (((refusal : Refusal) × AreRefusedFor settings.keyed names settings.at_least bytes refusal × StopsFor refusal left
    × ((hint : List ℕ) × IsHint settings.keyed bytes marked refusal hint × (text ≡ refused_told question.format marked refusal hint)) × (status ≡ ends.Refused))
    ⊎ ((events : List Event) × IsEnough settings.keyed names settings.at_least bytes events × IsAtEnd left × (key : Option Item) × IsKey names question.key key
    × HasEvents events key × IsToldFor names question.all_keys question.format (opened settings events) (asked_in settings question key) (Some marked.places) text status))

-- What a run reads and writes, and how it ends. It explains the object of a key only where an event has the key.
abbrev pub IsExplainRun : Settings → Question → Option (List ℕ) → Option (List ℕ) → Option (List ℕ) → Option (List ℕ) → Result RunEnding RunFault → Type 0
IsExplainRun settings question old new before after result =
    IsAskedRun (IsRightExplanation settings question) settings question.key old new before after result
