-- What is right to print where a history is drawn. Of a picture itself nothing is said but that it is an SVG.
use Rattle.std.specs.Prelude.{◌≡◌, ◌++◌, ◌⊎◌, ℕ, true, false, List, Option, Result, codes}
use Rattle.std.specs.Io.KnownBytes.{IsAtEnd}
use Rattle.lin_events.specs.declared.events.Event.{Event}
use Rattle.lin_events.specs.declared.items.Item.{Item}
use Rattle.lin_names.specs.Names.{AreEachOnce}
use Rattle.lin_names.specs.declared.said.Said.{Said}
use Rattle.lin_answers.specs.Answers.{IsAnswer, verdict_of}
use Rattle.lin_answers.specs.Edits.{Present}
use Rattle.lin_answers.specs.declared.answers.Answer.{Answer}
use Rattle.lin_formats.specs.Histories.{StopsFor}
use Rattle.lin_formats.specs.Inputs.{AreRefusedFor, IsEnough}
use Rattle.lin_texts.specs.declared.faults.RunFault.{RunFault}
use Rattle.lin_texts.specs.declared.settings.Settings.{Settings}
use Rattle.lin_formats.specs.declared.verdicts.Refusal.{Refusal}
use Rattle.lin_texts.specs.declared.status.Status.{Status}
use Rattle.lin_texts.specs.declared.status.Status.TheVariants as ends
use Rattle.lin_draw.specs.Pictures.{IsSvg}
use Rattle.lin_explain.specs.Explained.{scope_of}
use Rattle.lin_report.specs.AskedKeys.{HasEvents, IsAskedRun, IsKey}
use Rattle.lin_report.specs.Reports.{answer_status, answer_text, is_ill_formed, opened, refusal_line}
use Rattle.lin_report.specs.declared.asked_keys.RunEnding.{RunEnding}
use Rattle.lin_report.specs.declared.formats.ReportFormat.TheVariants.{Text}

-- an answer that is right, for the object of the key or the whole; of a history that isn't well-formed its line is all that is printed
pub record IsDrawing (now : Present) (key : Option Item) (text : List ℕ) (status : Status) : Type 0 where
  pub answer : Answer
  pub is_answer : IsAnswer now (scope_of key) answer
  pub says : is_ill_formed (verdict_of answer) ≡ true → text ≡ answer_text (verdict_of answer) ++ codes "\n"
  pub drawn : is_ill_formed (verdict_of answer) ≡ false → IsSvg text
  pub status_is : status ≡ answer_status (verdict_of answer)

-- What is right to print of the bytes of a file, with the status: why they are refused; or a drawing of the history that they are, for the
-- object of the key that is said, which an event has, or the whole.
abbrev pub IsRightDrawing : Settings → Option Said → List ℕ → Option (List ℕ) → List ℕ → Status → Type 0
IsRightDrawing settings said bytes left text status = (names : List (List ℕ)) × AreEachOnce names
    × (((refusal : Refusal) × AreRefusedFor settings.keyed names settings.at_least bytes refusal × StopsFor refusal left × (text ≡ refusal_line Text refusal) × (status ≡ ends.Refused))
    ⊎ ((events : List Event) × IsEnough settings.keyed names settings.at_least bytes events × IsAtEnd left × (key : Option Item) × IsKey names said key
    × HasEvents events key × IsDrawing (opened settings events) key text status))

-- what a run reads and writes, and how it ends
abbrev pub IsDrawRun : Settings → Option Said → Option (List ℕ) → Option (List ℕ) → Option (List ℕ) → Option (List ℕ) → Result RunEnding RunFault → Type 0
IsDrawRun settings said old new before after result = IsAskedRun (IsRightDrawing settings said) settings said old new before after result
