-- How far a run has come: cited by the contracts of private functions alone.
use Rattle.std.specs.Prelude.{◌≡◌, ◌≢◌, ◌+◌, ◌<◌, ◌^◌, ◌++◌, [], ℕ, Bool, List, Option, All, length, take, unwrap_or}
use Rattle.std.specs.Option.{option_or}
use Rattle.std.specs.Io.KnownBytes.{Appends, Consumes, Keeps}
use Rattle.lin_events.specs.declared.events.Event.{Event}
use Rattle.lin_history.specs.Sees.{Followed}
use Rattle.lin_answers.specs.Edits.{Present}
use Rattle.lin_report.specs.Commands.{longest_line}
use Rattle.lin_report.specs.Pulls.{StandsAt}
use Rattle.lin_report.specs.Runs.{AreCarriedOut, AreMore, AreRead, IsReply, AreReplies, IsWritten, RunState, SaysPull, lines_of}
use Rattle.lin_formats.specs.Intakes.{AreSeen}
use Rattle.lin_formats.specs.Verdicts.{IsReadTooFar}
use Rattle.lin_texts.specs.declared.status.Status.{Status}
use Rattle.lin_texts.specs.declared.status.Status.TheVariants.{Yes}
use Rattle.lin_report.specs.declared.runs.EditRun.{EditRun}
use Rattle.lin_texts.specs.declared.faults.RunFault.{RunFault}
use Rattle.lin_texts.specs.declared.faults.RunFault.TheVariants.{ReadFailed, WriteFailed, TooMuch}

-- from where the run stands, it comes to stand elsewhere, and this is so
abbrev pub Moves : Bool → Present → Present → List (List ℕ) → List (List ℕ) → Followed → Followed → Option (List ℕ) → Option (List ℕ) → (RunState → RunState → Type 0) → Type 0
Moves keyed now new names names' follow after old left is =
    (before : RunState) → StandsAt keyed before now names follow old → (end : RunState) × StandsAt keyed end new names' after left × is before end

-- words got numbers, and a part of the file was read, with which too much was, if it was
abbrev pub ReadsPart : List (List ℕ) → List (List ℕ) → Followed → Option (List ℕ) → Option (List ℕ) → Type 0 → Type 0
ReadsPart names names' follow old new is_too_much = AreMore names names' × (part : List ℕ) × Consumes old new part
    × (is_too_much → (bytes : List ℕ) (put : List Event) → AreSeen names follow bytes put → 2 ^ 40 < length bytes + length part)

-- the line that is held, as far as a line may go and one byte more
abbrev pub Holds : EditRun → List ℕ → Type 0
Holds engine line = engine.held.items ≡ take (longest_line + 1) line

-- the line is carried out, and its reply written
pub record IsCarriedOut (keyed : Bool) (old new : EditRun) (file file' out out' : Option (List ℕ)) (before : RunState) (line : List ℕ) : Type 0 where
  pub after : RunState
  pub reply : List ℕ
  pub answer : Option Status
  pub stands : StandsAt keyed after new.session.present new.names new.follow file'
  pub replies : IsReply keyed before line after reply answer
  pub written : Appends out out' reply
  pub status : new.status ≡ option_or answer old.status
  pub emptied : new.held.items ≡ []

-- the line was not carried out, and nothing is written of it, and it says `pull` if a reader failed; or it was, and a beginning of its reply is written
abbrev pub IsCutShort : Bool → List (List ℕ) → List (List ℕ) → Followed → Option (List ℕ) → Option (List ℕ) → Option (List ℕ) → Option (List ℕ) → RunState → List ℕ → RunFault → Type 0
IsCutShort keyed names names' follow file file' out out' before line WriteFailed =
    (after : RunState) × (reply : List ℕ) × (answer : Option Status) × IsReply keyed before line after reply answer × (file' ≡ after.left) × ((n : ℕ) × Appends out out' (take n reply))
IsCutShort keyed names names' follow file file' out out' before line fault = ReadsPart names names' follow file file' (fault ≡ TooMuch) × Keeps out out' × (fault ≡ ReadFailed → SaysPull keyed line)

-- The bytes were taken in: their lines are carried out, and the replies are written; what stands behind the last byte 10 is held.
pub record IsUnderWay (keyed : Bool) (start : RunState) (before : Option (List ℕ)) (engine : EditRun) (left after : Option (List ℕ)) (bytes : List ℕ) : Type 0 where
  pub lines : List (List ℕ)
  pub state : RunState
  pub text : List ℕ
  pub rest : List ℕ
  pub run : AreReplies keyed start lines state text engine.status
  pub stands : StandsAt keyed state engine.session.present engine.names engine.follow left
  pub consumed : Consumes start.left left state.bytes
  pub written : Appends before after text
  pub begins : (more : List ℕ) → lines_of (bytes ++ more) ≡ lines ++ lines_of (rest ++ more)
  pub unended : All (λ c. c ≢ 10) rest
  pub holds : Holds engine rest

-- some first lines of the bytes, behind which this is left, were carried out when the fault came
abbrev pub IsCutOff : Bool → RunState → Option (List ℕ) → Option (List ℕ) → Option (List ℕ) → Option (List ℕ) → List ℕ → RunFault → Type 0
IsCutOff keyed start before left after behind bytes fault =
    ((lines : List (List ℕ)) × AreRead keyed fault bytes behind lines × AreCarriedOut keyed start lines left (IsWritten fault before after))
    × (fault ≡ TooMuch → IsReadTooFar start.left left)

-- all lines of the bytes are carried out, with the status of the last answer
abbrev pub IsFinished : Bool → RunState → Option (List ℕ) → Option (List ℕ) → Option (List ℕ) → List ℕ → Status → Type 0
IsFinished keyed start before left after bytes status =
    (end : RunState) × (text : List ℕ) × (last : Option Status) × AreReplies keyed start (lines_of bytes) end text last
    × (left ≡ end.left) × Appends before after text × (status ≡ unwrap_or last Yes)
