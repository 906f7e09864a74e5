-- What a run of commands reads and writes.
use Rattle.std.specs.Prelude.{All, ◌≡◌, ◌≢◌, ◌==◌, ◌≤◌, ◌-◌, ◌^◌, ◌++◌, ◌∷◌, [], ◌⊎◌, if◌then◌else◌, nat_lt, ℕ, Bool, true, false, List, Option, None, Some, Result, Ok, Err, codes, decimal, length, take, unwrap_or}
use Rattle.std.specs.Option.{option_or}
use Rattle.std.specs.Io.KnownBytes.{Appends, Consumes, IsAtEnd}
use Rattle.lin_events.specs.declared.events.Event.{Event}
use Rattle.lin_events.specs.declared.items.Item.{Item}
use Rattle.lin_events.specs.declared.meter.Meter.{Meter}
use Rattle.lin_history.specs.declared.follow.FollowFault.{FollowFault}
use Rattle.lin_history.specs.declared.follow.FollowFault.TheVariants as fault
use Rattle.lin_history.specs.Stream.{IsStreamBy}
use Rattle.lin_names.specs.Names.{AreEachOnce, Begins}
use Rattle.lin_order.specs.Parts.{part}
use Rattle.lin_order.specs.Refutations.{Config, IsRefutation}
use Rattle.lin_answers.specs.Answers.{IsAnswer, IsVerdict, kinds_in, verdict_of, IsOverSomewhere}
use Rattle.lin_answers.specs.Edits.{Present, IsRefused, edited}
use Rattle.lin_answers.specs.declared.answers.Answer.{Answer}
use Rattle.lin_answers.specs.declared.answers.Answer.TheVariants as answer
use Rattle.lin_answers.specs.declared.answers.Scope.TheVariants as scope
use Rattle.lin_answers.specs.declared.answers.Verdict.{Verdict}
use Rattle.lin_answers.specs.declared.answers.Verdict.TheVariants as verdict
use Rattle.lin_answers.specs.declared.edits.Edit.{Edit as EditOf}
use Rattle.lin_answers.specs.declared.edits.EditFault.{EditFault}
use Rattle.lin_answers.specs.declared.edits.EditFault.TheVariants as edit_fault
use Rattle.lin_formats.specs.VerdictTexts.{refusal_text}
use Rattle.lin_report.specs.Commands.{IsCommandBy}
use Rattle.lin_report.specs.Explanations.{IsExplainReply}
use Rattle.lin_formats.specs.Inputs.{limit}
use Rattle.lin_report.specs.Reports.{IsReport, answer_status, answer_text, opened}
use Rattle.lin_texts.specs.Texts.{order_text}
use Rattle.lin_report.specs.Refusals.{edit_fault_text, fault_text}
use Rattle.lin_formats.specs.declared.verdicts.Refusal.{Refusal}
use Rattle.lin_formats.specs.declared.verdicts.Refusal.TheVariants as refusal
use Rattle.lin_texts.specs.declared.status.Status.{Status}
use Rattle.lin_texts.specs.declared.status.Status.TheVariants as status_of
use Rattle.lin_report.specs.declared.formats.ReportFormat.TheVariants.{Text}
use Rattle.lin_report.specs.declared.commands.Command.{Command}
use Rattle.lin_report.specs.declared.commands.Command.TheVariants.{Edit, Skipped, Ask, Order, Report, Pull, Refute, Explain, Work}
use Rattle.lin_report.specs.declared.commands.CommandFault.{CommandFault}
use Rattle.lin_texts.specs.declared.faults.RunFault.{RunFault}
use Rattle.lin_texts.specs.declared.faults.RunFault.TheVariants.{ReadFailed, WriteFailed, OutOfMemory, TooMuch}
use Rattle.lin_texts.specs.declared.settings.Settings.{Settings}
use Rattle.lin_formats.specs.Devices.{Counts}
use Rattle.lin_formats.specs.Verdicts.{IsReadTooFar}

-- the lines, where a byte stands in front of the first one
abbrev pub in_front : ℕ → List (List ℕ) → List (List ℕ)
in_front c [] = (c ∷ []) ∷ []
in_front c (line ∷ lines) = (c ∷ line) ∷ lines

-- the lines of a text, without the byte 10 that ends each; behind the last one it may be missing
abbrev pub lines_of : List ℕ → List (List ℕ)
lines_of [] = []
lines_of (c ∷ s) = if c == 10 then [] ∷ lines_of s else in_front c (lines_of s)

-- Where a run stands: the present history with its kinds and its budget; the spellings of the words that were read; the bytes of the file
-- that were taken so far, and those of their events that were put into the history; and what is left of the file.
pub record RunState : Type 0 where
  pub present : Present
  pub names : List (List ℕ)
  pub bytes : List ℕ
  pub put : List Event
  pub left : Option (List ℕ)

-- a line that tells how many events there are
abbrev pub ok_line : ℕ → List ℕ
ok_line count = codes "ok " ++ decimal count ++ codes "\n"

-- the edit is refused for the fault, and for no want of memory
abbrev pub IsRefusedFor : EditOf → Present → EditFault → Type 0
IsRefusedFor edit now fault = IsRefused edit now fault × (fault ≢ edit_fault.OutOfMemory)

-- An edit is made, where nothing refuses it, or nothing changes; and what is written.
abbrev pub IsEditReply : EditOf → Present → Present → List ℕ → Type 0
IsEditReply edit before after text =
    (((fault : EditFault) → IsRefusedFor edit before fault → ⊥) × (after ≡ edited edit before) × (text ≡ ok_line (length after.history)))
    ⊎ ((fault : EditFault) × IsRefusedFor edit before fault × (after ≡ before) × (text ≡ edit_fault_text fault ++ codes "\n"))

-- What is written of the refutation of an object, and the status where that is an answer: how many events the shortest prefix has
-- that fails it, of which sets show that it does; an answer that isn't a no; or, of a no whose sets the budget may not hold, that they are too
-- large.
abbrev pub IsRefuteReply : Present → Item → List ℕ → Option Status → Type 0
IsRefuteReply now key text status =
    ((n : ℕ) × IsVerdict now (scope.Object key) (verdict.No n)
    × ((sets : List (List Config)) × IsRefutation (part key (take n now.history)) (kinds_in now key) sets)
    × (text ≡ codes "refuted prefix " ++ decimal n ++ codes "\n") × (status ≡ Some status_of.No))
    ⊎ ((found : Verdict) × IsVerdict now (scope.Object key) found × ((n : ℕ) → found ≢ verdict.No n)
    × (text ≡ answer_text found ++ codes "\n") × (status ≡ Some (answer_status found)))
    ⊎ (((n : ℕ) × IsVerdict now (scope.Object key) (verdict.No n)) × IsOverSomewhere (kinds_in now) now.budget now.history key
    × (text ≡ codes "refused refute 2 TooLarge\n") × (status ≡ None))

-- the text that tells what was counted: looks at events for whether the history is well-formed, events that were taken in, and calls that
-- were tried
abbrev pub work_text : Meter → List ℕ
work_text m = codes "work scans " ++ decimal m.scans ++ codes " steps " ++ decimal m.steps ++ codes " tries " ++ decimal m.tries

-- with these spellings of words
module _ (names : List (List ℕ)) where
  -- what is written of an answer with its order
  abbrev pub order_answer_text : Answer → List ℕ
  order_answer_text (answer.Yes order) = codes "yes " ++ order_text names order.items
  order_answer_text (answer.IllFormed at cause) = answer_text (verdict_of (answer.IllFormed at cause))
  order_answer_text (answer.No n) = answer_text (verdict_of (answer.No n))
  order_answer_text (answer.Undecided at) = answer_text (verdict_of (answer.Undecided at))

  -- What a command that reads no file makes of the present state, what is written, and the status where that is an answer. Each
  -- answer may be any that is right, and what was counted any counts: a present state doesn't tell what was done for it.
  abbrev pub IsCommandReply : Bool → Command → Present → Present → List ℕ → Option Status → Type 0
  IsCommandReply keyed (Edit edit) before after text status = IsEditReply edit before after text × (status ≡ None)
  IsCommandReply keyed Skipped before after text status = (after ≡ before) × (text ≡ codes "skipped\n") × (status ≡ None)
  IsCommandReply keyed (Ask scope) before after text status = (after ≡ before) × (verdict : Verdict) × IsVerdict before scope verdict
      × (text ≡ answer_text verdict ++ codes "\n") × (status ≡ Some (answer_status verdict))
  IsCommandReply keyed (Order scope) before after text status = (after ≡ before) × (answer : Answer) × IsAnswer before scope answer
      × (text ≡ order_answer_text answer ++ codes "\n") × (status ≡ Some (answer_status (verdict_of answer)))
  IsCommandReply keyed Report before after text status = (after ≡ before) × (whole : Status) × IsReport names Text 0 before text whole × (status ≡ Some whole)
  IsCommandReply keyed (Refute key) before after text status = (after ≡ before) × IsRefuteReply before key text status
  IsCommandReply keyed (Explain scope) before after text status = (after ≡ before) × IsExplainReply names keyed before scope text status
  IsCommandReply keyed Work before after text status = (after ≡ before) × ((m : Meter) × (text ≡ work_text m ++ codes "\n")) × (status ≡ None)
  IsCommandReply keyed Pull before after text status = ⊥

-- why the file is refused, if it is; an element that is unfinished waits
abbrev pub refusal_in : Result (Unit {0}) FollowFault → Option Refusal
refusal_in (Ok _) = None
refusal_in (Err (fault.Edn at cause)) = Some (refusal.Edn at cause)
refusal_in (Err (fault.Event at cause)) = Some (refusal.Event at cause)
refusal_in (Err (fault.Truncated at)) = None
refusal_in (Err fault.OutOfMemory) = None
refusal_in (Err fault.TooMuch) = None

-- how many events the history has room for
abbrev pub room_in : Present → ℕ
room_in now = limit - length now.history

-- why a pull is refused, if it is: events that don't fit, or else a fault of the file
abbrev pub pull_refusal : ℕ → List Event → Result (Unit {0}) FollowFault → Option Refusal
pull_refusal room waiting outcome = if nat_lt room (length waiting) then Some refusal.Full else refusal_in outcome

-- more of the file may say more: the events that it says behind those in the history fit, and it has no fault
pub record GoesOn (keyed : Bool) (names : List (List ℕ)) (bytes : List ℕ) (put : List Event) (room : ℕ) : Type 0 where
  pub waiting : List Event
  pub outcome : Result (Unit {0}) FollowFault
  pub stream : IsStreamBy keyed names bytes (put ++ waiting) outcome
  pub unrefused : pull_refusal room waiting outcome ≡ None

-- nothing is read, or what was read before gives no reason to stop
abbrev pub IsReadOn : Bool → List (List ℕ) → RunState → List ℕ → Type 0
IsReadOn keyed names before part = (part ≡ []) ⊎ GoesOn keyed names before.bytes before.put (room_in before.present)

-- words get numbers: each that had one keeps it, and no spelling has two
abbrev pub AreMore : List (List ℕ) → List (List ℕ) → Type 0
AreMore old new = Begins old new × AreEachOnce new

-- A pull reads a part of the file, to its end where it isn't refused. Of the events that the bytes so far say, those that wait are
-- put into the history, as far as there is room. Their words get numbers.
pub record IsPull (keyed : Bool) (before after : RunState) (refused : Option Refusal) : Type 0 where
  pub part : List ℕ
  pub waiting : List Event
  pub outcome : Result (Unit {0}) FollowFault
  pub reads : Consumes before.left after.left part
  pub to_end : refused ≡ None → IsAtEnd after.left
  pub no_further : IsReadOn keyed after.names before part
  pub names : AreMore before.names after.names
  pub bytes : after.bytes ≡ before.bytes ++ part
  pub stream : IsStreamBy keyed after.names after.bytes (before.put ++ waiting) outcome
  pub put : after.put ≡ before.put ++ take (room_in before.present) waiting
  pub present : after.present ≡ record before.present { history = before.present.history ++ take (room_in before.present) waiting }
  pub refusal : refused ≡ pull_refusal (room_in before.present) waiting outcome

-- what a pull writes: why it is refused, or how many events there are
abbrev pub pull_text : Option Refusal → ℕ → List ℕ
pull_text None count = ok_line count
pull_text (Some why) count = refusal_text why ++ codes "\n"

-- what is so behind a command, what is written, and the status where that is an answer
abbrev pub IsDone : Bool → Command → RunState → RunState → List ℕ → Option Status → Type 0
IsDone keyed Pull before after text status = (refused : Option Refusal) × IsPull keyed before after refused
    × (text ≡ pull_text refused (length after.present.history)) × (status ≡ None)
IsDone keyed command before after text status =
    (present : Present) × IsCommandReply before.names keyed command before.present present text status × (after ≡ record before { present = present })

-- the same behind what a line says: nothing, a command, or why it is refused
abbrev pub IsSaidDone : Bool → Result (Option Command) CommandFault → RunState → RunState → List ℕ → Option Status → Type 0
IsSaidDone keyed (Ok None) before after text status = (after ≡ before) × (text ≡ []) × (status ≡ None)
IsSaidDone keyed (Ok (Some command)) before after text status = IsDone keyed command before after text status
IsSaidDone keyed (Err fault) before after text status = (after ≡ before) × (text ≡ fault_text fault ++ codes "\n") × (status ≡ None)

-- the reply to a line: first its words get numbers, and by these it is read
abbrev pub IsReply : Bool → RunState → List ℕ → RunState → List ℕ → Option Status → Type 0
IsReply keyed before line after text status =
    (names : List (List ℕ)) × AreMore before.names names
    × (said : Result (Option Command) CommandFault) × IsCommandBy keyed names line said × IsSaidDone keyed said (record before { names = names }) after text status

-- the replies to lines in order, one behind the other, and the status of the last answer
pub data AreReplies (keyed : Bool) (start : RunState) : List (List ℕ) → RunState → List ℕ → Option Status → Type 0 where
  nothing : AreReplies keyed start [] start [] None
  one_more : {lines : List (List ℕ)} {before : RunState} {text : List ℕ} {last : Option Status} →
      AreReplies keyed start lines before text last → (line : List ℕ) (after : RunState) (reply : List ℕ) (status : Option Status) →
      IsReply keyed before line after reply status → AreReplies keyed start (lines ++ line ∷ []) after (text ++ reply) (option_or status last)

-- before the first command: no event, no word, no byte read
abbrev pub start_of : Settings → Option (List ℕ) → RunState
start_of settings file = record { present = opened settings []; names = []; bytes = []; put = []; left = file }

-- the bytes begin with these lines, whatever comes behind them, and this is left of them
abbrev pub BeginWith : List ℕ → List (List ℕ) → List ℕ → Type 0
BeginWith bytes lines rest = (more : List ℕ) → lines_of (bytes ++ more) ≡ lines ++ lines_of (rest ++ more)

-- no byte 10 stands in the text
abbrev pub IsUnended : List ℕ → Type 0
IsUnended text = All (λ c. c ≢ 10) text

-- the line says `pull`
abbrev pub SaysPull : Bool → List ℕ → Type 0
SaysPull keyed line = (names : List (List ℕ)) × IsCommandBy keyed names line (Ok (Some Pull))

-- the next line is whole, and says `pull`
pub record PullsNext (keyed : Bool) (rest : List ℕ) : Type 0 where
  pub line : List ℕ
  pub behind : List ℕ
  pub stands : rest ≡ line ++ 10 ∷ behind
  pub unended : IsUnended line
  pub says : SaysPull keyed line

-- What is left of the commands where a reader failed: no whole line, as each is carried out, and its reply written, before more is read; or a
-- `pull` is next, as only that reads the file.
abbrev pub IsLeftFor : Bool → RunFault → List ℕ → Type 0
IsLeftFor keyed ReadFailed rest = IsUnended rest ⊎ PullsNext keyed rest
IsLeftFor keyed WriteFailed rest = Unit {0}
IsLeftFor keyed OutOfMemory rest = Unit {0}
IsLeftFor keyed TooMuch rest = Unit {0}

-- the lines are whole in the bytes: they begin with them, and what is left is so at the fault; or these are all and nothing comes
abbrev pub AreRead : Bool → RunFault → List ℕ → Option (List ℕ) → List (List ℕ) → Type 0
AreRead keyed fault bytes left lines = ((rest : List ℕ) × BeginWith bytes lines rest × IsLeftFor keyed fault rest) ⊎ (IsAtEnd left × (lines_of bytes ≡ lines))

-- these lines were carried out, and this is so of their replies; what was read of the file behind them goes with the next line
abbrev pub AreCarriedOut : Bool → RunState → List (List ℕ) → Option (List ℕ) → (List ℕ → Type 0) → Type 0
AreCarriedOut keyed start lines file written =
    (end : RunState) × (text : List ℕ) × (last : Option Status) × AreReplies keyed start lines end text last
    × ((part : List ℕ) × Consumes end.left file part) × written text

-- what is written of the replies at a fault: all, but a beginning where the writer failed
abbrev pub IsWritten : RunFault → Option (List ℕ) → Option (List ℕ) → List ℕ → Type 0
IsWritten WriteFailed out out' text = (n : ℕ) × Appends out out' (take n text)
IsWritten ReadFailed out out' text = Appends out out' text
IsWritten OutOfMemory out out' text = Appends out out' text
IsWritten TooMuch out out' text = Appends out out' text

-- What a run reads and writes, and how it ends: with all lines carried out, their replies written, and the status of the last
-- answer; or early, with some first lines carried out.
abbrev pub IsEditRun : Settings → Option (List ℕ) → Option (List ℕ) → Option (List ℕ) → Option (List ℕ) → Option (List ℕ) → Option (List ℕ) → Result Status RunFault → Type 0
IsEditRun settings file file' commands commands' out out' (Ok status) =
    (bytes : List ℕ) × Consumes commands commands' bytes × IsAtEnd commands' × (length bytes ≤ 2 ^ 40)
    × (end : RunState) × (text : List ℕ) × (last : Option Status) × AreReplies settings.keyed (start_of settings file) (lines_of bytes) end text last
    × (file' ≡ end.left) × Appends out out' text × (status ≡ unwrap_or last status_of.Yes)
IsEditRun settings file file' commands commands' out out' (Err fault) =
    ((bytes : List ℕ) × Consumes commands commands' bytes × (lines : List (List ℕ)) × AreRead settings.keyed fault bytes commands' lines
    × AreCarriedOut settings.keyed (start_of settings file) lines file' (IsWritten fault out out'))
    × (fault ≡ TooMuch → IsReadTooFar file file' ⊎ IsReadTooFar commands commands')

-- just one of two readers failed, and that once, or none did
abbrev pub CountsOne : Bool → ℕ → ℕ → ℕ → ℕ → Type 0
CountsOne true old new other other' = (Counts true old new × Counts false other other') ⊎ (Counts false old new × Counts true other other')
CountsOne false old new other other' = Counts false old new × Counts false other other'
