-- What a line has the program do, and how it ends then.
use Rattle.std.specs.Prelude.{◌≡◌, ◌⊎◌, ℕ, Bool, List, [], ◌∷◌, ◌++◌, Option, Some, None, Result, Ok, Err, map, option_map}
use Rattle.std.specs.Borrow.{Bor}
use Rattle.std.specs.Io.KnownBytes.{Consumes, IsAtEnd}
use Rattle.lin_report.specs.Explanations.{IsExplainRun}
use Rattle.lin_report.specs.Pictures.{IsDrawRun}
use Rattle.lin_report.specs.Reports.{IsCheckRun}
use Rattle.lin_report.specs.Runs.{IsEditRun}
use Rattle.lin_formats.specs.Inputs.{AreRefusedFor}
use Rattle.lin_formats.specs.Verdicts.{IsVerifyRun}
use Rattle.lin_formats.specs.declared.verdicts.Refusal.{Refusal}
use Rattle.lin_texts.specs.declared.status.Status.{Status}
use Rattle.lin_texts.specs.declared.faults.RunFault.{RunFault}
use Rattle.lin_texts.specs.declared.faults.RunFault.TheVariants.{ReadFailed, OutOfMemory}
use Rattle.lin_texts.specs.declared.settings.Settings.{Settings}
use Rattle.lin_program.specs.declared.words.Line.{Line}
use Rattle.lin_program.specs.declared.words.Line.TheVariants.{Check, Explain, Draw, Verify, Edit}
use Rattle.lin_program.specs.declared.words.OrderSource.{OrderSource}
use Rattle.lin_program.specs.declared.words.OrderSource.TheVariants.{Given, InFile}
use Rattle.lin_program.specs.Exit.{SystemWords, exit_status}
use Rattle.lin_program.specs.Readings.{AreReadingsOf, AreTold}
use Rattle.lin_program.specs.declared.readings.Reading.{Reading}
use Rattle.lin_program.specs.Reporting.{AreAmong, AreReported, Holds, IsNotOpened, stopped}
use Rattle.lin_report.specs.declared.formats.ReportFormat.TheVariants.{Text}
use Rattle.lin_program.specs.Tasks.{HasBudget, IsUnkeyedRun, format_among, report_format}
use Rattle.lin_program.specs.declared.endings.Stop.{Stop}
use Rattle.lin_program.specs.declared.endings.Stop.TheVariants.{NotOpened, NoKey, Written, FaultWritten, Fault}
use Rattle.lin_program.specs.declared.system.Message.{Message}
use Rattle.lin_program.specs.declared.system.Message.TheVariants as message

-- a run can be made with the line's settings
abbrev pub IsRunnable : Line → Type 0
IsRunnable (Check settings format files) = HasBudget settings
IsRunnable (Explain settings key all_keys with_order format file) = HasBudget settings
IsRunnable (Draw settings key last file) = HasBudget settings
IsRunnable (Verify settings order files) = HasBudget settings
IsRunnable (Edit settings file) = HasBudget settings

-- how the files of a line are read
abbrev pub settings_of : Line → Settings
settings_of (Check settings format files) = settings
settings_of (Explain settings key all_keys with_order format file) = settings
settings_of (Draw settings key last file) = settings
settings_of (Verify settings order files) = settings
settings_of (Edit settings file) = settings

-- the files that a line has reported on, of which each should have an event
abbrev pub reported_files : Line → List (List ℕ)
reported_files (Check settings format files) = map (λ n. n.now) files.items
reported_files (Explain settings key all_keys with_order format file) = file.now ∷ []
reported_files (Draw settings key last file) = file.now ∷ []
reported_files (Verify settings order files) = []
reported_files (Edit settings file) = []

-- the files that a line has read, of which each may be refused
abbrev pub read_files : Line → List (List ℕ)
read_files (Check settings format files) = map (λ n. n.now) files.items
read_files (Explain settings key all_keys with_order format file) = file.now ∷ []
read_files (Draw settings key last file) = file.now ∷ []
read_files (Verify settings order files) = map (λ n. n.now) files.items
read_files (Edit settings file) = []

-- the file that the line's commands pull from, if it names one
abbrev pub pulled_from : Line → Option (List ℕ)
pulled_from (Edit settings file) = option_map (λ n. n.now) file
pulled_from (Check settings format files) = None
pulled_from (Explain settings key all_keys with_order format file) = None
pulled_from (Draw settings key last file) = None
pulled_from (Verify settings order files) = None

-- nothing was told; or of the file of this name that it is refused, or that couldn't be told
abbrev pub MayTellRefused : {S F C O : Type 0} → SystemWords S F C O → S → Option (List ℕ) → S → Type 0
MayTellRefused system old name new = (new ≡ old) ⊎ ((path : Bor (List ℕ)) × (words : Bor (List ℕ)) × (name ≡ Some path.now) × ((told : Bool) × system.tells old (message.Refused path words) told new))

-- a file that holds these bytes at first is refused, read with these settings
abbrev pub IsRefused : Settings → Option (List ℕ) → Type 0
IsRefused settings held = (left : Option (List ℕ)) × (bytes : List ℕ) × Consumes held left bytes
    × (names : List (List ℕ)) × (refusal : Refusal) × AreRefusedFor settings.keyed names settings.at_least bytes refusal

-- The bytes that a file holds are given by a function: the system opened the file of this name, a plain one, once more, and that is refused.
abbrev pub IsStillRefused : {S F C O : Type 0} → SystemWords S F C O → (F → Option (List ℕ)) → Settings → S → List ℕ → Type 0
IsStillRefused {S} {F} system held settings now name = (file : F) × system.reopens now name file × IsRefused settings (held file)

-- nothing was told; or of the file of this name that it is refused, or that couldn't be told, and it is, still
abbrev pub MayTellWhy : {S F C O : Type 0} → SystemWords S F C O → (F → Option (List ℕ)) → Settings → S → List ℕ → S → Type 0
MayTellWhy system held settings old name new = (new ≡ old) ⊎ (IsStillRefused system held settings old name × MayTellRefused system old (Some name) new)

-- of the files of these names, one after the other, it may have been told that they are refused: from the old system on
pub data AreToldRefused {S F C O : Type 0} (system : SystemWords S F C O) (held : F → Option (List ℕ)) (settings : Settings) (old : S) : List (Bor (List ℕ)) → S → Type 0 where
  nothing : AreToldRefused system held settings old [] old
  one_more : {names : List (Bor (List ℕ))} {now : S} → AreToldRefused system held settings old names now → (path : Bor (List ℕ)) (new : S) →
      MayTellWhy system held settings now path.now new → AreToldRefused system held settings old (names ++ path ∷ []) new

-- the text ends with this byte
abbrev pub EndsIn : ℕ → List ℕ → Type 0
EndsIn byte text = (front : List ℕ) × (text ≡ front ++ byte ∷ [])

-- the line is the text without one line end behind it, a byte 10 or a byte 13 and a byte 10, where the text ends so
abbrev pub IsWithoutLineEnd : List ℕ → List ℕ → Type 0
IsWithoutLineEnd text line = (text ≡ line ++ 13 ∷ 10 ∷ []) ⊎ ((text ≡ line ++ 10 ∷ []) × (EndsIn 13 line → ⊥)) ⊎ ((text ≡ line) × (EndsIn 10 line → ⊥))

-- of a file that holds these bytes at first all were read
abbrev pub IsRead : Option (List ℕ) → List ℕ → Type 0
IsRead held bytes = (left : Option (List ℕ)) × Consumes held left bytes × IsAtEnd left

-- The bytes that standard input and the output hold are given by two functions: the commands of the one are carried out, over a file that holds
-- these bytes at first.
abbrev pub IsEdited : {S F C O : Type 0} → SystemWords S F C O → (C → Option (List ℕ)) → (O → Option (List ℕ)) → S → Settings → Option (List ℕ) → Result Status RunFault → Type 0
IsEdited {S} {F} {C} {O} system commanded written now settings file outcome =
    (input : C) × system.reads now input × (out : O) × system.writes now out
    × (file' : Option (List ℕ)) × (input' : Option (List ℕ)) × (out' : Option (List ℕ))
    × IsEditRun settings file file' (commanded input) input' (written out) out' outcome

-- The bytes that a file and standard input hold are given by two functions: these are all bytes of the file of a name.
abbrev pub IsReadIn : {S F C O : Type 0} → SystemWords S F C O → (F → Option (List ℕ)) → (C → Option (List ℕ)) → S → List ℕ → List ℕ → Type 0
IsReadIn system held commanded now name bytes = (file : Option (List ℕ)) × Holds system held commanded now name file × IsRead file bytes

-- why the file of a name wasn't read: it can't be opened; or it failed, or memory ran out
abbrev pub IsUnreadIn : {S F C O : Type 0} → SystemWords S F C O → (F → Option (List ℕ)) → (C → Option (List ℕ)) → S → List ℕ → Stop → Type 0
IsUnreadIn system held commanded now name stop = IsNotOpened system held commanded now name stop
    ⊎ ((file : Option (List ℕ)) × Holds system held commanded now name file × ((stop ≡ Fault ReadFailed) ⊎ (stop ≡ Fault OutOfMemory)))

-- The bytes that a file, standard input and the output hold are given by three functions.
module _ {S F C O : Type 0} (system : SystemWords S F C O) (held : F → Option (List ℕ)) (commanded : C → Option (List ℕ)) (written : O → Option (List ℕ)) (now : S) where
  -- the order that the file of one name holds, without a line end behind it, is judged of the files of the other names; or that file wasn't read
  abbrev pub IsVerifiedFrom : Settings → List ℕ → List (List ℕ) → Result Status Stop → Type 0
  IsVerifiedFrom settings name files outcome =
      ((text : List ℕ) × IsReadIn system held commanded now name text × ((order : List ℕ) × IsWithoutLineEnd text order
      × AreReported system held commanded now written (λ several. IsUnkeyedRun (IsVerifyRun settings order)) (λ several. Text) files outcome))
      ⊎ ((stop : Stop) × (outcome ≡ Err stop) × IsUnreadIn system held commanded now name stop)

  -- the order, which is said or in a file, is judged of the files of these names
  abbrev pub IsVerifiedBy : Settings → OrderSource → List (List ℕ) → Result Status Stop → Type 0
  IsVerifiedBy settings (Given text) files outcome = AreReported system held commanded now written (λ several. IsUnkeyedRun (IsVerifyRun settings text.now)) (λ several. Text) files outcome
  IsVerifiedBy settings (InFile name) files outcome = IsVerifiedFrom settings name.now files outcome

  -- the commands of standard input are carried out over the file of a name, which is opened whatever the name, or over nothing
  abbrev pub IsEditedIn : Settings → Option (List ℕ) → Result Status Stop → Type 0
  IsEditedIn settings None outcome = (run : Result Status RunFault) × IsEdited system commanded written now settings (Some []) run × (outcome ≡ stopped run)
  IsEditedIn settings (Some name) outcome =
      ((file : F) × system.opens now name file × (run : Result Status RunFault) × IsEdited system commanded written now settings (held file) run × (outcome ≡ stopped run))
      ⊎ ((path : Bor (List ℕ)) × (outcome ≡ Err (NotOpened path)) × (path.now ≡ name) × system.lacks now name)

  -- What the line says is done, with its settings: each of the files is reported on; `edit` reads commands from standard input.
  abbrev pub IsOutcomeOf : Line → Result Status Stop → Type 0
  IsOutcomeOf (Check settings format files) outcome =
      AreReported system held commanded now written (λ several. IsUnkeyedRun (IsCheckRun settings (format_among several (report_format format))))
      (λ several. format_among several (report_format format)) (map (λ n. n.now) files.items) outcome
  IsOutcomeOf (Explain settings key all_keys with_order format file) outcome =
      AreReported system held commanded now written (λ several. IsExplainRun settings (record { key = key; all_keys = all_keys; with_order = with_order; format = report_format format }))
      (λ several. Text) (file.now ∷ []) outcome
  IsOutcomeOf (Draw settings key last file) outcome = AreReported system held commanded now written (λ several. IsDrawRun settings key) (λ several. Text) (file.now ∷ []) outcome
  IsOutcomeOf (Verify settings order files) outcome = IsVerifiedBy settings order (map (λ n. n.now) files.items) outcome
  IsOutcomeOf (Edit settings file) outcome = IsEditedIn settings (option_map (λ n. n.now) file) outcome

-- from the old system to the new one
module _ {S F C O : Type 0} (system : SystemWords S F C O) (old new : S) where
  -- one message was told, one that P holds of, or couldn't be told
  abbrev pub IsTold : (Message → Type 0) → Type 0
  IsTold P = (m : Message) × P m × (told : Bool) × system.tells old m told new

  abbrev pub TellsOfFile : List ℕ → Message → Type 0
  TellsOfFile path (message.NotOpened name) = name.now ≡ path
  TellsOfFile path _ = ⊥

  -- by these words no event of the file of the name has the key that is asked about
  abbrev pub TellsOfKey : List ℕ → List ℕ → Message → Type 0
  TellsOfKey path words (message.NoKey name said) = (name.now ≡ path) × (said.now ≡ words)
  TellsOfKey path words _ = ⊥

  -- The program ends so after a run: with its exit status, and nothing is told; or with 5 where no event has the key that is asked about, with 6 where
  -- a file can't be opened, or with the status of the fault, and that is told, unless it is written.
  abbrev pub EndsBy : Result Status Stop → ℕ → Type 0
  EndsBy (Ok end) status = (new ≡ old) × (status ≡ exit_status (Ok end))
  EndsBy (Err (NotOpened path)) status = IsTold (TellsOfFile path.now) × (status ≡ 6)
  EndsBy (Err (NoKey path words)) status = IsTold (TellsOfKey path.now words.items) × (status ≡ 5)
  EndsBy (Err Written) status = (new ≡ old) × (status ≡ 6)
  EndsBy (Err (FaultWritten fault)) status = (new ≡ old) × (status ≡ exit_status (Err fault))
  EndsBy (Err (Fault fault)) status = IsTold (λ m. m ≡ message.Fault fault) × (status ≡ exit_status (Err fault))

-- The program ends so on a line: what the line says is done with the old system; of some of its files it may be told which maps were passed over, or
-- that no event was read, and of some, and of the one that commands pull from, that they are refused; and it ends by the outcome.
abbrev pub Ends : {S F C O : Type 0} → SystemWords S F C O → S → S → (F → Option (List ℕ)) → (C → Option (List ℕ)) → (O → Option (List ℕ)) → Line → ℕ → Type 0
Ends {S} system old new held commanded written line status =
    (outcome : Result Status Stop) × IsOutcomeOf system held commanded written old line outcome
    × (readings : List Reading) × AreReadingsOf (reported_files line) readings × (told : S) × AreTold system old readings told
    × (refused : List (Bor (List ℕ))) × AreAmong (read_files line) refused × (noted : S) × AreToldRefused system held (settings_of line) told refused noted
    × (last : S) × MayTellRefused system noted (pulled_from line) last × EndsBy system last new outcome status
