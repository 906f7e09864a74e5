-- Files that are reported on, one behind the other.
use Rattle.std.specs.Prelude.{◌≡◌, ◌⊎◌, ℕ, Bool, true, false, List, [], ◌∷◌, ◌++◌, Option, Some, None, Result, Ok, Err, codes, length, nat_lt, take, All, Contains, MatchBool}
use Rattle.std.specs.Borrow.{Bor}
use Rattle.std.specs.Io.KnownBytes.{Appends, Keeps}
use Rattle.std.specs.Str.{bytes_eq}
use Rattle.lin_texts.specs.declared.status.Status.{Status}
use Rattle.lin_texts.specs.declared.faults.RunFault.{RunFault}
use Rattle.lin_texts.specs.declared.faults.RunFault.TheVariants.{WriteFailed, OutOfMemory}
use Rattle.lin_program.specs.Exit.{SystemWords, worst}
use Rattle.lin_program.specs.Tasks.{Running, fault_rest, heading_in, is_map_ended, lack_in}
use Rattle.lin_report.specs.declared.asked_keys.RunEnding.{RunEnding}
use Rattle.lin_report.specs.declared.asked_keys.RunEnding.TheVariants as ending
use Rattle.lin_report.specs.declared.formats.ReportFormat.{ReportFormat}
use Rattle.lin_program.specs.declared.endings.Stop.{Stop}
use Rattle.lin_program.specs.declared.endings.Stop.TheVariants.{NotOpened, NoKey, Written, FaultWritten, Fault}

-- Runs end so at the file of this name, which can't be opened: this line is written in its place, or, where there is none, nothing.
abbrev pub IsEndAt : Option (List ℕ) → List ℕ → Option (List ℕ) → Option (List ℕ) → Stop → Type 0
IsEndAt None name before after stop = ((path : Bor (List ℕ)) × (stop ≡ NotOpened path) × (path.now ≡ name)) × (after ≡ before)
IsEndAt (Some line) name before after stop =
    ((stop ≡ Written) × Appends before after line)
    ⊎ ((stop ≡ Fault WriteFailed) × ((n : ℕ) × Appends before after (take n line)))
    ⊎ ((stop ≡ Fault OutOfMemory) × Keeps before after)

-- the outcome of runs that a fault of one run stops
abbrev pub stopped : Result Status RunFault → Result Status Stop
stopped (Ok status) = Ok status
stopped (Err fault) = Err (Fault fault)

-- the outcome of runs of which one ends so over the file of this name: a key that no event has stops them, as a fault does
abbrev pub IsEndedAt : List ℕ → Result RunEnding RunFault → Result Status Stop → Type 0
IsEndedAt name (Ok (ending.Answered status)) outcome = outcome ≡ Ok status
IsEndedAt name (Ok (ending.NoKey words)) outcome = (path : Bor (List ℕ)) × (outcome ≡ Err (NoKey path words)) × (path.now ≡ name)
IsEndedAt name (Err fault) outcome = outcome ≡ Err (Fault fault)

-- Runs go on so behind one that ended so over the file of this name. Where it failed, what is left of the map that tells of the file is written, if
-- reports are such maps; else nothing is.
abbrev pub IsEndedIn : ReportFormat → List ℕ → Result RunEnding RunFault → Option (List ℕ) → Option (List ℕ) → Result Status Stop → Type 0
IsEndedIn format name (Ok ended) before after outcome = IsEndedAt name (Ok ended) outcome × (after ≡ before)
IsEndedIn format name (Err fault) before after outcome =
    MatchBool (is_map_ended format fault)
    (((outcome ≡ Err (FaultWritten fault)) × Appends before after (fault_rest fault))
    ⊎ ((outcome ≡ Err (Fault WriteFailed)) × ((n : ℕ) × Appends before after (take n (fault_rest fault)))))
    (IsEndedAt name (Err fault) outcome × (after ≡ before))

-- a run over the file of this name, which holds this at first, and what is written of how it ended
abbrev pub IsRunOn : Running → ReportFormat → List ℕ → Option (List ℕ) → Option (List ℕ) → Option (List ℕ) → Result Status Stop → Type 0
IsRunOn running format name file before after outcome =
    (left : Option (List ℕ)) × (between : Option (List ℕ)) × (run : Result RunEnding RunFault)
    × running file left before between run × IsEndedIn format name run between after outcome

-- The same, behind what names the file where it is one of several: that is written, and then what the run writes; or it couldn't be written whole, and
-- there was no run.
abbrev pub IsRunBehind : Running → ReportFormat → Bool → List ℕ → Option (List ℕ) → Option (List ℕ) → Option (List ℕ) → Result Status Stop → Type 0
IsRunBehind running format false name file before after outcome = IsRunOn running format name file before after outcome
IsRunBehind running format true name file before after outcome =
    ((behind : Option (List ℕ)) × Appends before behind (heading_in format name) × IsRunOn running format name file behind after outcome)
    ⊎ ((outcome ≡ Err (Fault WriteFailed)) × ((n : ℕ) × Appends before after (take n (heading_in format name))))
    ⊎ ((outcome ≡ Err (Fault OutOfMemory)) × Keeps before after)

-- the name is that of standard input
abbrev pub is_input : List ℕ → Bool
is_input name = bytes_eq name (codes "-")

-- what it is to report on the file of a name: from what was written before to what is written then, and how that ends
abbrev pub Reporting : Type 1
Reporting = List ℕ → Option (List ℕ) → Option (List ℕ) → Result Status Stop → Type 0

-- Files of these names were reported on, one behind the other: what is written then, and the statuses.
pub data AreReports (reports : Reporting) (start : Option (List ℕ)) : List (List ℕ) → Option (List ℕ) → List Status → Type 0 where
  nothing : AreReports reports start [] start []
  one_more : {names : List (List ℕ)} {before : Option (List ℕ)} {statuses : List Status} →
      AreReports reports start names before statuses → (name : List ℕ) (after : Option (List ℕ)) (status : Status) →
      reports name before after (Ok status) → AreReports reports start (names ++ name ∷ []) after (statuses ++ status ∷ [])

-- Behind some first files there is no other, and the worst of their statuses is the outcome; or the report on the next one ends early.
abbrev pub EndsBehind : Reporting → List (List ℕ) → List Status → Option (List ℕ) → Result Status Stop → Type 0
EndsBehind reports [] statuses before outcome = outcome ≡ Ok (worst statuses)
EndsBehind reports (name ∷ names) statuses before outcome =
    (stop : Stop) × (outcome ≡ Err stop) × ((after : Option (List ℕ)) × reports name before after (Err stop))

-- Files of these names are reported on, one behind the other, from what was written at first: all of them, or some first ones and a part of
-- the next one.
abbrev pub AreReportedFrom : Reporting → Option (List ℕ) → List (List ℕ) → Result Status Stop → Type 0
AreReportedFrom reports start names outcome =
    (done : List (List ℕ)) × (rest : List (List ℕ)) × (names ≡ done ++ rest)
    × (after : Option (List ℕ)) × (statuses : List Status) × AreReports reports start done after statuses × EndsBehind reports rest statuses after outcome

-- each of the names is one of those of the files
abbrev pub AreAmong : List (List ℕ) → List (Bor (List ℕ)) → Type 0
AreAmong files names = All (λ (name : Bor (List ℕ)). Contains files name.now) names

-- The bytes that a file and standard input hold are given by two functions.
module _ {S F C O : Type 0} (system : SystemWords S F C O) (held : F → Option (List ℕ)) (commanded : C → Option (List ℕ)) (now : S) where
  -- the file of this name holds these bytes: standard input for `-`, else the file that the system opens
  abbrev pub Holds : List ℕ → Option (List ℕ) → Type 0
  Holds name bytes = ((is_input name ≡ true) × ((input : C) × system.reads now input × (bytes ≡ commanded input)))
      ⊎ ((is_input name ≡ false) × ((file : F) × system.opens now name file × (bytes ≡ held file)))

  -- the stop is that the system can't open the file of this name, which isn't standard input
  abbrev pub IsNotOpened : List ℕ → Stop → Type 0
  IsNotOpened name stop = (path : Bor (List ℕ)) × (stop ≡ NotOpened path) × (path.now ≡ name) × (is_input name ≡ false) × system.lacks now name

  -- The file of a name is reported on in a format, behind what names it where it is one of several; or it can't be opened.
  abbrev pub IsReportOn : Running → ReportFormat → Bool → Reporting
  IsReportOn running format is_named name before after outcome =
      ((file : Option (List ℕ)) × Holds name file × IsRunBehind running format is_named name file before after outcome)
      ⊎ ((stop : Stop) × (outcome ≡ Err stop) × (is_input name ≡ false) × system.lacks now name × IsEndAt (lack_in format name) name before after stop)

  -- the files of these names are reported on, which are several or not; then each is behind what names it. A function gives what the output holds
  abbrev pub AreReportedAs : (O → Option (List ℕ)) → (Bool → Running) → (Bool → ReportFormat) → Bool → List (List ℕ) → Result Status Stop → Type 0
  AreReportedAs written running format several names outcome =
      (out : O) × system.writes now out × AreReportedFrom (IsReportOn (running several) (format several) several) (written out) names outcome

  abbrev pub AreReported : (O → Option (List ℕ)) → (Bool → Running) → (Bool → ReportFormat) → List (List ℕ) → Result Status Stop → Type 0
  AreReported written running format names outcome = AreReportedAs written running format (nat_lt 1 (length names)) names outcome
