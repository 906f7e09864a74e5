-- How the program ends on words, over any system.
use Rattle.std.specs.Prelude.{◌≡◌, ◌⊎◌, ℕ, Bool, List, Option, if◌then◌else◌}
use Rattle.std.specs.declared.io.ErrorKind.{ErrorKind as IoKind}
use Rattle.std.specs.declared.io.ErrorKind.TheVariants as io_kind
use Rattle.clap.specs.Words.{Text, kind_of}
use Rattle.clap.specs.declared.error.Error.{Error}
use Rattle.clap.specs.declared.error.kind.ErrorKind.TheVariants.{OutOfMemory}
use Rattle.lin_program.specs.CommandLine.{IsLineOf, IsRefusalOf}
use Rattle.lin_program.specs.declared.words.Line.{Line}
use Rattle.lin_program.specs.Endings.{Ends}
use Rattle.lin_program.specs.Exit.{SystemWords, refusal_status}
use Rattle.lin_program.specs.declared.system.Message.{Message}
use Rattle.lin_program.specs.declared.system.Message.TheVariants.{Refusal, OutOfMemory as NoMemory, NoText}

-- the message tells of the error
abbrev pub TellsOf : Error → Message → Type 0
TellsOf e (Refusal error) = error.now ≡ e
TellsOf e NoMemory = kind_of e ≡ OutOfMemory
TellsOf e _ = ⊥

-- The program ends so on these words: as it ends on the line that they say; or it tells of their refusal, and ends with its exit status, or
-- with 6 where that couldn't be told.
abbrev pub EndsOnWords : {S F C O : Type 0} → SystemWords S F C O → (F → Option (List ℕ)) → (C → Option (List ℕ)) → (O → Option (List ℕ)) → S → S → List Text → ℕ → Type 0
EndsOnWords system held commanded written old new words status = ((line : Line) × IsLineOf words line × Ends system old new held commanded written line status)
    ⊎ ((e : Error) × IsRefusalOf words e × (m : Message) × TellsOf e m × (told : Bool) × system.tells old m told new × (status ≡ (if told then refusal_status (kind_of e) else 6)))

-- There are no words of a command line. The program tells that memory ran out, where that is why, and ends with 6; else that the words are no
-- text, and ends with 5, or with 6 where that couldn't be told.
abbrev pub EndsWithoutWords : {S F C O : Type 0} → SystemWords S F C O → IoKind → S → S → ℕ → Type 0
EndsWithoutWords system io_kind.OutOfMemory old new status = (told : Bool) × system.tells old NoMemory told new × (status ≡ 6)
EndsWithoutWords system _ old new status = (told : Bool) × system.tells old NoText told new × (status ≡ (if told then 5 else 6))
