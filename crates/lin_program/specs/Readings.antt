-- What is told of files that were read, beside what is found.
use Rattle.std.specs.Prelude.{◌≡◌, ◌<◌, ℕ, Bool, List, [], ◌∷◌, ◌++◌, All, Contains}
use Rattle.lin_program.specs.Exit.{SystemWords}
use Rattle.lin_program.specs.declared.readings.Reading.{Reading}
use Rattle.lin_program.specs.declared.system.Message.{Message}
use Rattle.lin_program.specs.declared.system.Message.TheVariants as message

-- the message tells of the file that was read which of its maps were passed over, and whether no event was read; or, where none were, that none was
abbrev pub TellsOfReading : Reading → Message → Type 0
TellsOfReading reading (message.NothingRead path) = (path ≡ reading.name) × (reading.passed.count ≡ 0)
TellsOfReading reading (message.PassedOver path passed is_empty) = (path ≡ reading.name) × (passed.now ≡ reading.passed) × (is_empty ≡ reading.is_empty) × (0 < reading.passed.count)
TellsOfReading reading _ = ⊥

module _ {S F C O : Type 0} (system : SystemWords S F C O) (old : S) where
  -- that was told, or couldn't be
  abbrev pub IsTold : Reading → S → Type 0
  IsTold reading new = (m : Message) × TellsOfReading reading m × ((told : Bool) × system.tells old m told new)

-- of these readings, one after the other: from the old system on
pub data AreTold {S F C O : Type 0} (system : SystemWords S F C O) (old : S) : List Reading → S → Type 0 where
  nothing : AreTold system old [] old
  one_more : {readings : List Reading} {now : S} → AreTold system old readings now → (reading : Reading) (new : S) →
      IsTold system now reading new → AreTold system old (readings ++ reading ∷ []) new

-- each is of one of these files
abbrev pub AreReadingsOf : List (List ℕ) → List Reading → Type 0
AreReadingsOf files readings = All (λ reading. Contains files reading.name.now) readings
