-- What is found of a file where a key may be asked about: cited by the contracts of private functions alone.
use Rattle.std.specs.Prelude.{ℕ, List, Option}
use Rattle.lin_names.specs.declared.said.Said.{Said}
use Rattle.lin_texts.specs.declared.settings.Settings.{Settings}
use Rattle.lin_report.specs.AskedKeys.{IsAbsenceTold}
use Rattle.lin_report.specs.Reports.{IsPrinted, Printing}
use Rattle.lin_report.specs.declared.asked_keys.Found.{Found}
use Rattle.lin_report.specs.declared.asked_keys.Found.TheVariants.{Answer, NoKey}

-- something is right to print of the bytes that were read, or that no event has the key is right to tell of them
abbrev pub IsFound : Printing → Settings → Option Said → Option (List ℕ) → Option (List ℕ) → Found → Type 0
IsFound is_right settings said old new (Answer answered) = IsPrinted is_right old new answered.text.items answered.status
IsFound is_right settings said old new (NoKey words) = IsAbsenceTold settings said old new words.items
