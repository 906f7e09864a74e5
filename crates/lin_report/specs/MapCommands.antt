-- What the code reads of a key and of a map in a line: cited by the contracts of private functions alone.
use Rattle.std.specs.Prelude.{◌≡◌, ◌≤◌, ◌⊎◌, ℕ, Bool, true, false, List, length, Option, Result, Ok, Err}
use Rattle.lin_edn.specs.Grammar.{IsBlankText}
use Rattle.lin_events.specs.declared.items.Item.{Item}
use Rattle.lin_answers.specs.declared.answers.Scope.{Scope}
use Rattle.lin_answers.specs.declared.answers.Scope.TheVariants.{Object}
use Rattle.lin_report.specs.Commands.{TakesMemory}
use Rattle.lin_report.specs.declared.commands.Command.{Command}
use Rattle.lin_report.specs.declared.commands.CommandFault.{CommandFault}
use Rattle.lin_report.specs.declared.commands.CommandFault.TheVariants.{OutOfMemory}
use Rattle.lin_report.specs.declared.senses.Sense.{Sense}
use Rattle.lin_report.specs.declared.senses.Sense.TheVariants.{Nothing, Plain, Map}

-- a place for a map is in the line
abbrev pub IsWithin : List ℕ → Result Sense CommandFault → Type 0
IsWithin line (Ok Nothing) = Unit {0}
IsWithin line (Ok (Plain command)) = Unit {0}
IsWithin line (Ok (Map target from)) = from ≤ length line
IsWithin line (Err fault) = Unit {0}

-- whether a text is blank, an unfinished comment at its end aside; or memory was refused
abbrev pub IsBlankOrNot : List ℕ → Result Bool CommandFault → Type 0
IsBlankOrNot text (Ok true) = (n : ℕ) × IsBlankText text n
IsBlankOrNot text (Ok false) = (n : ℕ) → IsBlankText text n → ⊥
IsBlankOrNot text (Err fault) = fault ≡ OutOfMemory

-- what is wanted; or, where that isn't refused, that memory was
abbrev pub IsOrNoMemory : {A : Type 0} → Result A CommandFault → Result A CommandFault → Type 0
IsOrNoMemory {A} wanted answer = (answer ≡ wanted) ⊎ ((x : A) × (wanted ≡ Ok x) × (answer ≡ Err OutOfMemory))

-- the scope that is wanted; or, where that is an object, that memory was refused
abbrev pub IsScope : Result Scope CommandFault → Result Scope CommandFault → Type 0
IsScope wanted answer = (answer ≡ wanted) ⊎ ((key : Item) × (wanted ≡ Ok (Object key)) × (answer ≡ Err OutOfMemory))

-- what the words say; or, where that takes memory, that it was refused
abbrev pub IsSense : Result Sense CommandFault → Result Sense CommandFault → Type 0
IsSense wanted answer = (answer ≡ wanted) ⊎ ((s : Sense) × (wanted ≡ Ok s) × TakesMemory s × (answer ≡ Err OutOfMemory))

-- the command that is wanted; or memory was refused
abbrev pub IsMade : Result (Option Command) CommandFault → Result (Option Command) CommandFault → Type 0
IsMade wanted answer = (answer ≡ wanted) ⊎ (answer ≡ Err OutOfMemory)
