-- The law that a line says one thing.
use Rattle.std.specs.Prelude.{◌≡◌, ℕ, List, Option, Result}
use Rattle.lin_history.specs.Reading.{Reading}
use Rattle.lin_report.specs.Commands.{IsCommand}
use Rattle.lin_report.specs.declared.commands.Command.{Command}
use Rattle.lin_report.specs.declared.commands.CommandFault.{CommandFault}

-- a line says one command, or one reason why it is refused
abbrev pub CommandsAreUnique : Type 0
CommandsAreUnique = (m : Reading) (line : List ℕ) (a b : Result (Option Command) CommandFault)
    → IsCommand m line a → IsCommand m line b → a ≡ b
