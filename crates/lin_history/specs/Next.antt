-- What `next_event` answers.
use Rattle.std.specs.Prelude.{ℕ, Bool, List, Result, Ok, Err}
use Rattle.lin_edn.specs.Grammar.{Spells, IsBlankText, IsUnfinished}
use Rattle.lin_edn.specs.Reading.{Refuses}
use Rattle.lin_edn.specs.Value.{Value}
use Rattle.lin_edn.specs.declared.EdnFault.{EdnFault}
use Rattle.lin_history.specs.Reading.{Reading, IsReading}
use Rattle.lin_history.specs.Table.{event, IsAnswer}
use Rattle.lin_history.specs.declared.next.NextEvent.{NextEvent}
use Rattle.lin_history.specs.declared.next.NextEvent.TheVariants.{Complete, Partial, Blank}

-- what each answer says of a text, read with keys or without by these names: of an element what the table says, else what stands in its place
abbrev pub SaysEvent : Bool → List (List ℕ) → List ℕ → Result NextEvent EdnFault → Type 0
SaysEvent keyed names s (Ok (Complete said used)) = (v : Value) × (at : ℕ) × Spells s v at used ×
    ((m : Reading) → IsReading keyed names m → IsAnswer (event m v) said)
SaysEvent keyed names s (Ok (Partial at)) = IsUnfinished s at
SaysEvent keyed names s (Ok (Blank used)) = IsBlankText s used
SaysEvent keyed names s (Err fault) = Refuses s fault.at fault.cause
