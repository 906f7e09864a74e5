-- What ran since the object was quiet.
use Rattle.std.specs.Prelude.{◌≡◌, ◌++◌, ℕ, List, codes, decimal, take}
use Rattle.lin_objects.specs.declared.kinds.Kind.{Kind}
use Rattle.lin_order.specs.Parts.{IsNth}
use Rattle.lin_tables.specs.WindowOperations.{IsLastQuiet}
use Rattle.lin_tables.specs.WindowTables.{IsTable, Told, around}
use Rattle.lin_explain.specs.Possible.{IsWasText}

abbrev pub since_head : ℕ → List ℕ → List ℕ
since_head at was = ((codes "since event " ++ decimal at ++ codes ", before which nothing ran") ++ was) ++ codes " (! fails, ~ ran beside it, * is named above):\n"

-- The stretch since nothing else ran: it begins with the last quiet event that isn't after the failing operation, which stands in the whole history
-- at the position. What the object was before it is told, and a table tells what ran.
pub record IsSinceText (kind : Kind) (budget : ℕ) (stretch : Told) (call : ℕ) (named text : List ℕ) (at : ℕ) : Type 0 where
  pub from : ℕ
  pub was : List ℕ
  pub table : List ℕ
  pub quiet : IsLastQuiet stretch.events call from
  pub stands : IsNth stretch.picks from at
  pub is_was : IsWasText stretch.names kind (take from stretch.events) budget was
  pub is_table : IsTable stretch (around call from named) table
  pub says : text ≡ since_head at was ++ table
