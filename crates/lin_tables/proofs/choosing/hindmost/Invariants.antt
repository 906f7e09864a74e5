use Rattle.lin_tables.specs.WindowTables.{listing_of}
use Rattle.lin_tables.proofs.Choices.{IsHindmostBelow}
use Rattle.lin_tables.proofs.choosing.hindmost.Given as goal

abbrev pub invariant-loop-at : goal.invariant-loop-at
invariant-loop-at l = IsHindmostBelow (listing_of l.listed) l.chosen l.at l.last
