use Rattle.lin_tables.specs.WindowTables.{HasMark, listing_of}
use Rattle.lin_tables.proofs.Choices.{IsChoiceBelow}
use Rattle.lin_tables.proofs.choosing.choose.Given as goal

abbrev pub invariant-loop-at : goal.invariant-loop-at
invariant-loop-at l = IsChoiceBelow (λ x. HasMark l.events (listing_of l.listed) x.at x.mark) (listing_of l.listed) l.at l.shown.items l.more
