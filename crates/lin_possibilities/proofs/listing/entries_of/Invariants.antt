use Rattle.std.proofs.Common.{take}
use Rattle.std.specs.List.{AllZip}
use Rattle.lin_possibilities.specs.inner.OutcomesTelling.{Leads}
use Rattle.lin_possibilities.proofs.listing.entries_of.Given as goal

abbrev pub invariant-loop-one : goal.invariant-loop-one
invariant-loop-one l = AllZip (Leads l.leading_by) (take l.one-index l.told) l.entries.items
