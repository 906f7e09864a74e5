use Rattle.std.proofs.Common.{take}
use Rattle.lin_possibilities.specs.Ranks.{state_rank}
use Rattle.std.specs.List.{AllZip}
use Rattle.lin_possibilities.specs.declared.possibilities.Possibility.TheVariants.{State as AState}
use Rattle.lin_possibilities.specs.inner.OutcomesTelling.{IsTold}
use Rattle.lin_possibilities.proofs.told.all_states.Given as goal

abbrev pub invariant-loop-entry : goal.invariant-loop-entry
invariant-loop-entry l = AllZip (IsTold l.names (state_rank l.names) AState) (take l.entry-index l.found) l.told.items
