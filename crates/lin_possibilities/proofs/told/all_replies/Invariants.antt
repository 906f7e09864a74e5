use Rattle.std.proofs.Common.{take}
use Rattle.std.specs.Prelude.{option_map}
use Rattle.lin_possibilities.specs.Ranks.{reply_rank}
use Rattle.std.specs.List.{AllZip}
use Rattle.lin_possibilities.specs.declared.possibilities.Possibility.TheVariants.{Reply as AReply}
use Rattle.lin_possibilities.specs.inner.OutcomesTelling.{IsTold}
use Rattle.lin_possibilities.proofs.told.all_replies.Given as goal

abbrev pub invariant-loop-entry : goal.invariant-loop-entry
invariant-loop-entry l = AllZip (IsTold l.names (reply_rank l.names (option_map (λ m. m.now) l.recorded)) AReply) (take l.entry-index l.found) l.told.items
