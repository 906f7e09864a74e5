use Rattle.lin_sets.proofs.Refuting.{conflicts_refute_lem}
use Rattle.lin_sets.proofs.conflict_laws.conflicts_refute.Goals as goal

pub returns : goal.returns
returns c = conflicts_refute_lem
