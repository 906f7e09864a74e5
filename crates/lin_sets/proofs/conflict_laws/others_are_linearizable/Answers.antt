use Rattle.lin_sets.proofs.Legal.{others_are_linearizable_lem}
use Rattle.lin_sets.proofs.conflict_laws.others_are_linearizable.Goals as goal

pub returns : goal.returns
returns c = others_are_linearizable_lem
