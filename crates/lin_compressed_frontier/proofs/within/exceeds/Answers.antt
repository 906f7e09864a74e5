use Rattle.std.proofs.Common.{arith}
use Rattle.std.proofs.lemmas.Grind.{common_steps}
use Rattle.lin_compressed_frontier.proofs.within.exceeds.Goals as goal

pub returns-clause-nodes : goal.returns-clause-nodes
returns-clause-nodes g c = grind (arith, common_steps)

pub returns-in-Ok-None-clause-nodes : goal.returns-in-Ok-None-clause-nodes
returns-in-Ok-None-clause-nodes g c = grind (arith, common_steps)

pub returns-in-Ok-Some-clause-nodes : goal.returns-in-Ok-Some-clause-nodes
returns-in-Ok-Some-clause-nodes g c = grind (arith, common_steps)
