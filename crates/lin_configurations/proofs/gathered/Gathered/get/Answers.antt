use Rattle.std.proofs.Common.{arith}
use Rattle.std.proofs.lemmas.Grind.{common_steps}
use Rattle.lin_configurations.proofs.gathered.Gathered.get.Goals as goal

pub returns-clause-inside : goal.returns-clause-inside
returns-clause-inside g c = grind (arith, common_steps)

pub returns-clause-past : goal.returns-clause-past
returns-clause-past g c = grind (arith, common_steps)
