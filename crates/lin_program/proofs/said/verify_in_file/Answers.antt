use Rattle.std.proofs.Common.{refl, rules}
use Rattle.lin_program.proofs.said.verify_in_file.Goals as goal

pub returns-clause-said : goal.returns-clause-said
returns-clause-said c = (refl, search rules, search rules)
