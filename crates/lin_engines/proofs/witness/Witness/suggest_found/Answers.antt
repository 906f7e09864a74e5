use Rattle.lin_engines.proofs.Growing.{same_hint}
use Rattle.lin_engines.proofs.witness.Witness.suggest_found.Goals as goal

pub returns-in-Some-clause-longer : goal.returns-in-Some-clause-longer
returns-in-Some-clause-longer c = same_hint c.args.self.now c.in-Some.hint
