use Rattle.lin_names.proofs.Spellings.{number_at, stays_once}
use Rattle.lin_names.specs.lemmas.Begins.{agrees_before}
use Rattle.lin_names.proofs.names.names_grow.Goals as goal

pub returns-clause-once : goal.returns-clause-once
returns-clause-once c = stays_once

pub returns-clause-agree : goal.returns-clause-agree
returns-clause-agree c = λ names once w n at. number_at names w n once at

pub returns-clause-narrow : goal.returns-clause-narrow
returns-clause-narrow c = agrees_before
