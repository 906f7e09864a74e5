use Rattle.lin_events.specs.lemmas.ShapeLemmas.{not_bad, bad_within, shape_alike}
use Rattle.lin_events.proofs.laws.bad_positions.Goals as goal

pub returns-clause-good : goal.returns-clause-good
returns-clause-good c = not_bad

pub returns-clause-beginnings : goal.returns-clause-beginnings
returns-clause-beginnings c = bad_within

pub returns-clause-functions : goal.returns-clause-functions
returns-clause-functions c = shape_alike
