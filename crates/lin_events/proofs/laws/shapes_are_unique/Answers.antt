use Rattle.lin_events.specs.lemmas.ShapeLemmas.{one_shape}
use Rattle.lin_events.proofs.laws.shapes_are_unique.Goals as goal

pub returns : goal.returns
returns c = one_shape
