use Rattle.lin_events.specs.lemmas.Alternating.{beginning_is_well_formed}
use Rattle.lin_events.proofs.laws.beginnings_are_well_formed.Goals as goal

pub returns : goal.returns
returns c = beginning_is_well_formed
