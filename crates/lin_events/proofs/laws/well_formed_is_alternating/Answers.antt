use Rattle.lin_events.specs.lemmas.Alternating.{alternates, well_formed_again}
use Rattle.lin_events.proofs.laws.well_formed_is_alternating.Goals as goal

pub returns : goal.returns
returns c = λ functions h. (alternates functions h, well_formed_again functions h)
