use Rattle.lin_events.specs.lemmas.Alternating.{one_end}
use Rattle.lin_events.proofs.laws.ends_are_unique.Goals as goal

pub returns : goal.returns
returns c = one_end
