use Rattle.lin_order.specs.lemmas.Ending.{start_lem}
use Rattle.lin_order.proofs.configurations.configurations_at_start.Goals as goal

pub returns : goal.returns
returns g c = start_lem _ _
