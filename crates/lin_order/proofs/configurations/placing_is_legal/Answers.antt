use Rattle.lin_order.specs.lemmas.Placing.{placing_lem}
use Rattle.lin_order.proofs.configurations.placing_is_legal.Goals as goal

pub returns : goal.returns
returns g c = placing_lem _ _
