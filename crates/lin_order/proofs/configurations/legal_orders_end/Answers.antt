use Rattle.lin_order.specs.lemmas.Ending.{ends}
use Rattle.lin_order.proofs.configurations.legal_orders_end.Goals as goal

pub returns : goal.returns
returns g c functions h order well_formed is = ends functions h ((c.well_formed_is_alternating.ensures functions h).0 well_formed) _ _ order is
