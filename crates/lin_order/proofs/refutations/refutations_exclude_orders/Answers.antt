use Rattle.lin_order.proofs.Refuting.{no_orders}
use Rattle.lin_order.proofs.refutations.refutations_exclude_orders.Goals as goal

pub returns : goal.returns
returns c functions h kind sets well_formed is orders = no_orders functions h kind sets is ((c.well_formed_is_alternating.ensures functions h).0 well_formed) orders
