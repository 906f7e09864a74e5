use Rattle.lin_order.proofs.MergedLegal.{merged_orders_lem}
use Rattle.lin_order.proofs.locality.merged_orders_are_legal.Goals as goal

pub returns : goal.returns
returns c = merged_orders_lem
