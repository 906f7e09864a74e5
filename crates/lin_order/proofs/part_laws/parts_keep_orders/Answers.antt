use Rattle.lin_order.proofs.PartOrders.{renamed_orders_lem, can_be_renamed_lem, linearizable_by_part_lem}
use Rattle.lin_order.proofs.part_laws.parts_keep_orders.Goals as goal

pub returns-clause-renamed : goal.returns-clause-renamed
returns-clause-renamed c = renamed_orders_lem c.well_formed_is_alternating.ensures

pub returns-clause-all : goal.returns-clause-all
returns-clause-all c = can_be_renamed_lem

pub returns-clause-linearizable : goal.returns-clause-linearizable
returns-clause-linearizable c = linearizable_by_part_lem c.well_formed_is_alternating.ensures
