use Rattle.lin_order.proofs.PartOperations.{parts_are_well_formed_lem, parts_keep_operations_lem}
use Rattle.lin_order.proofs.part_laws.parts_keep_operations.Goals as goal

pub returns-clause-well_formed : goal.returns-clause-well_formed
returns-clause-well_formed c = parts_are_well_formed_lem c.well_formed_is_alternating.ensures

pub returns-clause-operations : goal.returns-clause-operations
returns-clause-operations c = parts_keep_operations_lem c.well_formed_is_alternating.ensures
