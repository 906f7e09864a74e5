use Rattle.lin_order.proofs.Growing.{no_positions_lem, parts_grow_lem}
use Rattle.lin_order.proofs.part_laws.parts_grow.Goals as goal

pub returns-clause-empty : goal.returns-clause-empty
returns-clause-empty c = no_positions_lem

pub returns-clause-more : goal.returns-clause-more
returns-clause-more c = parts_grow_lem
