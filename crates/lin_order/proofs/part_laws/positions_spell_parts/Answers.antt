use Rattle.lin_order.proofs.Positions.{positions_spell_parts_lem}
use Rattle.lin_order.proofs.part_laws.positions_spell_parts.Goals as goal

pub returns : goal.returns
returns c = positions_spell_parts_lem
