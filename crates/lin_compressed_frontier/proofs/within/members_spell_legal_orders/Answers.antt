use Rattle.lin_compressed_frontier.proofs.Compressing.{compressed_legal}
use Rattle.lin_compressed_frontier.proofs.within.members_spell_legal_orders.Goals as goal

pub returns : goal.returns
returns g c object = compressed_legal _ _ _ _
