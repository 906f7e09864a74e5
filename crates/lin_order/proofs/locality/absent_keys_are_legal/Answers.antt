use Rattle.lin_order.proofs.Local.{absent_keys_lem}
use Rattle.lin_order.proofs.locality.absent_keys_are_legal.Goals as goal

pub returns : goal.returns
returns c = absent_keys_lem
