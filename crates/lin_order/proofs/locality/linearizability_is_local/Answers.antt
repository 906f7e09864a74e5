use Rattle.lin_order.proofs.Local.{is_local_lem}
use Rattle.lin_order.proofs.locality.linearizability_is_local.Goals as goal

pub returns : goal.returns
returns c = is_local_lem
