use Rattle.std.proofs.Common.{refl, arith}
use Rattle.lin_events.proofs.lists.Items.new.Goals as goal

pub invariant_of-result : goal.invariant_of-result
invariant_of-result c = (omega arith, refl)
