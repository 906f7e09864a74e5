use Rattle.std.proofs.Common.{◌≡◌, ◌++◌, take, drop}
use Rattle.lin_order.specs.Parts.{renamed}
use Rattle.lin_session.proofs.object.rename.Given as goal

abbrev pub invariant-loop-placed : goal.invariant-loop-placed
invariant-loop-placed l = l.placed-items ≡ renamed l.picks (take l.placed-index l.fn.order.items) ++ drop l.placed-index l.fn.order.items
