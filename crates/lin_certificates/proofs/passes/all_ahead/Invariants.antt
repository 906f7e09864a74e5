use Rattle.std.proofs.Common.{◌<◌, ℕ}
use Rattle.lin_order.specs.Orders.{IsBefore}
use Rattle.lin_certificates.specs.Words.{IsOfWhich}
use Rattle.lin_certificates.proofs.passes.all_ahead.Given as goal

abbrev pub invariant-loop-at : goal.invariant-loop-at
invariant-loop-at l = (k : ℕ) → k < l.at → IsOfWhich l.events l.which k → IsBefore l.events k l.place
