use Rattle.std.proofs.Common.{◌<◌, ◌≤◌}
use Rattle.lin_certificates.specs.Numbers.{AtLeast}
use Rattle.lin_order.specs.Orders.{IsBefore}
use Rattle.lin_queues.specs.Ranks.{HasTaken}
use Rattle.lin_queues.proofs.counts.takes_before.Given as goal

abbrev pub invariant-loop-at : goal.invariant-loop-at
invariant-loop-at l = (l.takes ≤ l.at) × AtLeast l.takes (λ k. (HasTaken l.events k × IsBefore l.events k l.place) × (k < l.at))
