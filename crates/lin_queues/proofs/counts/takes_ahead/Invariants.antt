use Rattle.std.proofs.Common.{◌<◌, ◌≤◌}
use Rattle.lin_certificates.specs.Numbers.{AtMost}
use Rattle.lin_queues.specs.Ranks.{MayTake}
use Rattle.lin_queues.proofs.counts.takes_ahead.Given as goal

abbrev pub invariant-loop-at : goal.invariant-loop-at
invariant-loop-at l = (l.takes ≤ l.at) × AtMost l.takes (λ k. (MayTake l.events k × (k < l.place)) × (k < l.at))
