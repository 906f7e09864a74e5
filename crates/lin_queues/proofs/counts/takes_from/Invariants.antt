use Rattle.std.proofs.Common.{◌<◌, ◌≤◌}
use Rattle.lin_certificates.specs.Numbers.{AtLeast}
use Rattle.lin_queues.specs.Ranks.{HasTakenItem}
use Rattle.lin_queues.proofs.counts.takes_from.Given as goal

abbrev pub invariant-loop-at : goal.invariant-loop-at
invariant-loop-at l = (l.takes ≤ l.at) × AtLeast l.takes (λ k. (HasTakenItem l.events l.item k × (l.from ≤ k)) × (k < l.at))
