use Rattle.std.proofs.Common.{◌<◌, ◌≤◌}
use Rattle.lin_certificates.specs.Numbers.{AtMost}
use Rattle.lin_queues.specs.Ranks.{MayPutItem}
use Rattle.lin_queues.specs.inner.Returning.{IsReturnedBy}
use Rattle.lin_queues.proofs.counts.puts_between.Given as goal

abbrev pub invariant-loop-at : goal.invariant-loop-at
invariant-loop-at l = (l.puts ≤ l.at) × AtMost l.puts (λ k. (MayPutItem l.events l.item k × (k < l.places.upper) × (IsReturnedBy l.events k l.places.lower → ⊥)) × (k < l.at))
