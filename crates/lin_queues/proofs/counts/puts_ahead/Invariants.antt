use Rattle.std.proofs.Common.{◌<◌, ◌≤◌}
use Rattle.lin_certificates.specs.Numbers.{AtMost}
use Rattle.lin_queues.specs.Ranks.{MayPut}
use Rattle.lin_queues.proofs.counts.puts_ahead.Given as goal

abbrev pub invariant-loop-at : goal.invariant-loop-at
invariant-loop-at l = (l.puts ≤ l.at) × AtMost l.puts (λ k. (MayPut l.events k × (k < l.place)) × (k < l.at))
