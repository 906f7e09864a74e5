use Rattle.std.proofs.Common.{◌≡◌, ◌≤◌, ◌+◌}
use Rattle.lin_order.specs.Parts.{events_at}
use Rattle.lin_chain.specs.inner.Refuting.{AreBuilt}
use Rattle.lin_chain.proofs.refuting.refutation_of.Given as goal

abbrev pub invariant-loop-at : goal.invariant-loop-at
invariant-loop-at l = (l.builder.exact.object.kind ≡ l.fn.kind) × AreBuilt l.builder (events_at l.events l.picks) l.at × (l.meter.steps ≤ l.fn.meter.steps + l.at) × (l.meter.scans ≡ l.fn.meter.scans)
