use Rattle.std.proofs.Common.{length, ◌-◌, ◌≤◌, ◌<◌, ℕ, get_or}
use Rattle.lin_events.specs.declared.calls.Reply.{Reply}
use Rattle.lin_order.proofs.ref_configs.place_of.Given as goal

abbrev pub invariant-loop-i : goal.invariant-loop-i
invariant-loop-i l = record {
  within : l.i ≤ length l.placed;
  below : (k : ℕ) (d : ℕ × Reply) → k < l.i → (get_or l.placed k d).0 < l.process;
}

abbrev pub decreases-loop-i : goal.decreases-loop-i
decreases-loop-i l = length l.placed - l.i
