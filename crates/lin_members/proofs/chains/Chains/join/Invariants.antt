use Rattle.std.proofs.Common.{◌≡◌, ◌≤◌, List, drop, length, reverse}
use Rattle.lin_order.specs.declared.placed.Placed.{Placed}
use Rattle.lin_members.specs.Rounds.{joined}
use Rattle.lin_members.specs.inner.Chains.{AreChained}
use Rattle.lin_members.proofs.chains.Chains.join.Given as goal

abbrev pub invariant-loop-round : goal.invariant-loop-round
invariant-loop-round l =
    (l.round ≤ length l.self.ends.items) × ((rounds : List (List Placed)) → AreChained l.self rounds → l.order.items ≡ reverse (joined (drop l.round rounds)))

abbrev pub decreases-loop-round : goal.decreases-loop-round
decreases-loop-round l = l.round
