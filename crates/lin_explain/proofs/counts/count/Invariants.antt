use Rattle.std.proofs.Common.{◌≡◌, ◌≤◌, take}
use Rattle.lin_explain.specs.Counts.{count_in}
use Rattle.lin_explain.proofs.counts.count.Given as goal

abbrev pub invariant-loop-at : goal.invariant-loop-at
invariant-loop-at l = (l.found ≤ l.at) × (l.found ≡ count_in l.key l.sort (take l.at l.present.history))
