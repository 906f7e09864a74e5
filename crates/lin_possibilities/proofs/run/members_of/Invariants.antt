use Rattle.std.proofs.Common.{◌≡◌, take}
use Rattle.lin_possibilities.proofs.run.members_of.Given as goal

abbrev pub invariant-loop-at : goal.invariant-loop-at
invariant-loop-at l = l.members.items ≡ take l.at l.frontier
