use Rattle.lin_compressed_frontier.proofs.Shadowing.{ArePicked}
use Rattle.std.proofs.Common.{take}
use Rattle.lin_compressed_frontier.proofs.thinning.pick_members.Given as goal

abbrev pub invariant-loop-other : goal.invariant-loop-other
invariant-loop-other g l = ArePicked l.members (take l.other-index l.others) l.out.items
