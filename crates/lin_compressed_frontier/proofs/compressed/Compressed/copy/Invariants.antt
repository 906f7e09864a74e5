use Rattle.std.proofs.Common.{◌≡◌, take}
use Rattle.lin_compressed_frontier.proofs.compressed.Compressed.copy.Given as goal

abbrev pub invariant-loop-member : goal.invariant-loop-member
invariant-loop-member g l = l.members.items ≡ take l.member-index l.self
