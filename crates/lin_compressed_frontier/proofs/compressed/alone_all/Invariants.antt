use Rattle.std.proofs.Common.{◌≡◌, ◌++◌, drop, map, take}
use Rattle.lin_members.specs.Asking.{alone_of}
use Rattle.lin_compressed_frontier.proofs.compressed.alone_all.Given as goal

abbrev pub invariant-loop-member : goal.invariant-loop-member
invariant-loop-member g l = l.member-items ≡ map alone_of (take l.member-index l.fn.members.items) ++ drop l.member-index l.fn.members.items
