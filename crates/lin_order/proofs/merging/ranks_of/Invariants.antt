use Rattle.std.proofs.Common.{take}
use Rattle.lin_order.specs.Merging.{lists_of}
use Rattle.lin_order.proofs.RankSorting.{HasRanks}
use Rattle.lin_order.proofs.merging.ranks_of.Given as goal

abbrev pub invariant-loop-number : goal.invariant-loop-number
invariant-loop-number l = HasRanks (take l.number (lists_of l.parts)) l.ranks.items
