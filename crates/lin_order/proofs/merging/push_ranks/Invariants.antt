use Rattle.std.proofs.Common.{◌≡◌, ◌++◌, map, take}
use Rattle.lin_order.specs.inner.Merging.{ranks_from}
use Rattle.lin_order.proofs.RankLists.{greatest}
use Rattle.lin_order.proofs.merging.push_ranks.Given as goal

abbrev pub invariant-loop-placed : goal.invariant-loop-placed
invariant-loop-placed l = record {
  rank : l.rank ≡ greatest 0 (take l.placed-index l.part);
  ranks : l.ranks.items ≡ l.fn.ranks.items ++ map (λ r. (r, l.number)) (ranks_from 0 (take l.placed-index l.part));
}
