use Rattle.std.proofs.Common.{◌≡◌, ◌++◌, take}
use Rattle.lin_frontier.proofs.configs.append_pairs.Given as goal

abbrev pub invariant-loop-pair : goal.invariant-loop-pair
invariant-loop-pair l = l.copy ≡ l.fn.copy ++ take l.pair-index l.pairs
