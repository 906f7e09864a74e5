use Rattle.std.proofs.Common.{◌≡◌, drop}
use Rattle.lin_names.specs.Spelled.{spelled, spelled_cmp}
use Rattle.lin_possibilities.proofs.Comparing.{compared}
use Rattle.lin_possibilities.proofs.ranks.compare_items.Given as goal

abbrev pub invariant-loop-at : goal.invariant-loop-at
invariant-loop-at l = compared spelled_cmp (spelled l.names) l.items l.others ≡ compared spelled_cmp (spelled l.names) (drop l.at l.items) (drop l.at l.others)
