use Rattle.std.proofs.Common.{◌≡◌, map, take}
use Rattle.lin_tables.specs.WindowTables.{position_in}
use Rattle.lin_explain.proofs.whys.positions.Given as goal

abbrev pub invariant-loop-at : goal.invariant-loop-at
invariant-loop-at l = l.found.items ≡ map (position_in l.picks) (take l.at-index l.places)
