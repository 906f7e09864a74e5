use Rattle.std.proofs.Common.{length}
use Rattle.lin_edn.specs.Skimming.{shapes_of}
use Rattle.lin_edn.proofs.skim.+put.Given as goal

abbrev pub decreases-put : goal.decreases-put
decreases-put l = length (shapes_of l.levels.now.items)
