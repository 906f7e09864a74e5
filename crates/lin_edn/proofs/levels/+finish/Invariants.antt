use Rattle.std.proofs.Common.{length}
use Rattle.lin_edn.specs.inner.Levels.{frames_of}
use Rattle.lin_edn.proofs.levels.+finish.Given as goal

abbrev pub decreases-finish : goal.decreases-finish
decreases-finish l = length (frames_of l.stack.now.items)
