use Rattle.lin_edn.proofs.Unique.{skipped}
use Rattle.lin_edn.proofs.blanks_are_skipped.Goals as goal

pub returns : goal.returns
returns c = skipped
