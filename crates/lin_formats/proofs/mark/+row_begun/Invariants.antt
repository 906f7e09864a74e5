use Rattle.std.proofs.Common.{◌-◌, length}
use Rattle.lin_formats.proofs.mark.+row_begun.Given as goal

abbrev pub decreases-row_begun : goal.decreases-row_begun
decreases-row_begun l = length l.text.now - l.at
