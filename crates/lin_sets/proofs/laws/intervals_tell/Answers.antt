use Rattle.std.proofs.Common.{take}
use Rattle.lin_sets.specs.Intervals.{reached_in}
use Rattle.lin_sets.proofs.Free.{no_conflict}
use Rattle.lin_sets.proofs.laws.intervals_tell.Goals as goal

pub returns : goal.returns
returns c = λ intervals h told. c.others_are_linearizable.ensures (take (reached_in intervals) h) (no_conflict intervals (take (reached_in intervals) h) told)
