use Rattle.std.proofs.Common.{◌-◌, ◌≤◌, length}
use Rattle.lin_names.specs.Names.{Begins}
use Rattle.lin_history.specs.Reading.{Reading, IsReading}
use Rattle.lin_history.specs.inner.Reads.{IsPutBehind}
use Rattle.lin_history.proofs.Reading.{IsReadUp}
use Rattle.lin_history.specs.inner.Passing.{gathered}
use Rattle.lin_history.proofs.follow.read_on.Given as goal

abbrev pub invariant-elements : goal.invariant-elements
invariant-elements l = record {
  begun : Begins l.fn.names l.names;
  put : IsPutBehind l.fn.ready.events.items l.ready.events.items;
  inside : l.at ≤ length l.text;
  read : (m : Reading) → IsReading l.keyed l.names m → IsReadUp m l.text l.at (gathered l.fn.ready) (gathered l.ready);
}

abbrev pub decreases-elements : goal.decreases-elements
decreases-elements l = length l.text - l.at
