use Rattle.std.proofs.Common.{◌-◌, length}
use Rattle.lin_names.specs.Names.{Begins}
use Rattle.lin_history.specs.Reading.{Reading, IsReading}
use Rattle.lin_formats.specs.inner.Marks.{IsPutBehind}
use Rattle.lin_formats.proofs.PlacesReading.{IsReadUp, IsUp}
use Rattle.lin_formats.proofs.mark.read_on.Given as goal

abbrev pub invariant-elements : goal.invariant-elements
invariant-elements l = record {
  begun : Begins l.fn.names l.names;
  put : IsPutBehind l.fn.places.items l.places.items;
  up : IsUp l.text l.at l.place;
  read : (k : Reading) → IsReading l.keyed l.names k → IsReadUp k l.text l.fn.place l.at l.place l.fn.places.items l.places.items;
}

abbrev pub decreases-elements : goal.decreases-elements
decreases-elements l = length l.text - l.at
